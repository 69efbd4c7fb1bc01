-- The new sections of an image, and the bytes behind the stub.
use Rattle.std.proofs.Common.{◌≡◌, ◌<◌, ◌≤◌, ◌+◌, ◌-◌, ◌*◌, ◌%◌, ℕ, suc, Bool, true, List, [], ◌∷◌, ◌++◌, length, drop, replicate, map, max, Ok, refl, sym, ap, subst, ◌∙◌, arith, length-append, append_assoc, append-nil, drop_at}
use Rattle.std.specs.Int.{next_multiple_of}
use Rattle.std.specs.List.{list_all, flat_map, AllByRecursion}
use Rattle.std.proofs.lemmas.List.Folds.{list_all-append}
use Rattle.std.proofs.lemmas.Bool.{and_from, and_parts, le-leb}
use Rattle.std.proofs.lemmas.Bool.Decides.{nat_tests}
use Rattle.pe_reader.specs.declared.head.Head.{Head}
use Rattle.pe_reader.specs.declared.section.Section.{Section}
use Rattle.pe_reader.specs.Prelude.{check_section, is_in_file, is_apart, section_at, sections_of}
use Rattle.pe_builder.specs.declared.size.PartSize.{PartSize}
use Rattle.pe_builder.specs.Puts.{pad_to}
use Rattle.pe_builder.proofs.Rounding.{length-pad_to}
use Rattle.pe_builder.specs.Layout.{virtual_end, end_after, section_for, sections_for, raw_end, length_after, FitsPart}
use Rattle.pe_builder.specs.Image.{section_header, with_raw}
use Rattle.pe_builder.proofs.HeaderBytes.{FitsHeader, section_at-header, length-section_header}

regroup : (a b c d : List ℕ) → ((a ++ b) ++ c) ++ d ≡ a ++ (b ++ (c ++ d))
regroup a b c d = simp append_assoc

-- the contents stand behind the bytes
pub with_raw-tail : (unit : ℕ) (bytes : List ℕ) (contents : List (List ℕ)) → (tail : List ℕ) × (with_raw unit bytes contents ≡ bytes ++ tail)
unfolding with_raw pad_to
with_raw-tail unit bytes [] = ([], sym (append-nil bytes))
with_raw-tail unit bytes (c ∷ cs) =
    let r = with_raw-tail unit (pad_to unit bytes ++ pad_to unit c) cs in
    (replicate ((unit - length bytes % unit) % unit) 0 ++ (pad_to unit c ++ r.0), r.1 ∙ regroup bytes _ (pad_to unit c) r.0)

pub length-with_raw : (h : Head) (bytes : List ℕ) (parts : List PartSize) (contents : List (List ℕ))
    → map length contents ≡ map (λ p. p.length) parts
    → length (with_raw h.file_alignment bytes contents) ≡ length_after h (length bytes) parts
unfolding with_raw length_after
length-with_raw h bytes [] [] e = refl
length-with_raw h bytes [] (c ∷ cs) e = cc
length-with_raw h bytes (p ∷ ps) [] e = cc
length-with_raw h bytes (p ∷ ps) (c ∷ cs) e =
    let e1 : length c ≡ p.length = cc in
    let e2 : map length cs ≡ map (λ p. p.length) ps = cc in
    let unit = h.file_alignment in
    let l : length (pad_to unit bytes ++ pad_to unit c) ≡ next_multiple_of (length bytes) unit + next_multiple_of p.length unit =
    length-append (pad_to unit bytes) (pad_to unit c) ∙ rw (length-pad_to unit bytes, length-pad_to unit c, e1) refl in
    length-with_raw h (pad_to unit bytes ++ pad_to unit c) ps cs e2 ∙ ap (λ (k : ℕ). length_after h k ps) l

pub le-length_after : (h : Head) (r : ℕ) (parts : List PartSize) → r ≤ length_after h r parts
unfolding length_after
le-length_after h r [] = omega arith
le-length_after h r (p ∷ ps) =
    omega (arith, le-length_after h (next_multiple_of r h.file_alignment + next_multiple_of p.length h.file_alignment) ps)

pub length-sections_for : (h : Head) (r a : ℕ) (parts : List PartSize) → length (sections_for h r a parts) ≡ length parts
unfolding sections_for
length-sections_for h r a [] = refl
length-sections_for h r a (p ∷ ps) = ap suc (length-sections_for h (raw_end (section_for h r a p)) (virtual_end (section_for h r a p)) ps)

pub le-end_after : (a : ℕ) (sections : List Section) → a ≤ end_after a sections
unfolding end_after
le-end_after a [] = omega arith
le-end_after a (s ∷ ss) = omega (arith, le-end_after (max a (virtual_end s)) ss)

pub end_after-append : (a : ℕ) (xs ys : List Section) → end_after a (xs ++ ys) ≡ end_after (end_after a xs) ys
unfolding end_after
end_after-append a [] ys = refl
end_after-append a (x ∷ xs) ys = end_after-append (max a (virtual_end x)) xs ys

-- a test that follows from another
list_all_more : (p q : Section → Bool) → ((x : Section) → p x ≡ true → q x ≡ true) → (xs : List Section) → list_all p xs ≡ true → list_all q xs ≡ true
list_all_more p q f [] h = refl
list_all_more p q f (x ∷ xs) h =
    let a = and_parts (p x) (list_all p xs) h in
    and_from _ _ (f x a.0) (list_all_more p q f xs a.1)

in_file-more : (r m header_size : ℕ) → r ≤ m → (s : Section) → is_in_file r header_size s ≡ true → is_in_file m header_size s ≡ true
in_file-more r m header_size h s e = grind (arith, nat_tests)

apart_from : (r header_size : ℕ) (s : Section) → r ≤ s.raw_place → (e : Section) → is_in_file r header_size e ≡ true → is_apart s e ≡ true
apart_from r header_size s h e i = grind (arith, nat_tests)

in_file_here : (m header_size : ℕ) (s : Section) → header_size ≤ s.raw_place → s.raw_place + s.raw_size ≤ m → is_in_file m header_size s ≡ true
in_file_here m header_size s a b = grind (arith, nat_tests)

checked_passes : (m header_size : ℕ) (earlier : List Section) (place : ℕ) (s : Section)
    → s.virtual_size ≤ 268435456 → s.virtual_address + s.virtual_size ≤ 4294967296
    → is_in_file m header_size s ≡ true → list_all (is_apart s) earlier ≡ true
    → check_section m header_size earlier place s ≡ Ok s
unfolding check_section
checked_passes m header_size earlier place s a b c d =
    rw (le-leb _ _ a, le-leb _ _ b, c, d) refl

-- what the sizes of the parts have to be
pub record Small (h : Head) (r a : ℕ) (parts : List PartSize) (m : ℕ) : Type 0 where
  pub fits : AllByRecursion FitsPart parts
  pub file : length_after h r parts ≤ m
  pub small : m ≤ 268435456
  pub memory : end_after a (sections_for h r a parts) < 4294967296

first_fits : (h : Head) (r a : ℕ) (p : PartSize) (ps : List PartSize) (m : ℕ) → Small h r a (p ∷ ps) m → FitsHeader (section_for h r a p)
unfolding length_after sections_for end_after
first_fits h r a p ps m s =
    let f = s.fits.0 in
    let l = le-length_after h (next_multiple_of r h.file_alignment + next_multiple_of p.length h.file_alignment) ps in
    let e = le-end_after (max a (virtual_end (section_for h r a p))) (sections_for h (raw_end (section_for h r a p)) (virtual_end (section_for h r a p)) ps) in
    let file = s.file in
    let small = s.small in
    let memory = s.memory in
    record {
      name = f.name;
      virtual_size = omega arith;
      virtual_address = omega arith;
      raw_size = omega arith;
      raw_place = omega arith;
      flags = f.flags;
    }

-- the sizes of the other parts
others_small : (h : Head) (r a : ℕ) (p : PartSize) (ps : List PartSize) (m : ℕ) → Small h r a (p ∷ ps) m
    → Small h (raw_end (section_for h r a p)) (virtual_end (section_for h r a p)) ps m
unfolding length_after sections_for end_after
others_small h r a p ps m s =
    let top : max a (virtual_end (section_for h r a p)) ≡ virtual_end (section_for h r a p) = omega arith in
    record {
      fits = s.fits.1;
      file = s.file;
      small = s.small;
      memory = (
          let P : ℕ → Type 0 = λ k. end_after k (sections_for h (raw_end (section_for h r a p)) (virtual_end (section_for h r a p)) ps) < 4294967296 in
          subst P top s.memory);
    }

-- The headers of the new sections read as these, and pass the checks.
pub sections_of-new : (h : Head) (m header_size r a : ℕ) (parts : List PartSize) (place : ℕ) (earlier : List Section)
    → Small h r a parts m → header_size ≤ r → list_all (is_in_file r header_size) earlier ≡ true
    → sections_of m header_size (length parts) place earlier (flat_map section_header (sections_for h r a parts))
    ≡ Ok (earlier ++ sections_for h r a parts)
unfolding sections_of sections_for
sections_of-new h m header_size r a [] place earlier small hs ok = ap (λ (l : List Section). Ok l) (sym (append-nil earlier))
sections_of-new h m header_size r a (p ∷ ps) place earlier small hs ok =
    let s = section_for h r a p in
    let rest = sections_for h (raw_end s) (virtual_end s) ps in
    let fits = first_fits h r a p ps m small in
    let others = others_small h r a p ps m small in
    let l = le-length_after h (raw_end s) ps in
    let e = le-end_after (virtual_end s) rest in
    let file = others.file in
    let memory = others.memory in
    let tiny = small.small in
    let here : is_in_file (raw_end s) header_size s ≡ true = in_file_here (raw_end s) header_size s (omega arith) (omega arith) in
    let passes : check_section m header_size earlier place s ≡ Ok s = checked_passes m header_size earlier place s (omega arith) (omega arith)
    (in_file-more (raw_end s) m header_size (omega arith) s here)
    (list_all_more (is_in_file r header_size) (is_apart s) (apart_from r header_size s (omega arith)) earlier ok) in
    let reads : section_at (section_header s ++ flat_map section_header rest) ≡ s = section_at-header s _ fits in
    let behind : drop 40 (section_header s ++ flat_map section_header rest) ≡ flat_map section_header rest = drop_at _ _ 40 (length-section_header s fits.name) in
    let all : list_all (is_in_file (raw_end s) header_size) (earlier ++ s ∷ []) ≡ true =
    list_all-append (is_in_file (raw_end s) header_size) earlier (s ∷ [])
    ∙ and_from _ _ (list_all_more (is_in_file r header_size) (is_in_file (raw_end s) header_size) (in_file-more r (raw_end s) header_size (omega arith)) earlier ok) (and_from _ _ here refl) in
    let next = sections_of-new h m header_size (raw_end s) (virtual_end s) ps (place + 40) (earlier ++ s ∷ []) others (omega arith) all in
    rw (reads, passes, behind) (next ∙ ap (λ (l : List Section). Ok l) (append_assoc earlier (s ∷ []) rest))

-- each header has 40 bytes
pub length-headers : (h : Head) (m r a : ℕ) (parts : List PartSize) → Small h r a parts m
    → length (flat_map section_header (sections_for h r a parts)) ≡ 40 * length parts
unfolding sections_for
length-headers h m r a [] small = refl
length-headers h m r a (p ∷ ps) small =
    let s = section_for h r a p in
    let fits = first_fits h r a p ps m small in
    let next = length-headers h m (raw_end s) (virtual_end s) ps (others_small h r a p ps m small) in
    length-append (section_header s) _ ∙ rw (length-section_header s fits.name, next) (omega arith)
