-- What an image has loaded.
use Rattle.std.proofs.Common.{◌≡◌, ◌≤◌, ◌+◌, ◌-◌, ◌⊎◌, inl, inr, ℕ, Bool, true, false, List, [], ◌∷◌, ◌++◌, length, take, drop, replicate, map, min, cond, Option, Some, Ok, refl, sym, ap, ◌∙◌, arith, length-append, append_assoc, bytes_eq}
use Rattle.std.specs.Int.{next_multiple_of}
use Rattle.std.specs.List.{list_all, find}
use Rattle.std.proofs.lemmas.List.{append-nil, drop_at, take_at, take-append-le, drop-append-le, length-drop}
use Rattle.std.proofs.lemmas.Bool.{and_parts, cases_Bool}
use Rattle.std.proofs.lemmas.Bool.Decides.{nat_tests}
use Rattle.pe_reader.specs.declared.head.Head.{Head}
use Rattle.pe_reader.specs.declared.section.Section.{Section}
use Rattle.pe_reader.specs.Prelude.{part, Headers, pe_of, is_in_file, is_named, loaded_by, loaded_of, loaded_in, loaded_bytes}
use Rattle.pe_reader.proofs.Shape.{Shape, pe_of-stages, stages-shape}
use Rattle.uki_parts.specs.Names.{name_bytes}
use Rattle.pe_builder.proofs.Fits.{HasImage}
use Rattle.pe_builder.specs.declared.size.PartSize.{PartSize}
use Rattle.pe_builder.specs.Puts.{pad_to}
use Rattle.pe_builder.proofs.Rounding.{length-pad_to, pad_to-is}
use Rattle.pe_builder.specs.Layout.{virtual_end, end_after, section_for, sections_for, raw_end, new_sections}
use Rattle.pe_builder.specs.Image.{with_headers, with_raw, image_with_parts, content_named, loaded_or_part}
use Rattle.pe_builder.proofs.Appending.{with_raw-tail}
use Rattle.pe_builder.proofs.Grown.{pe_of-image, length-with_headers, part-with_headers}

part-append : (xs ys : List ℕ) (at count : ℕ) → at + count ≤ length xs → part (xs ++ ys) at count ≡ part xs at count
part-append xs ys at count h =
    ap (take count) (drop-append-le at xs ys (omega arith)) ∙ take-append-le count (drop at xs) ys (omega (arith, length-drop at xs))

-- where raw data may lie
raw_range : (n header_size : ℕ) (s : Section) → is_in_file n header_size s ≡ true → (s.raw_size ≡ 0) ⊎ ((header_size ≤ s.raw_place) × (s.raw_place + s.raw_size ≤ n))
raw_range n header_size s e = grind (arith, nat_tests)

-- a section of the stub has the loaded bytes that it had
pub loaded_by-image : (stub tail : List ℕ) (h : Headers) (parts : List PartSize) (s : Section) → Shape stub h → HasImage h (length stub) parts
    → is_in_file (length stub) h.head.header_size s ≡ true
    → loaded_by (with_headers h (new_sections h (length stub) parts) stub ++ tail) s ≡ loaded_by stub s
loaded_by-image stub tail h parts s shape has e = by_range (raw_range (length stub) h.head.header_size s e)
  where
    w : List ℕ
    w = with_headers h (new_sections h (length stub) parts) stub

    by_range : (s.raw_size ≡ 0) ⊎ ((h.head.header_size ≤ s.raw_place) × (s.raw_place + s.raw_size ≤ length stub))
        → loaded_by (with_headers h (new_sections h (length stub) parts) stub ++ tail) s ≡ loaded_by stub s
    by_range (inl none) =
        let z : min s.virtual_size s.raw_size ≡ 0 = omega arith in
        rw z refl
    by_range (inr range) =
        let a = range.0 in
        let b = range.1 in
        let l = length-with_headers stub h parts shape has in
        let same : part (with_headers h (new_sections h (length stub) parts) stub ++ tail) s.raw_place (min s.virtual_size s.raw_size) ≡ part stub s.raw_place (min s.virtual_size s.raw_size) =
        part-append _ tail s.raw_place (min s.virtual_size s.raw_size) (omega arith)
        ∙ part-with_headers stub h parts s.raw_place (min s.virtual_size s.raw_size) shape has a in
        ap (λ (x : List ℕ). x ++ replicate (s.virtual_size - min s.virtual_size s.raw_size) 0) same

-- the raw data of a new section are the content
content_at : (unit : ℕ) (bytes c tail : List ℕ) (n : ℕ) → length c ≡ n
    → part ((pad_to unit bytes ++ pad_to unit c) ++ tail) (next_multiple_of (length bytes) unit) n ≡ c
content_at unit bytes c tail n h =
    ap (λ (x : List ℕ). take n (drop (next_multiple_of (length bytes) unit) x)) (append_assoc (pad_to unit bytes) (pad_to unit c) tail)
    ∙ ap (take n) (drop_at (pad_to unit bytes) _ _ (length-pad_to unit bytes))
    ∙ ap (λ (x : List ℕ). take n (x ++ tail)) (pad_to-is unit c)
    ∙ ap (take n) (append_assoc c _ tail)
    ∙ take_at c _ n h

-- the loaded bytes of a new section are the content
loaded_by-new : (h : Head) (bytes c tail : List ℕ) (a : ℕ) (p : PartSize) → length c ≡ p.length
    → loaded_by ((pad_to h.file_alignment bytes ++ pad_to h.file_alignment c) ++ tail) (section_for h (length bytes) a p) ≡ c
loaded_by-new h bytes c tail a p e =
    let m : min p.length (next_multiple_of p.length h.file_alignment) ≡ p.length = omega arith in
    let z : p.length - p.length ≡ 0 = omega arith in
    rw (m, z) (append-nil _ ∙ content_at h.file_alignment bytes c tail p.length e)

choose : (b : Bool) (f : Option Section → List ℕ) (x y : Option Section) (c d : List ℕ) → (b ≡ true → f x ≡ c) → (b ≡ false → f y ≡ d)
    → f (cond b x y) ≡ cond b c d
choose true f x y c d there other = there refl
choose false f x y c d there other = other refl

-- the first new section of a name has the content of the first part of that name
pub loaded_of-new : (h : Head) (name : List ℕ) (parts : List PartSize) (contents : List (List ℕ)) (bytes : List ℕ) (r a : ℕ)
    → length bytes ≡ r → map length contents ≡ map (λ p. p.length) parts
    → loaded_of (with_raw h.file_alignment bytes contents) (find (is_named name) (sections_for h r a parts)) ≡ content_named name parts contents
unfolding with_raw sections_for content_named
loaded_of-new h name [] contents bytes r a l e = refl
loaded_of-new h name (p ∷ ps) [] bytes r a l e = cc
loaded_of-new h name (p ∷ ps) (c ∷ cs) bytes r a l e =
    let e1 : length c ≡ p.length = cc in
    let e2 : map length cs ≡ map (λ p. p.length) ps = cc in
    let unit = h.file_alignment in
    let next = pad_to unit bytes ++ pad_to unit c in
    let s = section_for h r a p in
    let t = with_raw-tail unit next cs in
    let len : length next ≡ raw_end s =
    length-append (pad_to unit bytes) (pad_to unit c) ∙ rw (length-pad_to unit bytes, length-pad_to unit c, e1, l) refl in
    let here : loaded_by (next ++ t.0) s ≡ c =
    ap (λ (k : ℕ). loaded_by (next ++ t.0) (section_for h k a p)) (sym l) ∙ loaded_by-new h bytes c t.0 a p e1 in
    choose (bytes_eq (name_bytes p.name) name) (loaded_of (with_raw unit next cs)) (Some s) (find (is_named name) (sections_for h (raw_end s) (virtual_end s) ps)) c (content_named name ps cs)
    (λ named. ap (λ (x : List ℕ). loaded_by x s) t.1 ∙ here)
    (λ unnamed. loaded_of-new h name ps cs next (raw_end s) (virtual_end s) len e2)

-- the first of the stub's sections, or of the new ones
split : (stub image : List ℕ) (name content : List ℕ) (n header_size : ℕ) (new : List Section)
    → ((s : Section) → is_in_file n header_size s ≡ true → loaded_by image s ≡ loaded_by stub s)
    → loaded_of image (find (is_named name) new) ≡ content
    → (sections : List Section) → list_all (is_in_file n header_size) sections ≡ true
    → loaded_of image (find (is_named name) (sections ++ new)) ≡ loaded_or_part stub (find (is_named name) sections) content
unfolding loaded_or_part
split stub image name content n header_size new kept added [] ok = added
split stub image name content n header_size new kept added (s ∷ sections) ok =
    let parts = and_parts (is_in_file n header_size s) (list_all (is_in_file n header_size) sections) ok in
    let next = split stub image name content n header_size new kept added sections parts.1 in
    elim (cases_Bool (is_named name s)) [
      | inl named ↦ rw named (kept s parts.0)
      | inr unnamed ↦ rw unnamed next
    ]

-- What an image has loaded of a name: the stub's section of that name, or else the part.
pub loaded_bytes-image : (stub : List ℕ) (h : Headers) (parts : List PartSize) (contents : List (List ℕ)) (name : List ℕ)
    → pe_of stub ≡ Ok h → HasImage h (length stub) parts → map length contents ≡ map (λ p. p.length) parts
    → loaded_bytes (image_with_parts h parts contents stub) name ≡ loaded_or_part stub (find (is_named name) h.sections) (content_named name parts contents)
loaded_bytes-image stub h parts contents name e has sizes =
    let shape = stages-shape stub h (pe_of-stages stub h e) in
    let new = new_sections h (length stub) parts in
    let w = with_headers h new stub in
    let t = with_raw-tail h.head.file_alignment w contents in
    let image = image_with_parts h parts contents stub in
    let lw = length-with_headers stub h parts shape has in
    ap (loaded_in image name) (pe_of-image stub h parts contents e has sizes)
    ∙ split stub image name (content_named name parts contents) (length stub) h.head.header_size new
    (λ s ok. ap (λ (x : List ℕ). loaded_by x s) t.1 ∙ loaded_by-image stub t.0 h parts s shape has ok)
    (loaded_of-new h.head name parts contents w (length stub) (end_after h.head.header_size h.sections) lw sizes)
    h.sections shape.in_file
