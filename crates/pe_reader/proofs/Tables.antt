-- What the reading of a section table shows, and that it goes on where a table has grown.
use Rattle.std.proofs.Common.{◌≡◌, ◌<◌, ◌≤◌, ◌+◌, ◌*◌, ℕ, zero, suc, Bool, true, ◌&&◌, List, [], ◌∷◌, ◌++◌, length, drop, Ok, Result, inl, inr, get_or, subst, refl, sym, ap, ◌∙◌, arith, length-append, length-drop, append_assoc}
use Rattle.std.specs.List.{list_all}
use Rattle.std.proofs.lemmas.List.{drop-append-le, take-append-le, nil_from_length, append-nil, get_or_append_left, get_or_push}
use Rattle.std.proofs.lemmas.List.Folds.{list_all-append}
use Rattle.std.proofs.lemmas.Bool.{and_from, and_parts, cases_lt}
use Rattle.std.proofs.lemmas.Bool.Decides.{nat_tests}
use Rattle.pe_reader.specs.declared.fault.FailedCheck.{FailedCheck}
use Rattle.pe_reader.specs.declared.section.Section.{Section}
use Rattle.pe_reader.specs.Prelude.{check_section, is_in_file, is_apart, section_at, sections_of}
use Rattle.pe_reader.proofs.Checks.{bind_from, bind_ok}
use Rattle.pe_reader.proofs.Places.{u32_at-append}

-- a section that was checked
pub checked_is : (n header_size : ℕ) (earlier : List Section) (place : ℕ) (s t : Section)
    → check_section n header_size earlier place s ≡ Ok t → (t ≡ s) × (is_in_file n header_size s ≡ true)
unfolding check_section
checked_is n header_size earlier place s t e = (grind arith, grind arith)

pub check_section-more : (n m header_size : ℕ) (earlier : List Section) (place : ℕ) (s t : Section) → n ≤ m
    → check_section n header_size earlier place s ≡ Ok t → check_section m header_size earlier place s ≡ Ok t
unfolding check_section
check_section-more n m header_size earlier place s t h e = grind (arith, nat_tests)

-- a header is the first 40 bytes
pub section_at-append : (xs ys : List ℕ) → 40 ≤ length xs → section_at (xs ++ ys) ≡ section_at xs
unfolding section_at
section_at-append xs ys h =
    rw (take-append-le 8 xs ys (omega arith), u32_at-append xs ys 8 (omega arith), u32_at-append xs ys 12 (omega arith), u32_at-append xs ys 16 (omega arith), u32_at-append xs ys 20 (omega arith), u32_at-append xs ys 36 (omega arith)) refl

-- the table of a longer file, with more behind it
pub sections_of-more : (n m header_size k : ℕ) (count place : ℕ) (earlier : List Section) (table more : List ℕ) (out : List Section)
    → n ≤ m → length table ≡ 40 * count
    → sections_of n header_size count place earlier table ≡ Ok out
    → sections_of m header_size (count + k) place earlier (table ++ more)
    ≡ sections_of m header_size k (place + 40 * count) out more
unfolding sections_of
sections_of-more n m header_size k zero place earlier table more out h l e =
    let a : table ≡ [] = nil_from_length table (omega arith) in
    let b : earlier ≡ out = cc in
    let c : 0 + k ≡ k = omega arith in
    let d : place + 40 * 0 ≡ place = omega arith in
    rw (a, b, c, d) refl
sections_of-more n m header_size k (suc count) place earlier table more out h l e =
    let b = bind_ok (check_section n header_size earlier place (section_at table)) _ out e in
    let s = b.0 in
    let passes = check_section-more n m header_size earlier place (section_at table) s h b.1 in
    let c : suc count + k ≡ suc (count + k) = omega arith in
    let d : place + 40 * suc count ≡ place + 40 + 40 * count = omega arith in
    let f : length (drop 40 table) ≡ 40 * count = omega (arith, length-drop 40 table) in
    let r = sections_of-more n m header_size k count (place + 40) (earlier ++ s ∷ []) (drop 40 table) more out h f b.2 in
    rw (c, d, section_at-append table more (omega arith), drop-append-le 40 table more (omega arith), passes) r

-- each section's raw data lie in the file
pub sections_of-in_file : (n header_size : ℕ) (count place : ℕ) (earlier : List Section) (table : List ℕ) (out : List Section)
    → list_all (is_in_file n header_size) earlier ≡ true
    → sections_of n header_size count place earlier table ≡ Ok out
    → list_all (is_in_file n header_size) out ≡ true
unfolding sections_of
sections_of-in_file n header_size zero place earlier table out h e =
    let b : earlier ≡ out = cc in
    rw (← b) h
sections_of-in_file n header_size (suc count) place earlier table out h e =
    let b = bind_ok (check_section n header_size earlier place (section_at table)) _ out e in
    let s = b.0 in
    let t = checked_is n header_size earlier place (section_at table) s b.1 in
    let one : list_all (is_in_file n header_size) (s ∷ []) ≡ true = rw t.0 (and_from _ _ t.1 refl) in
    let all : list_all (is_in_file n header_size) (earlier ++ s ∷ []) ≡ true =
    list_all-append (is_in_file n header_size) earlier (s ∷ []) ∙ and_from _ _ h one in
    sections_of-in_file n header_size count (place + 40) (earlier ++ s ∷ []) (drop 40 table) out all b.2

-- as many sections as were to be read
pub sections_of-length : (n header_size : ℕ) (count place : ℕ) (earlier : List Section) (table : List ℕ) (out : List Section)
    → sections_of n header_size count place earlier table ≡ Ok out → length out ≡ length earlier + count
unfolding sections_of
sections_of-length n header_size zero place earlier table out e =
    let b : earlier ≡ out = cc in
    rw (← b) (omega arith)
sections_of-length n header_size (suc count) place earlier table out e =
    let b = bind_ok (check_section n header_size earlier place (section_at table)) _ out e in
    let r = sections_of-length n header_size count (place + 40) (earlier ++ b.0 ∷ []) (drop 40 table) out b.2 in
    omega (arith, r, length-append earlier (b.0 ∷ []))

-- the check looks at the earlier sections' raw ranges alone
pub check_section-same : (n header_size : ℕ) (earlier other : List Section) (place : ℕ) (s : Section)
    → list_all (is_apart s) other ≡ list_all (is_apart s) earlier
    → check_section n header_size other place s ≡ check_section n header_size earlier place s
unfolding check_section
check_section-same n header_size earlier other place s h = rw h refl

-- What is read behind the earlier sections rests on their raw ranges alone.
pub sections_of-rest : (n header_size : ℕ) (count place : ℕ) (earlier : List Section) (table : List ℕ) (out : List Section)
    → sections_of n header_size count place earlier table ≡ Ok out
    → (rest : List Section) × (out ≡ earlier ++ rest)
    × ((other : List Section) → ((s : Section) → list_all (is_apart s) other ≡ list_all (is_apart s) earlier)
    → sections_of n header_size count place other table ≡ Ok (other ++ rest))
unfolding sections_of
sections_of-rest n header_size zero place earlier table out e =
    let same : out ≡ earlier = cc in
    ([], same ∙ sym (append-nil earlier), λ other h. ap (λ (l : List Section). Ok l) (sym (append-nil other)))
sections_of-rest n header_size (suc count) place earlier table out e =
    let b = bind_ok (check_section n header_size earlier place (section_at table)) _ out e in
    let s = b.0 in
    let r = sections_of-rest n header_size count (place + 40) (earlier ++ s ∷ []) (drop 40 table) out b.2 in (
      s ∷ r.0,
      r.1 ∙ append_assoc earlier (s ∷ []) r.0,
      λ other h.
          let passes : check_section n header_size other place (section_at table) ≡ Ok s =
          check_section-same n header_size earlier other place (section_at table) (h (section_at table)) ∙ b.1 in
          let next = r.2 (other ++ s ∷ []) (λ x. list_all-append (is_apart x) other (s ∷ []) ∙ ap (λ (t : Bool). t && list_all (is_apart x) (s ∷ [])) (h x) ∙ sym (list_all-append (is_apart x) earlier (s ∷ []))) in
          rw passes (next ∙ ap (λ (l : List Section). Ok l) (append_assoc other (s ∷ []) r.0)),
    )

at_place : (n header_size k p q : ℕ) (earlier : List Section) (table : List ℕ) (r : Result (List Section) FailedCheck)
    → p ≡ q → sections_of n header_size k q earlier table ≡ r → sections_of n header_size k p earlier table ≡ r
at_place n header_size k p q earlier table r e h = rw e h

-- the reading of a table in two parts
pub sections_of-split : (n header_size k : ℕ) (count place : ℕ) (earlier : List Section) (table more : List ℕ) (out : List Section)
    → length table ≡ 40 * count
    → sections_of n header_size (count + k) place earlier (table ++ more) ≡ Ok out
    → (middle : List Section) × (length middle ≡ length earlier + count)
    × (sections_of n header_size count place earlier table ≡ Ok middle)
    × (sections_of n header_size k (place + 40 * count) middle more ≡ Ok out)
unfolding sections_of
sections_of-split n header_size k zero place earlier table more out l e =
    let a : table ≡ [] = nil_from_length table (omega arith) in
    let c : 0 + k ≡ k = omega arith in
    let d : place + 40 * 0 ≡ place = omega arith in
    (earlier, omega arith, refl, ap (λ (q : ℕ). sections_of n header_size k q earlier more) d ∙ (rw (a, c) at e))
sections_of-split n header_size k (suc count) place earlier table more out l e =
    let c : suc count + k ≡ suc (count + k) = omega arith in
    let f : length (drop 40 table) ≡ 40 * count = omega (arith, length-drop 40 table) in
    let unfolded = rw (c, section_at-append table more (omega arith), drop-append-le 40 table more (omega arith)) at e in
    let b = bind_ok (check_section n header_size earlier place (section_at table)) _ out unfolded in
    let s = b.0 in
    let r = sections_of-split n header_size k count (place + 40) (earlier ++ s ∷ []) (drop 40 table) more out f b.2 in
    let d : place + 40 * suc count ≡ place + 40 + 40 * count = omega arith in (
      r.0,
      omega (arith, r.1, length-append earlier (s ∷ [])),
      bind_from (check_section n header_size earlier place (section_at table)) _ s (Ok r.0) b.1 r.2,
      at_place n header_size k (place + 40 * suc count) (place + 40 + 40 * count) r.0 more (Ok out) d r.3,
    )

-- every two sections of a list lie apart
pub record AllApart (sections : List Section) (d : Section) : Type 0 where
  pub apart : (i j : ℕ) → i < j → j < length sections → is_apart (get_or sections j d) (get_or sections i d) ≡ true

pub checked_apart : (n header_size : ℕ) (earlier : List Section) (place : ℕ) (s t : Section)
    → check_section n header_size earlier place s ≡ Ok t → list_all (is_apart s) earlier ≡ true
unfolding check_section
checked_apart n header_size earlier place s t e = grind arith

pub at_list_all : (p : Section → Bool) (xs : List Section) (i : ℕ) (d : Section) → i < length xs → list_all p xs ≡ true → p (get_or xs i d) ≡ true
at_list_all p [] i d h e = absurd (omega arith)
at_list_all p (x ∷ xs) zero d h e = (and_parts (p x) (list_all p xs) e).0
at_list_all p (x ∷ xs) (suc i) d h e = at_list_all p xs i d (omega arith) (and_parts (p x) (list_all p xs) e).1

apart-push : (xs : List Section) (s d : Section) → AllApart xs d → list_all (is_apart s) xs ≡ true → AllApart (xs ++ s ∷ []) d
apart-push xs s d before here = record {
  apart = λ i j lt inside.
      let l = length-append xs (s ∷ []) in
      elim (cases_lt j (length xs)) [
        | inl below ↦ rw (get_or_append_left xs (s ∷ []) d j below, get_or_append_left xs (s ∷ []) d i (omega arith)) (before.apart i j lt below)
        | inr last ↦
            let at : length xs ≡ j = omega arith in
            rw (get_or_push xs s d j at, get_or_append_left xs (s ∷ []) d i (omega arith)) (at_list_all (is_apart s) xs i d (omega arith) here)
      ];
}

pub sections_of-apart : (n header_size : ℕ) (count place : ℕ) (earlier : List Section) (table : List ℕ) (out : List Section) (d : Section)
    → sections_of n header_size count place earlier table ≡ Ok out → AllApart earlier d → AllApart out d
unfolding sections_of
sections_of-apart n header_size zero place earlier table out d e before =
    let b : earlier ≡ out = cc in
    let P : List Section → Type 0 = λ l. AllApart l d in
    subst P b before
sections_of-apart n header_size (suc count) place earlier table out d e before =
    let b = bind_ok (check_section n header_size earlier place (section_at table)) _ out e in
    let c = checked_is n header_size earlier place (section_at table) b.0 b.1 in
    let apart : list_all (is_apart b.0) earlier ≡ true = ap (λ (x : Section). list_all (is_apart x) earlier) c.0 ∙ checked_apart n header_size earlier place (section_at table) b.0 b.1 in
    sections_of-apart n header_size count (place + 40) (earlier ++ b.0 ∷ []) (drop 40 table) out d b.2 (apart-push earlier b.0 d before apart)
