-- The section table is read exactly where each section passes and all of them lie apart.
use Rattle.std.proofs.Common.{◌≡◌, ◌<◌, ◌+◌, ◌*◌, ℕ, zero, suc, Bool, true, ◌&&◌, nat_le, List, [], ◌∷◌, ◌++◌, length, drop, Ok, get_or, subst, refl, sym, ap, ◌∙◌, arith, length-append, append_assoc}
use Rattle.std.specs.List.{list_all}
use Rattle.std.proofs.lemmas.List.{drop-drop, append-nil, get_or_append_left}
use Rattle.std.proofs.Math.Seq.{get_or-append_seam}
use Rattle.std.proofs.lemmas.Bool.{and_from, and_parts}
use Rattle.std.proofs.lemmas.Bool.Decides.{nat_tests}
use Rattle.pe_reader.specs.declared.section.Section.{Section}
use Rattle.pe_reader.specs.Prelude.{check_section, is_in_file, is_apart, section_at, sections_of}
use Rattle.pe_reader.proofs.Checks.{bind_ok}
use Rattle.pe_reader.proofs.Tables.{AllApart, checked_is}

-- the headers of a table, one after the other
pub table_sections : ℕ → List ℕ → List Section
table_sections zero table = []
table_sections (suc count) table = section_at table ∷ table_sections count (drop 40 table)

pub length-table_sections : (count : ℕ) (table : List ℕ) → length (table_sections count table) ≡ count
unfolding table_sections
length-table_sections zero table = refl
length-table_sections (suc count) table = omega (arith, length-table_sections count (drop 40 table))

pub get_or-table_sections : (count : ℕ) (table : List ℕ) (i : ℕ) (d : Section) → i < count
    → get_or (table_sections count table) i d ≡ section_at (drop (40 * i) table)
unfolding table_sections
get_or-table_sections zero table i d h = absurd (omega arith)
get_or-table_sections (suc count) table zero d h = refl
get_or-table_sections (suc count) table (suc i) d h =
    let step : 40 * i + 40 ≡ 40 * suc i = omega arith in
    get_or-table_sections count (drop 40 table) i d (omega arith) ∙ ap section_at (drop-drop (40 * i) 40 table ∙ ap (λ (n : ℕ). drop n table) (omega arith))

-- what passes the checks of one section alone
abbrev pub passes : ℕ → ℕ → Section → Bool
passes size header_size s =
    nat_le s.virtual_size 268435456 && (nat_le (s.virtual_address + s.virtual_size) 4294967296 && is_in_file size header_size s)

checked_passes : (size header_size : ℕ) (earlier : List Section) (place : ℕ) (s t : Section)
    → check_section size header_size earlier place s ≡ Ok t → passes size header_size s ≡ true
unfolding check_section
checked_passes size header_size earlier place s t e = grind (arith, nat_tests)

checked_from : (size header_size : ℕ) (earlier : List Section) (place : ℕ) (s : Section)
    → passes size header_size s ≡ true → list_all (is_apart s) earlier ≡ true
    → check_section size header_size earlier place s ≡ Ok s
unfolding check_section
checked_from size header_size earlier place s a b = grind (arith, nat_tests)

-- a list each of whose elements passes
pub list_all-from : (p : Section → Bool) (xs : List Section) (d : Section) → ((i : ℕ) → i < length xs → p (get_or xs i d) ≡ true)
    → list_all p xs ≡ true
list_all-from p [] d h = refl
list_all-from p (x ∷ xs) d h =
    and_from (p x) (list_all p xs) (h 0 (omega arith)) (list_all-from p xs d (λ i lt. h (suc i) (omega arith)))

-- what was read is what stands in the table
pub sections_of-table : (size header_size : ℕ) (count place : ℕ) (earlier : List Section) (table : List ℕ) (out : List Section)
    → sections_of size header_size count place earlier table ≡ Ok out
    → (out ≡ earlier ++ table_sections count table) × (list_all (passes size header_size) (table_sections count table) ≡ true)
unfolding sections_of table_sections
sections_of-table size header_size zero place earlier table out e =
    let same : out ≡ earlier = cc in
    (same ∙ sym (append-nil earlier), refl)
sections_of-table size header_size (suc count) place earlier table out e =
    let b = bind_ok (check_section size header_size earlier place (section_at table)) _ out e in
    let is : b.0 ≡ section_at table = (checked_is size header_size earlier place (section_at table) b.0 b.1).0 in
    let r = sections_of-table size header_size count (place + 40) (earlier ++ b.0 ∷ []) (drop 40 table) out b.2 in (
      r.0 ∙ append_assoc earlier (b.0 ∷ []) (table_sections count (drop 40 table)) ∙ ap (λ (s : Section). earlier ++ s ∷ table_sections count (drop 40 table)) is,
      and_from (passes size header_size (section_at table)) (list_all (passes size header_size) (table_sections count (drop 40 table))) (checked_passes size header_size earlier place (section_at table) b.0 b.1) r.1,
    )

-- a section that lies apart from all before it
apart_from_earlier : (earlier rest : List Section) (s d : Section) → AllApart (earlier ++ s ∷ rest) d → list_all (is_apart s) earlier ≡ true
apart_from_earlier earlier rest s d h =
    list_all-from (is_apart s) earlier d (λ i lt.
    let l = length-append earlier (s ∷ rest) in
    let a = h.apart i (length earlier) lt (omega arith) in
    rw (get_or-append_seam earlier s rest d, get_or_append_left earlier (s ∷ rest) d i lt) at a)

-- a table whose sections pass and lie apart is read
pub sections_of-from : (size header_size : ℕ) (count place : ℕ) (earlier : List Section) (table : List ℕ) (d : Section)
    → list_all (passes size header_size) (table_sections count table) ≡ true
    → AllApart (earlier ++ table_sections count table) d
    → sections_of size header_size count place earlier table ≡ Ok (earlier ++ table_sections count table)
unfolding sections_of table_sections
sections_of-from size header_size zero place earlier table d all apart = ap (λ (l : List Section). Ok l) (sym (append-nil earlier))
sections_of-from size header_size (suc count) place earlier table d all apart =
    let s = section_at table in
    let rest = table_sections count (drop 40 table) in
    let both = and_parts (passes size header_size s) (list_all (passes size header_size) rest) all in
    let fits = checked_from size header_size earlier place s both.0 (apart_from_earlier earlier rest s d apart) in
    let P : List Section → Type 0 = λ l. AllApart l d in
    let next = sections_of-from size header_size count (place + 40) (earlier ++ s ∷ []) (drop 40 table) d both.1 (subst P (sym (append_assoc earlier (s ∷ []) rest)) apart) in
    rw fits (next ∙ ap (λ (l : List Section). Ok l) (append_assoc earlier (s ∷ []) rest))
