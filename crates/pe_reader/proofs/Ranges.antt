-- The range of a file that a section's loaded bytes stand in.
use Rattle.std.proofs.Common.{◌≡◌, ◌<◌, ◌≤◌, ◌+◌, ℕ, zero, suc, Bool, true, List, [], ◌∷◌, length, drop, Ok, ap, ◌∙◌, arith, length-append, length-drop, replicate}
use Rattle.std.specs.List.{list_all}
use Rattle.std.proofs.lemmas.Bool.{and_parts}
use Rattle.std.proofs.lemmas.Bool.Decides.{nat_tests}
use Rattle.std.proofs.lemmas.List.{length-take-le, length-replicate}
use Rattle.pe_reader.specs.declared.section.Section.{Section}
use Rattle.pe_reader.specs.declared.section.LoadedRange.{LoadedRange}
use Rattle.pe_reader.specs.Prelude.{part, Headers, pe_of, is_in_file, section_at_index, range_of, bytes_in}
use Rattle.pe_reader.proofs.Shape.{pe_of-stages, stages-shape}

pub length-bytes_in : (file : List ℕ) (r : LoadedRange) → r.length ≤ length (drop r.place file) → length (bytes_in file r) ≡ r.length + r.zeros
length-bytes_in file r inside =
    let zeros : List ℕ = replicate r.zeros 0 in
    length-append (part file r.place r.length) zeros
    ∙ ap (λ (n : ℕ). n + length zeros) (length-take-le r.length (drop r.place file) inside)
    ∙ ap (λ (n : ℕ). r.length + n) (length-replicate r.zeros 0)

at_index : (p : Section → Bool) (sections : List Section) (i : ℕ) → list_all p sections ≡ true → i < length sections → p (section_at_index sections i) ≡ true
at_index p [] i all inside = absurd (omega (arith, inside))
at_index p (x ∷ xs) zero all inside = (and_parts (p x) (list_all p xs) all).0
at_index p (x ∷ xs) (suc i) all inside = at_index p xs i (and_parts (p x) (list_all p xs) all).1 (omega (arith, inside))

raw_inside : (size header_size : ℕ) (s : Section) (rest : ℕ) → is_in_file size header_size s ≡ true → size ≤ s.raw_place + rest → (range_of s).length ≤ rest
raw_inside size header_size s rest e long = grind (arith, nat_tests)

-- the range of a section lies in the file
pub range_inside : (file : List ℕ) (h : Headers) (i : ℕ) → pe_of file ≡ Ok h → i < length h.sections
    → (range_of (section_at_index h.sections i)).length ≤ length (drop (range_of (section_at_index h.sections i)).place file)
range_inside file h i reads inside =
    let shape = stages-shape file h (pe_of-stages file h reads) in
    let s = section_at_index h.sections i in
    raw_inside (length file) h.head.header_size s (length (drop s.raw_place file))
    (at_index (is_in_file (length file) h.head.header_size) h.sections i shape.in_file inside)
    (omega (arith, length-drop s.raw_place file))
