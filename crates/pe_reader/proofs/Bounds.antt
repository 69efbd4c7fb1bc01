-- What the headers of a file that was read are bounded by.
use Rattle.std.proofs.Common.{◌≡◌, ◌<◌, ◌≤◌, ◌+◌, ◌*◌, ℕ, zero, suc, true, false, nat_le, List, length, Ok, refl, sym, ◌∙◌, arith}
use Rattle.std.proofs.lemmas.Bool.{and_parts, leb-true, false≢true}
use Rattle.std.specs.Int.{is_power_of_two}
use lib.Count.{ones, ones_in}
use Rattle.std.proofs.lemmas.Bool.Decides.{nat_tests}
use Rattle.pe_reader.specs.declared.head.Head.{Head}
use Rattle.pe_reader.specs.declared.head.Coff.{Coff}
use Rattle.pe_reader.specs.declared.pe.Pe.{Pe}
use Rattle.pe_reader.specs.Prelude.{Headers, optional_of, is_alignment, ReadFrom, headers_of}
use Rattle.pe_reader.proofs.Shape.{pe_of-stages, stages-shape}

pub record Bounds (h : Headers) (size : ℕ) : Type 0 where
  pub file_unit : 0 < h.head.file_alignment
  pub units : h.head.file_alignment ≤ h.head.section_alignment
  pub memory_unit : h.head.section_alignment ≤ 65536
  pub before : h.head.pe_place + 136 ≤ h.head.table_place
  pub table : h.head.table_place + 40 * h.head.section_count ≤ size

-- no bit of 0 is set
no_ones : is_power_of_two 0 ≡ false
unfolding ones ones_in
no_ones = refl

none_aligned : (greatest : ℕ) → is_alignment greatest 0 ≡ true → ⊥
none_aligned greatest e =
    let a = (and_parts (is_power_of_two 0) (nat_le 0 greatest) e).0 in
    false≢true (sym no_ones ∙ a)

alignment_is : (greatest n : ℕ) → is_alignment greatest n ≡ true → (0 < n) × (n ≤ greatest)
alignment_is greatest zero e = absurd (none_aligned greatest e)
alignment_is greatest (suc n) e = (omega arith, leb-true (suc n) greatest (and_parts _ _ e).1)

units_of : (n place : ℕ) (c : Coff) (optional : List ℕ) (h : Head) → optional_of n place c optional ≡ Ok h
    → (is_alignment 65536 h.section_alignment ≡ true) × (is_alignment h.section_alignment h.file_alignment ≡ true)
unfolding optional_of
units_of n place c optional h e = (grind (arith, nat_tests), grind (arith, nat_tests))

pub bounds : (pe : Pe) (size : ℕ) → ReadFrom pe size → Bounds (headers_of pe) size
bounds pe size r =
    let h = headers_of pe in
    let st = pe_of-stages r.bytes h r.reads in
    let shape = stages-shape r.bytes h st in
    let u = units_of (length r.bytes) h.head.pe_place st.coff _ h.head st.head_is in
    let a = alignment_is 65536 h.head.section_alignment u.0 in
    let f = alignment_is h.head.section_alignment h.head.file_alignment u.1 in
    let len = r.length_is in
    let room = shape.room in
    let inside = shape.inside in
    let table = shape.table_place in
    let large = shape.optional in
    record {
      file_unit = f.0;
      units = f.1;
      memory_unit = a.1;
      before = omega arith;
      table = omega arith;
    }
