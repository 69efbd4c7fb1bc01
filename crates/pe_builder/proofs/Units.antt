-- The alignment of raw data in a file that was read isn't 0.
use Rattle.std.proofs.Common.{◌≡◌, ◌<◌, ℕ, zero, suc, true, false, List, Ok, refl, sym, ◌∙◌, arith}
use Rattle.std.proofs.lemmas.Bool.{and_parts, false≢true}
use Rattle.std.proofs.lemmas.Bool.Decides.{nat_tests}
use Rattle.std.specs.Int.{is_power_of_two}
use lib.Count.{ones, ones_in}
use Rattle.pe_reader.specs.declared.head.Head.{Head}
use Rattle.pe_reader.specs.declared.head.Coff.{Coff}
use Rattle.pe_reader.specs.Prelude.{Headers, pe_of, optional_of, is_alignment}
use Rattle.pe_reader.proofs.Shape.{pe_of-stages}

-- no bit of 0 is set
no_ones : is_power_of_two 0 ≡ false
unfolding ones ones_in
no_ones = refl

positive : (greatest n : ℕ) → is_alignment greatest n ≡ true → 0 < n
positive greatest zero e = absurd (false≢true (sym no_ones ∙ (and_parts (is_power_of_two 0) _ e).0))
positive greatest (suc n) e = omega arith

file_aligned : (n place : ℕ) (c : Coff) (optional : List ℕ) (h : Head) → optional_of n place c optional ≡ Ok h
    → is_alignment h.section_alignment h.file_alignment ≡ true
unfolding optional_of
file_aligned n place c optional h e = grind (arith, nat_tests)

pub file_unit : (bytes : List ℕ) (h : Headers) → pe_of bytes ≡ Ok h → 0 < h.head.file_alignment
file_unit bytes h e =
    let st = pe_of-stages bytes h e in
    positive h.head.section_alignment h.head.file_alignment (file_aligned _ _ st.coff _ h.head st.head_is)
