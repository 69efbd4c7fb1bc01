-- The stages of a file that is read in parts.
use Rattle.std.proofs.Common.{◌≡◌, ◌≤◌, ◌+◌, ℕ, List, length, drop, sym, ◌∙◌, arith, length-drop}
use Rattle.boot_machine.specs.Prelude.{fill_with_zeros}
use Rattle.boot_machine.proofs.Filling.{fill_with_zeros-inside}
use Rattle.pe_reader.specs.Prelude.{part, pe_place_of, coff_of}
use Rattle.pe_reader.proofs.Checks.{pe_place_of-same, coff_of-same}

-- no zero stands in a part that is whole
pub whole_part : (file got : List ℕ) (size at count : ℕ) → size ≡ length file → got ≡ fill_with_zeros (drop at file) count → at + count ≤ size → part file at count ≡ got
whole_part file got size at count long is inside = sym (is ∙ fill_with_zeros-inside (drop at file) count (omega (arith, length-drop at file, long, inside)))

pub place-of_part : (file front : List ℕ) (size : ℕ) → size ≡ length file → front ≡ fill_with_zeros (drop 0 file) 64 → pe_place_of size (part file 0 64) ≡ pe_place_of size front
place-of_part file front size long is = pe_place_of-same size (part file 0 64) front (λ inside. whole_part file front size 0 64 long is inside)

pub coff-of_part : (file header : List ℕ) (size place : ℕ) → size ≡ length file → header ≡ fill_with_zeros (drop place file) 24 → coff_of size place (part file place 24) ≡ coff_of size place header
coff-of_part file header size place long is = coff_of-same size place (part file place 24) header (λ inside. whole_part file header size place 24 long is inside)
