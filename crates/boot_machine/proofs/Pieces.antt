-- A range of a file, piece by piece.
use Rattle.std.proofs.Common.{◌≡◌, ◌+◌, ℕ, List, [], ◌++◌, drop, sym, ap, ◌∙◌, arith, Result, Ok, Err, OnErr, drop-drop}
use Rattle.boot_machine.specs.Prelude.{fill_with_zeros}
use Rattle.boot_machine.proofs.Filling.{fill_with_zeros-inside}
use Rattle.boot_machine.proofs.Ranges.{fill_with_zeros-add}

-- no byte of a range
pub none_of : (bytes : List ℕ) → [] ≡ fill_with_zeros bytes 0
none_of bytes = sym (fill_with_zeros-inside bytes 0 (omega arith))

-- the next piece of it, of a file that has kept its bytes
pub piece_more : (file seen first next : List ℕ) (start done count : ℕ) → seen ≡ file → first ≡ fill_with_zeros (drop start file) done → next ≡ fill_with_zeros (drop (start + done) seen) count
    → first ++ next ≡ fill_with_zeros (drop start file) (done + count)
piece_more file seen first next start done count same is more =
    ap (λ (l : List ℕ). l ++ next) is
    ∙ ap (λ (l : List ℕ). fill_with_zeros (drop start file) done ++ l) (more ∙ ap (λ (f : List ℕ). fill_with_zeros (drop (start + done) f) count) same)
    ∙ ap (λ (l : List ℕ). fill_with_zeros (drop start file) done ++ fill_with_zeros l count) (sym (drop-drop done start file))
    ∙ sym (fill_with_zeros-add (drop start file) done count)

-- what holds holds after an error
pub after_error : {T E : Type 0} (result : Result T E) (P : Type 0) → P → OnErr result P
after_error (Ok value) P holds = tt
after_error (Err error) P holds = holds
