-- What a length tells of a file that is read.
use Rattle.std.proofs.Common.{◌≡◌, ◌≤◌, ℕ, true, false, List, length, Some, Ok, is_some, refl, sym, ap, ◌∙◌, arith, nat_lt, option_map}
use Rattle.std.proofs.lemmas.Bool.Decides.{nat_tests}
use Rattle.std.specs.FinMap.{get}
use Rattle.boot_base.specs.Paths.{Path, is_temp}
use Rattle.boot_machine.specs.Prelude.{State, has, contents, seen}
use Rattle.boot_machine.proofs.Views.{get-view_shown}
use Rattle.command_plans.proofs.Sizes.{some_of, contents_seen}
use Rattle.boot_base.specs.Limits.{file_limit}
use Rattle.command_plans.specs.Prelude.{bytes_at, readable_bytes}

pub record IsKnown (s : State) (path : Path) : Type 0 where
  pub bytes : bytes_at (seen s) path ≡ Ok (contents s.files path)
  pub long : (size : ℕ) → option_map length (get (seen s) path) ≡ Some size → length (contents s.files path) ≡ size
  pub there : has s.files path ≡ true
  pub small : length (contents s.files path) ≤ file_limit

not_above : (n : ℕ) → n ≤ file_limit → nat_lt file_limit n ≡ false
not_above n small = grind (arith, nat_tests)

readable_small : (path : Path) (bytes : List ℕ) → length bytes ≤ file_limit → readable_bytes path (Some bytes) ≡ Ok bytes
readable_small path bytes small = rw (not_above (length bytes) small) refl

pub known : (s : State) (path : Path) (size : ℕ) → is_temp path ≡ false → option_map length (get (seen s) path) ≡ Some size → size ≤ file_limit → IsKnown s path
known s path size shown found small =
    let there = some_of (get (seen s) path) size found in
    let held = contents_seen s path there.0 shown there.1 in
    let few : length there.0 ≤ file_limit = omega (arith, there.2) in
    record {
      bytes = ap (readable_bytes path) there.1 ∙ readable_small path there.0 few ∙ ap (λ (bytes : List ℕ). Ok bytes) (sym held);
      long = λ other is. cc (ap length held, there.2, found, is);
      there = ap is_some (sym (get-view_shown s.files path shown) ∙ there.1);
      small = omega (arith, ap length held, few);
    }
