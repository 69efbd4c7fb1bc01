-- What a length tells of a boot file.
use Rattle.std.proofs.Common.{◌≡◌, ℕ, false, List, [], length, Option, Some, None, unwrap_or, Result, Ok, Err, refl, sym, ap, ◌∙◌, IfOk, option_map}
use Rattle.std.specs.FinMap.{get}
use Rattle.boot_base.specs.Paths.{Path, is_temp}
use Rattle.boot_machine.specs.Prelude.{State, SizeRow, contents, seen}
use Rattle.boot_machine.proofs.Views.{get-view_shown}

pub none_of : (o : Option (List ℕ)) → option_map length o ≡ None → o ≡ None
none_of None is = refl
none_of (Some bytes) is = cc

pub some_of : (o : Option (List ℕ)) (n : ℕ) → option_map length o ≡ Some n → (bytes : List ℕ) × (o ≡ Some bytes) × (length bytes ≡ n)
some_of None n is = cc
some_of (Some bytes) n is = (bytes, refl, cc)

pub size_answer : {E T : Type 0} (s now : State) (path : Path) (result : Result (Option ℕ) E) → is_temp path ≡ false → (T → SizeRow s now path result)
    → IfOk result (λ size. T → option_map length (get (seen s) path) ≡ size)
size_answer s now path (Ok size) shown row = λ told. ap (option_map length) (get-view_shown s.files path shown) ∙ sym (row told).answer
size_answer s now path (Err fault) shown row = tt

-- what boot sees of a file that isn't temporary is what stands there
pub shown_contents : (s : State) (path : Path) → is_temp path ≡ false → contents (seen s) path ≡ contents s.files path
shown_contents s path shown = ap (λ (o : Option (List ℕ)). unwrap_or o []) (get-view_shown s.files path shown)

-- the bytes of a boot file
pub contents_seen : (s : State) (path : Path) (bytes : List ℕ) → is_temp path ≡ false → get (seen s) path ≡ Some bytes → contents s.files path ≡ bytes
contents_seen s path bytes shown is = ap (λ (o : Option (List ℕ)). unwrap_or o []) (sym (get-view_shown s.files path shown) ∙ is)
