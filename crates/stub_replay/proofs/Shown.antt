-- What boot sees of a file.
use Rattle.std.proofs.Common.{◌≡◌, ℕ, List, [], false, Option, unwrap_or, ap}
use Rattle.boot_base.specs.Paths.{Path, is_temp}
use Rattle.boot_machine.specs.Prelude.{State, contents, seen}
use Rattle.boot_machine.proofs.Views.{get-view_shown}

-- what boot sees of a file that isn't temporary is what stands there
pub shown_contents : (s : State) (path : Path) → is_temp path ≡ false → contents (seen s) path ≡ contents s.files path
shown_contents s path shown = ap (λ (o : Option (List ℕ)). unwrap_or o []) (get-view_shown s.files path shown)
