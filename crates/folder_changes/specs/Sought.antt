-- The twin of a file that is looked for.
use Rattle.std.specs.Prelude.{ℕ, Bool, not, ◌&&◌, bytes_eq, List}
use Rattle.folder_calls.specs.Calls.{names_twin}
use Rattle.folder_calls.specs.Tree.{Tree}
use Rattle.folder_changes.specs.declared.twins.Sought.{Sought}

-- the name is that of the twin, and is asked
abbrev pub is_twins_name : Tree → Sought → List ℕ → Bool
is_twins_name tree sought name =
    not (bytes_eq name sought.but.now) && names_twin tree sought.path.now sought.found.now name
