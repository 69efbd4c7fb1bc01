-- What a look tells of a path.
use Rattle.std.specs.Prelude.{ℕ, Bool, List, Option, Some, None, if◌then◌else◌}
use Rattle.std.specs.Option.{option_map}
use Rattle.fat_rules.specs.declared.facts.Facts.{Facts}
use Rattle.folder_calls.specs.Tree.{Tree, is_fat_file, is_file}
use Rattle.folder_calls.specs.declared.found.Found.{Found}

-- what was found if it is of that kind, and else nothing
abbrev pub found_as : (Found → Bool) → Option Found → Option Found
found_as is_of_kind (Some found) = if is_of_kind found then Some found else None
found_as is_of_kind None = None

-- what the system tells of the regular file at a path
abbrev pub facts_there : Tree → List ℕ → Option Facts
facts_there tree path = option_map (λ found. found.facts) (found_as is_file (tree.stands path))

-- what the system tells of the regular file at a path, if it may stand on FAT
abbrev pub fat_facts_there : Tree → List ℕ → Option Facts
fat_facts_there tree path = option_map (λ found. found.facts) (found_as is_fat_file (tree.stands path))
