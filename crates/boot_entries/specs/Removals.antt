-- The menu when files go.
use Rattle.std.specs.Prelude.{Bool, not, List, [], ◌∷◌, bytes_eq, filter}
use Rattle.std.specs.List.{list_any}
use Rattle.std.specs.FinMap as map
use Rattle.boot_base.specs.Paths.{Path}
use Rattle.boot_machine.specs.Disk.{Files}
use Rattle.menu_order.specs.declared.item.MenuItem.{MenuItem}

-- the files without those at these paths
abbrev pub remove_files : Files → List Path → Files
remove_files files [] = files
remove_files files (path ∷ paths) = remove_files (map.remove files path) paths

-- the record is that of a file at one of these paths
abbrev pub is_among : List Path → MenuItem → Bool
is_among paths item = list_any (bytes_eq item.path) paths

-- a menu without the records of the files at these paths
abbrev pub menu_without : List Path → List MenuItem → List MenuItem
menu_without paths menu = filter (λ item. not (is_among paths item)) menu
