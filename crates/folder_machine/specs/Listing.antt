-- Which names of a folder are those of files.
use Rattle.std.specs.Prelude.{ℕ, Bool, false, ◌&&◌, List, Option, filter, if◌then◌else◌}
use Rattle.std.specs.Option.{option_map_or}
use Rattle.boot_base.specs.Paths.{is_file_name}
use Rattle.name_syncs.specs.Folders.{path_in}
use Rattle.folder_calls.specs.Tree.{Tree, has_link, is_file}
use Rattle.folder_calls.specs.declared.found.Found.{Found}

-- what stands at a path, or what it leads to if that is a link
abbrev pub followed : Tree → List ℕ → Option Found
followed tree path = if has_link (tree.stands path) then tree.leads path else tree.stands path

-- a regular file, after links
abbrev pub leads_to_file : Tree → List ℕ → Bool
leads_to_file tree path = option_map_or is_file (followed tree path) false

-- a name in a folder that can be read as one, of a regular file
abbrev pub is_file_in : Tree → List ℕ → List ℕ → Bool
is_file_in tree folder name = leads_to_file tree (path_in folder name) && is_file_name name

-- those of a folder's names that are names of regular files, in their order
abbrev pub files_in : Tree → List ℕ → List (List ℕ) → List (List ℕ)
files_in tree folder names = filter (is_file_in tree folder) names
