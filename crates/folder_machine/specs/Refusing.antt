-- Which error an answer is.
use Rattle.std.specs.Prelude.{Bool, true, false, not, ◌&&◌, Option, Some, None, if◌then◌else◌}
use Rattle.std.specs.Option.{option_map_or}
use Rattle.std.specs.declared.io.ErrorKind.{ErrorKind}
use Rattle.std.specs.declared.io.ErrorKind.TheVariants.{InvalidInput, IsADirectory, WouldBlock}
use Rattle.folder_calls.specs.Tree.{is_file}
use Rattle.folder_calls.specs.declared.found.Found.{Found}
use Rattle.folder_calls.specs.declared.found.Kind.{Kind}
use Rattle.folder_calls.specs.declared.found.Kind.TheVariants.{File, Folder, Link, Other}

-- what is found is no regular file
abbrev pub kind_fault : Option Found → Option ErrorKind
kind_fault found = if option_map_or is_file found true then None else Some InvalidInput

-- why a rename doesn't replace what stands at a path
abbrev pub kept_by_kind : Kind → Option ErrorKind
kept_by_kind File = None
kept_by_kind Link = None
kept_by_kind Folder = Some IsADirectory
kept_by_kind Other = Some InvalidInput

-- why a rename doesn't replace what is found at a path, if anything is found
abbrev pub replace_fault : Option Found → Option ErrorKind
replace_fault None = None
replace_fault (Some found) = kept_by_kind found.kind

-- a file at the path of the intent is that of another run, unless this one holds it
abbrev pub other_move_fault : Option Found → Bool → Option ErrorKind
other_move_fault found holds_intent =
    if not holds_intent && option_map_or is_file found false then Some WouldBlock else None
