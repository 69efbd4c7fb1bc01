-- What is cleared before the sync of a folder of FAT.
use Rattle.std.specs.Prelude.{◌≡◌, ℕ, Bool, false, true, List, Result, Ok, Err}
use Rattle.std.specs.IoError.{error_kind}
use Rattle.std.specs.declared.io.Error.{Error}
use Rattle.boot_base.specs.Paths.{is_temp}
use Rattle.name_syncs.specs.Folders.{path_in}
use Rattle.name_syncs.specs.Waiting.{FileAt, Waiting}
use Rattle.folder_calls.specs.Answers.{says_closed}

-- nobody has left the file of a name in a folder, unless it is a temporary one
abbrev pub IsClear : Waiting → List ℕ → List ℕ → Type 0
IsClear disk folder name = is_temp name ≡ false → disk.left (FileAt (path_in folder name)) ≡ false

-- a sync is done, or this run may not make it: nothing was tried behind it
abbrev pub needs_no_try : {T : Type 0} → Result T Error → Bool
needs_no_try (Ok value) = true
needs_no_try (Err error) = says_closed (error_kind error)
