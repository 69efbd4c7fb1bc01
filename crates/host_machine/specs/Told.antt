-- What the system is given, and what it tells of a file.
use Rattle.std.specs.Prelude.{ℕ, ℤ, pos, negsuc, Bool, true, false, List, [], ◌∷◌, Option, None, Result, Ok, Err, if◌then◌else◌}
use Rattle.std.specs.Fs.{IsDir, IsFile, IsSymlink}
use Rattle.std.specs.IoError.{error_kind}
use Rattle.std.specs.declared.io.Error.{Error}
use Rattle.std.specs.declared.io.ErrorKind.{ErrorKind}
use Rattle.std.specs.declared.io.ErrorKind.TheVariants.{InvalidInput}
use Rattle.std.specs.declared.fs.FileType.{FileType}
use Rattle.fat_rules.specs.Sharing.{fat_time}
use Rattle.folder_calls.specs.declared.found.Kind.{Kind}
use Rattle.folder_calls.specs.declared.found.Kind.TheVariants.{File, Folder, Link, Other}

-- a path as the system takes it: the folder that the program starts in is `.`
abbrev pub path_for_system : List ℕ → List ℕ
path_for_system [] = 46 ∷ []
path_for_system (byte ∷ path) = byte ∷ path

-- a kind by the type in a file's mode (POSIX, sys/stat.h)
abbrev pub IsKindOf : FileType → Kind → Type 0
IsKindOf type File = IsFile type
IsKindOf type Folder = IsDir type
IsKindOf type Link = IsSymlink type
IsKindOf type Other = (¬ (IsFile type)) × (¬ (IsDir type)) × (¬ (IsSymlink type))

-- a time as FAT keeps it, and none before the start of 1970
abbrev pub signed_fat_time : ℤ → ℤ → Option ℕ
signed_fat_time (pos seconds) (pos nanoseconds) = fat_time seconds nanoseconds
signed_fat_time (pos seconds) (negsuc nanoseconds) = None
signed_fat_time (negsuc seconds) nanoseconds = None

-- a file system syncs no files (Linux, fsync(2), EINVAL)
abbrev pub says_no_file_syncs : ErrorKind → Bool
says_no_file_syncs InvalidInput = true
says_no_file_syncs _ = false

-- whether a file was synced, or none can be there
abbrev pub file_answer : Result (Unit {0}) Error → Result Bool Error
file_answer (Ok synced) = Ok true
file_answer (Err error) = if says_no_file_syncs (error_kind error) then Ok false else Err error
