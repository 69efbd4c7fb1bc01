-- What an answer of the system means to a call, by the kind that std gives the system's number (Linux, errno(3)).
use Rattle.std.specs.Prelude.{Bool, true, false, Option, Some, None, Result, Ok, Err, if◌then◌else◌}
use Rattle.std.specs.IoError.{error_kind}
use Rattle.std.specs.declared.io.Error.{Error}
use Rattle.std.specs.declared.io.ErrorKind.{ErrorKind}
use Rattle.std.specs.declared.io.ErrorKind.TheVariants.{AlreadyExists, FilesystemLoop, InvalidFilename, InvalidInput, IsADirectory, NotADirectory, NotFound, PermissionDenied, ReadOnlyFilesystem, Unsupported}
use Rattle.name_syncs.specs.declared.disk.FolderFault.{FolderFault}

-- no such file or folder is there
abbrev pub says_absent : ErrorKind → Bool
says_absent NotFound = true
says_absent NotADirectory = true
says_absent IsADirectory = true
says_absent FilesystemLoop = true
says_absent _ = false

-- what was found, or that nothing is there
abbrev pub found_or_none : {T : Type 0} → Result T Error → Result (Option T) Error
found_or_none (Ok found) = Ok (Some found)
found_or_none (Err error) = if says_absent (error_kind error) then Ok None else Err error

-- a name is no UTF-8
abbrev pub says_no_text : ErrorKind → Bool
says_no_text InvalidFilename = true
says_no_text _ = false

-- an entry of a folder, or none if its name isn't UTF-8
abbrev pub text_or_none : {T : Type 0} → Result T Error → Result (Option T) Error
text_or_none (Ok entry) = Ok (Some entry)
text_or_none (Err error) = if says_no_text (error_kind error) then Ok None else Err error

-- something stands there already
abbrev pub says_there : ErrorKind → Bool
says_there AlreadyExists = true
says_there _ = false

-- it was made, or stood there already
abbrev pub made_or_there : Result (Unit {0}) Error → Result (Unit {0}) Error
made_or_there (Ok made) = Ok made
made_or_there (Err error) = if says_there (error_kind error) then Ok tt else Err error

-- a file system doesn't know the call, or refuses it
abbrev pub says_refused : ErrorKind → Bool
says_refused PermissionDenied = true
says_refused Unsupported = true
says_refused _ = false

-- whether it was done, or refused
abbrev pub done_or_refused : Result (Unit {0}) Error → Result Bool Error
done_or_refused (Ok done) = Ok true
done_or_refused (Err error) = if says_refused (error_kind error) then Ok false else Err error

-- a file system syncs no folders, as a read-only one
abbrev pub says_no_syncs : ErrorKind → Bool
says_no_syncs InvalidInput = true
says_no_syncs Unsupported = true
says_no_syncs ReadOnlyFilesystem = true
says_no_syncs _ = false

-- this run may not open something
abbrev pub says_closed : ErrorKind → Bool
says_closed PermissionDenied = true
says_closed _ = false

-- what the answer to the sync of a folder means that was there
abbrev pub folder_answer : Result (Unit {0}) Error → Result Bool (FolderFault Error)
folder_answer (Ok synced) = Ok true
folder_answer (Err error) = Err (record {
  syncs_none = says_no_syncs (error_kind error);
  is_refused = says_closed (error_kind error);
  fault = error;
})
