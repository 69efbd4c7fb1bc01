-- What of a folder in memory waits for the disk.
use Rattle.std.specs.Prelude.{◌≡◌, ℕ, false, true, List, [], ◌∷◌, ◌++◌, map}
use Rattle.name_syncs.specs.Paths.{has_path}
use Rattle.name_syncs.specs.Waiting.{FileAt, FolderAt, Sync, Waiting}
use Rattle.memory_folder.specs.declared.notes.Notes.{Notes}
use Rattle.memory_folder.specs.declared.sync_log.Asked.{Asked}
use Rattle.memory_folder.specs.declared.sync_log.SyncLog.{SyncLog}
use Rattle.memory_folder.specs.declared.sync_log.Synced.{Synced}
use Rattle.memory_folder.specs.declared.sync_log.Synced.TheVariants.{File, Folder}

-- a sync of the file or the folder at a path
abbrev pub sync_with : Synced → List ℕ → Sync
sync_with File path = FileAt path
sync_with Folder path = FolderAt path

-- those that were kept
abbrev pub syncs_of : List Asked → List Sync
syncs_of asked = map (λ one. sync_with one.synced one.path) asked

-- if each sync so far was kept, this one stands behind those before
abbrev pub LogsIn : Sync → SyncLog → SyncLog → Type 0
LogsIn sync old new =
    new.is_whole ≡ true → (old.is_whole ≡ true) × (syncs_of new.asked.items ≡ syncs_of old.asked.items ++ sync ∷ [])

-- What waits by the notes. Nobody else leaves anything in a folder in memory, and it isn't of FAT. Each folder can be synced,
-- and nothing is told of what may be opened.
abbrev pub noted_waits : Notes → Waiting
noted_waits notes = record {
  files = has_path notes.files;
  folders = has_path notes.folders;
  left = λ _. false;
  fat = λ _. false;
  syncs = λ _. true;
  opens = λ _. false;
  asked = syncs_of notes.log.asked.items;
  logged = notes.log.is_whole;
}
