-- What a folder in memory tells.
use Rattle.std.specs.Prelude.{ℕ, Bool, List}
use Rattle.name_syncs.specs.Paths.{has_path}
use Rattle.name_syncs.specs.Waiting.{Waiting}
use Rattle.folder_calls.specs.Calls.{Inode, Locking}
use Rattle.folder_calls.specs.Tree.{Tree}
use Rattle.memory_folder.specs.Entries.{tree_of_entries}
use Rattle.memory_folder.specs.Notes.{noted_waits}
use Rattle.memory_folder.specs.declared.folder.MemoryFile.{MemoryFile}
use Rattle.memory_folder.specs.declared.folder.MemoryFolder.{MemoryFolder}
use Rattle.memory_folder.specs.declared.folder.MemoryLock.{MemoryLock}

-- what stands in it
abbrev pub memory_tree : MemoryFolder → Tree
memory_tree folder = tree_of_entries folder.entries.items

-- what of it waits for the disk
abbrev pub memory_waits : MemoryFolder → Waiting
memory_waits folder = noted_waits folder.notes

-- bytes of the file at a path wait
abbrev pub memory_written : MemoryFolder → List ℕ → Bool
memory_written folder path = has_path folder.notes.written path

-- which file an open one is
abbrev pub inode_of_file : MemoryFile → Inode
inode_of_file file = (1, file.inode)

-- what a lock is on, and who else may hold that
abbrev pub told_by_lock : MemoryLock → Locking
told_by_lock lock = ((1, lock.inode), lock.hold)
