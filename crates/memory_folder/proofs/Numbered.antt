-- The number of what stands in a folder in memory.
use Rattle.std.proofs.Common.{◌≡◌, ℕ, List, [], ◌∷◌, refl, Option, Some, None, option_map}
use Rattle.folder_calls.specs.Calls.{inode_of}
use Rattle.memory_folder.specs.Entries.{first_entry_at, found_at, found_of_entry}
use Rattle.memory_folder.specs.declared.entry.Entry.{Entry}

of_entry : (entry : Option Entry) → option_map inode_of (option_map found_of_entry entry)
    ≡ option_map (λ found. (1, found.inode)) (option_map found_of_entry entry)
of_entry None = refl
of_entry (Some entry) = refl

-- it is on one file system with all others there
pub on_one_system : (entries : List Entry) (path : List ℕ)
    → option_map inode_of (found_at entries path) ≡ option_map (λ found. (1, found.inode)) (found_at entries path)
on_one_system entries [] = refl
on_one_system entries (byte ∷ path) = of_entry (first_entry_at entries (byte ∷ path))
