-- What stands in a folder in memory.
use Rattle.std.specs.Prelude.{ℕ, ◌==◌, bytes_eq, List, [], ◌∷◌, filter, if◌then◌else◌, map, Option, Some, pos, vec_len}
use Rattle.std.specs.List.{find}
use Rattle.std.specs.Option.{option_map, option_map_or}
use Rattle.boot_base.specs.Paths.{file_name_of}
use Rattle.name_syncs.specs.Folders.{parent_folder}
use Rattle.folder_calls.specs.Calls.{Inode}
use Rattle.folder_calls.specs.Tree.{Tree}
use Rattle.folder_calls.specs.declared.found.Found.{Found}
use Rattle.folder_calls.specs.declared.found.Kind.{Kind}
use Rattle.folder_calls.specs.declared.found.Kind.TheVariants.{Folder}
use Rattle.memory_folder.specs.declared.entry.Entry.{Entry}

-- what the system tells of something of that kind, length and number: FAT can keep its time, and it has one name
abbrev pub found_with : Kind → ℕ → ℕ → Found
found_with kind length inode = record {
  kind = kind;
  facts = record { length = length; time = Some 0; links = 1 };
  seconds = pos 0;
  nanoseconds = pos 0;
  device = 1;
  inode = inode;
  mode = 420;
}

-- what it tells of an entry
abbrev pub found_of_entry : Entry → Found
found_of_entry entry = found_with entry.kind (vec_len entry.bytes) entry.inode

-- the folder that the program starts in, which has no entry
abbrev pub found_of_start : Found
found_of_start = found_with Folder 0 0

-- the first entry of that path
abbrev pub first_entry_at : List Entry → List ℕ → Option Entry
first_entry_at entries path = find (λ entry. bytes_eq entry.path path) entries

-- what stands at a path
abbrev pub found_at : List Entry → List ℕ → Option Found
found_at entries [] = Some found_of_start
found_at entries (byte ∷ path) = option_map found_of_entry (first_entry_at entries (byte ∷ path))

-- the names of the entries in a folder, in their order
abbrev pub names_in_folder : List ℕ → List Entry → List (List ℕ)
names_in_folder folder entries =
    map (λ entry. file_name_of entry.path) (filter (λ entry. bytes_eq (parent_folder entry.path) folder) entries)

-- the first entry of that number
abbrev pub first_entry_of : List Entry → ℕ → Option Entry
first_entry_of entries number = find (λ entry. entry.inode == number) entries

-- its bytes
abbrev pub bytes_of_number : List Entry → ℕ → List ℕ
bytes_of_number entries number = option_map_or (λ entry. entry.bytes.items) (first_entry_of entries number) []

-- those of a file by its number and that of its file system, which is 1 for all in the folder
abbrev pub bytes_of_inode : List Entry → Inode → List ℕ
bytes_of_inode entries inode = if inode.0 == 1 then bytes_of_number entries inode.1 else []

-- the entries as a folder with all that is below it
abbrev pub tree_of_entries : List Entry → Tree
tree_of_entries entries = record {
  stands = found_at entries;
  leads = found_at entries;
  names = λ folder. names_in_folder folder entries;
  bytes = bytes_of_inode entries;
}
