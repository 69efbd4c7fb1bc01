-- What stands at a path after an entry was added there.
use Rattle.std.proofs.Common.{◌≡◌, ℕ, Bool, true, false, List, [], ◌∷◌, ◌++◌, refl, bytes_eq, Some, None, if◌then◌else◌, option_map}
use Rattle.std.proofs.lemmas.Slice.Eq.{bytes_eq-Decides}
use Rattle.memory_folder.specs.Entries.{first_entry_at, found_at, found_of_entry}
use Rattle.memory_folder.specs.declared.entry.Entry.{Entry}

first_behind : (entries : List Entry) (entry : Entry) (path : List ℕ) → entry.path ≡ path
    → option_map found_of_entry (first_entry_at entries path) ≡ None
    → option_map found_of_entry (first_entry_at (entries ++ entry ∷ []) path) ≡ Some (found_of_entry entry)
first_behind [] entry path is none = rw ((bytes_eq-Decides entry.path path).1 is) refl
first_behind (first ∷ entries) entry path is none = by_test (bytes_eq first.path path) none (first_behind entries entry path is)
  where
    by_test : (here : Bool) → option_map found_of_entry (if here then Some first else first_entry_at entries path) ≡ None
        → (option_map found_of_entry (first_entry_at entries path) ≡ None
        → option_map found_of_entry (first_entry_at (entries ++ entry ∷ []) path) ≡ Some (found_of_entry entry))
        → option_map found_of_entry (if here then Some first else first_entry_at (entries ++ entry ∷ []) path)
        ≡ Some (found_of_entry entry)
    by_test true none later = cc
    by_test false none later = later none

pub added_there : (entries : List Entry) (entry : Entry) (path : List ℕ) → entry.path ≡ path → found_at entries path ≡ None
    → found_at (entries ++ entry ∷ []) path ≡ Some (found_of_entry entry)
added_there entries entry [] is none = cc
added_there entries entry (byte ∷ path) is none = first_behind entries entry (byte ∷ path) is none
