-- What stands at the two paths of a rename.
use Rattle.std.proofs.Common.{◌≡◌, ◌≢◌, ◌<◌, is_some, sym, ◌∙◌, ℕ, zero, suc, Bool, true, false, not, ◌&&◌, ◌||◌, ◌==◌, List, [], ◌∷◌, refl, bytes_eq, filter, slice_set, length, Option, Some, None, if◌then◌else◌, option_map, ap, arith}
use Rattle.std.proofs.lemmas.Bool.{eqb-true}
use Rattle.std.proofs.lemmas.Slice.Eq.{bytes_eq-Decides}
use Rattle.folder_calls.specs.Calls.{inode_of}
use Rattle.folder_calls.specs.Rows.{MovedRow, inode_at}
use Rattle.memory_folder.specs.Entries.{first_entry_at, found_of_entry, tree_of_entries}
use Rattle.memory_folder.specs.declared.entry.Entry.{Entry}

-- what a rename keeps
abbrev pub stays : List ℕ → List ℕ → ℕ → Entry → Bool
stays from to number entry = not (bytes_eq entry.path from) && (not (bytes_eq entry.path to) || (entry.inode == number))

pub none_left : (entries : List Entry) (from to : List ℕ) (number : ℕ)
    → first_entry_at (filter (stays from to number) entries) from ≡ None
none_left [] from to number = refl
none_left (entry ∷ entries) from to number =
    by_test (bytes_eq entry.path from) refl (not (bytes_eq entry.path to) || (entry.inode == number)) (none_left entries from to number)
  where
    by_test : (same : Bool) → bytes_eq entry.path from ≡ same → (other : Bool)
        → first_entry_at (filter (stays from to number) entries) from ≡ None
        → first_entry_at (if not same && other then entry ∷ filter (stays from to number) entries
        else filter (stays from to number) entries) from ≡ None
    by_test true is other later = later
    by_test false is true later = rw is later
    by_test false is false later = later

-- it has its number there
pub moved_there : (entries : List Entry) (at : ℕ) (moved : Entry) (from to : List ℕ) → at < length entries
    → bytes_eq moved.path from ≡ false → bytes_eq moved.path to ≡ true → (moved.inode == moved.inode) ≡ true
    → option_map (λ entry. entry.inode) (first_entry_at (filter (stays from to moved.inode) (slice_set entries at moved)) to)
    ≡ Some moved.inode
moved_there [] at moved from to within left here same = absurd (omega arith)
moved_there (entry ∷ entries) zero moved from to within left here same = rw left (rw here (rw same (rw here refl)))
moved_there (entry ∷ entries) (suc at) moved from to within left here same =
    by_test (bytes_eq entry.path to) refl (bytes_eq entry.path from) (entry.inode == moved.inode) refl
    (moved_there entries at moved from to (omega arith) left here same)
  where
    rest : List Entry
    rest = filter (stays from to moved.inode) (slice_set entries at moved)

    by_test : (is_to : Bool) → bytes_eq entry.path to ≡ is_to → (is_from is_same : Bool) → (entry.inode == moved.inode) ≡ is_same
        → option_map (λ entry. entry.inode) (first_entry_at rest to) ≡ Some moved.inode
        → option_map (λ entry. entry.inode)
        (first_entry_at (if not is_from && (not is_to || is_same) then entry ∷ rest else rest) to) ≡ Some moved.inode
    by_test is_to is true is_same number later = later
    by_test false is false is_same number later = rw is later
    by_test true is false true number later = rw is (ap Some (eqb-true entry.inode moved.inode number))
    by_test true is false false number later = later

-- the file of what was found of an entry, by the entry's number
pub number_of : (entry : Option Entry) → option_map inode_of (option_map found_of_entry entry)
    ≡ option_map (λ number. (1, number)) (option_map (λ entry. entry.inode) entry)
number_of None = refl
number_of (Some entry) = refl

some_found : (entry : Option Entry) → is_some entry ≡ true → is_some (option_map found_of_entry entry) ≡ true
some_found None is = is
some_found (Some entry) is = refl

-- the row of a rename
pub moved_row : (old new : List Entry) (from to : List ℕ) → from ≢ [] → to ≢ [] → is_some (first_entry_at old from) ≡ true
    → option_map (λ entry. entry.inode) (first_entry_at new to) ≡ option_map (λ entry. entry.inode) (first_entry_at old from)
    → first_entry_at new from ≡ None → MovedRow (tree_of_entries old) (tree_of_entries new) from to
moved_row old new [] to named other was there left = absurd (named refl)
moved_row old new (byte ∷ from) [] named other was there left = absurd (other refl)
moved_row old new (byte ∷ from) (first ∷ to) named other was there left = record {
  was = some_found (first_entry_at old (byte ∷ from)) was;
  there = number_of (first_entry_at new (first ∷ to)) ∙ ap (option_map (λ number. (1, number))) there
      ∙ sym (number_of (first_entry_at old (byte ∷ from)));
  left = λ _. ap (option_map found_of_entry) left;
}

-- that of a rename to the same path
pub same_row : (entries : List Entry) (from to : List ℕ) → from ≢ [] → is_some (first_entry_at entries from) ≡ true
    → bytes_eq from to ≡ true → MovedRow (tree_of_entries entries) (tree_of_entries entries) from to
same_row entries [] to named was same = absurd (named refl)
same_row entries (byte ∷ from) to named was same =
    let is : byte ∷ from ≡ to = (bytes_eq-Decides (byte ∷ from) to).0 same in
    record {
      was = some_found (first_entry_at entries (byte ∷ from)) was;
      there = ap (inode_at (tree_of_entries entries)) (sym is);
      left = λ other. absurd (other (ap (inode_at (tree_of_entries entries)) is));
    }
