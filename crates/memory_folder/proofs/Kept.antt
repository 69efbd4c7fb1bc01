-- What the other paths and the other files keep.
use Rattle.std.proofs.Common.{◌≡◌, ◌≢◌, ◌<◌, ℕ, zero, suc, Bool, true, false, not, ◌==◌, List, [], ◌∷◌, ◌++◌, refl, ap, sym, ◌∙◌, bytes_eq, filter, find, length, position, slice_index_or, slice_set, Option, Some, None, if◌then◌else◌, option_map}
use Rattle.std.proofs.lemmas.Bool.{eqb-true, false_from_ne_true}
use Rattle.std.proofs.lemmas.List.Folds.{find-append, find_past}
use Rattle.std.proofs.lemmas.Slice.Eq.{bytes_eq-Decides}
use Rattle.std.specs.Option.{option_map_or, option_or}
use Rattle.folder_calls.specs.Rows.{KeepsBytesBut, KeepsNames, KeepsNamesBut, inode_at}
use Rattle.memory_folder.specs.Entries.{bytes_of_number, first_entry_at, tree_of_entries}
use Rattle.memory_folder.specs.declared.entry.Entry.{Entry}
use Rattle.memory_folder.proofs.Moved.{number_of, stays}
use Rattle.memory_folder.proofs.Place.{found_passes, found_there, place_within}

-- the number of the first entry of a path
abbrev pub number_at : List Entry → List ℕ → Option ℕ
number_at entries path = option_map (λ entry. entry.inode) (first_entry_at entries path)

-- a path whose first entry has the same number has the same file
same_file : (old new : List Entry) (path : List ℕ) → number_at new path ≡ number_at old path
    → inode_at (tree_of_entries new) path ≡ inode_at (tree_of_entries old) path
same_file old new [] same = refl
same_file old new (byte ∷ path) same =
    number_of (first_entry_at new (byte ∷ path)) ∙ ap (option_map (λ number. (1, number))) same
    ∙ sym (number_of (first_entry_at old (byte ∷ path)))

-- so has one whose first entry is the same
pub same_entry : (old new : List Entry) (path : List ℕ) → first_entry_at new path ≡ first_entry_at old path
    → inode_at (tree_of_entries new) path ≡ inode_at (tree_of_entries old) path
same_entry old new path same = same_file old new path (ap (option_map (λ (entry : Entry). entry.inode)) same)

-- an entry of one path isn't one of another
not_of : (entry : Entry) (one other : List ℕ) → one ≢ other → entry.path ≡ one → bytes_eq entry.path other ≡ false
not_of entry one other differs is =
    false_from_ne_true _ (λ same. differs (sym is ∙ (bytes_eq-Decides entry.path other).0 same))

-- a filter that keeps each entry of a path keeps its first one
filter_keeps : (keeps : Entry → Bool) (entries : List Entry) (path : List ℕ)
    → ((entry : Entry) → bytes_eq entry.path path ≡ true → keeps entry ≡ true)
    → first_entry_at (filter keeps entries) path ≡ first_entry_at entries path
filter_keeps keeps [] path stay = refl
filter_keeps keeps (entry ∷ entries) path stay =
    by_test (bytes_eq entry.path path) refl (keeps entry) (stay entry) (filter_keeps keeps entries path stay)
  where
    no_test : false ≡ true → ⊥
    no_test is = cc

    by_test : (is_there : Bool) → bytes_eq entry.path path ≡ is_there → (kept : Bool) → (is_there ≡ true → kept ≡ true)
        → first_entry_at (filter keeps entries) path ≡ first_entry_at entries path
        → first_entry_at (if kept then entry ∷ filter keeps entries else filter keeps entries) path
        ≡ (if is_there then Some entry else first_entry_at entries path)
    by_test true is true stays later = rw is refl
    by_test false is true stays later = rw is later
    by_test true is false stays later = absurd (no_test (stays refl))
    by_test false is false stays later = later

-- the other paths keep their files when the entries of one go
pub kept_after_drop : (entries : List Entry) (path : List ℕ)
    → KeepsNamesBut path (tree_of_entries entries)
    (tree_of_entries (filter (λ entry. not (bytes_eq entry.path path)) entries))
kept_after_drop entries path other differs =
    let keeps : Entry → Bool = λ (entry : Entry). not (bytes_eq entry.path path) in
    same_entry entries (filter keeps entries) other
    (filter_keeps keeps entries other
    (λ entry is. ap not (not_of entry other path differs ((bytes_eq-Decides entry.path other).0 is))))

-- they keep their first entries when an entry gets another path, and what else stood at the two goes
pub kept_after_move : (entries : List Entry) (at : ℕ) (old moved : Entry) (from to other : List ℕ)
    → old ≡ slice_index_or entries at old → old.path ≡ from → moved.path ≡ to → other ≢ from → other ≢ to
    → first_entry_at (filter (stays from to moved.inode) (slice_set entries at moved)) other
    ≡ first_entry_at entries other
kept_after_move entries at old moved from to other there was is not_from not_to =
    let test : Entry → Bool = λ (entry : Entry). bytes_eq entry.path other in
    filter_keeps (stays from to moved.inode) (slice_set entries at moved) other stay
    ∙ find_past test entries at moved old
    (sym (ap test there) ∙ not_of old from other (λ same. not_from (sym same)) was)
    (not_of moved to other (λ same. not_to (sym same)) is)
  where
    stay : (entry : Entry) → bytes_eq entry.path other ≡ true → stays from to moved.inode entry ≡ true
    stay entry is =
        let path : entry.path ≡ other = (bytes_eq-Decides entry.path other).0 is in
        rw (not_of entry other from not_from path, not_of entry other to not_to path) refl

-- what was found first stays so if nothing is found behind it
or_none : (entry : Option Entry) → option_or entry None ≡ entry
or_none None = refl
or_none (Some entry) = refl

-- the other paths keep their files when an entry comes
pub kept_after_add : (entries : List Entry) (entry : Entry) (path : List ℕ) → entry.path ≡ path
    → KeepsNamesBut path (tree_of_entries entries) (tree_of_entries (entries ++ entry ∷ []))
kept_after_add entries entry path is other differs =
    let test : Entry → Bool = λ (entry : Entry). bytes_eq entry.path other in
    let none : find test (entry ∷ []) ≡ None = rw (not_of entry path other (λ same. differs (sym same)) is) refl in
    same_entry entries (entries ++ entry ∷ []) other
    (find-append test entries (entry ∷ []) ∙ ap (option_or (find test entries)) none ∙ or_none (find test entries))

-- each path keeps the number of its first entry when the bytes of an entry change
same_numbers : (entries : List Entry) (at : ℕ) (old new : Entry) (path : List ℕ) → old ≡ slice_index_or entries at old
    → new.path ≡ old.path → new.inode ≡ old.inode → number_at (slice_set entries at new) path ≡ number_at entries path
same_numbers [] at old new path there same_path same_number = refl
same_numbers (entry ∷ entries) zero old new path there same_path same_number =
    by_test (bytes_eq entry.path path) refl
  where
    is_of : bytes_eq new.path path ≡ bytes_eq entry.path path
    is_of = ap (λ (one : List ℕ). bytes_eq one path) (same_path ∙ ap (λ (one : Entry). one.path) there)

    by_test : (is_there : Bool) → bytes_eq entry.path path ≡ is_there
        → option_map (λ (one : Entry). one.inode)
        (if bytes_eq new.path path then Some new else first_entry_at entries path)
        ≡ option_map (λ (one : Entry). one.inode) (if is_there then Some entry else first_entry_at entries path)
    by_test true is = rw (is_of ∙ is) (ap Some (same_number ∙ ap (λ (one : Entry). one.inode) there))
    by_test false is = rw (is_of ∙ is) refl
same_numbers (entry ∷ entries) (suc at) old new path there same_path same_number =
    by_test (bytes_eq entry.path path) (same_numbers entries at old new path there same_path same_number)
  where
    by_test : (is_there : Bool) → number_at (slice_set entries at new) path ≡ number_at entries path
        → option_map (λ (one : Entry). one.inode)
        (if is_there then Some entry else first_entry_at (slice_set entries at new) path)
        ≡ option_map (λ (one : Entry). one.inode) (if is_there then Some entry else first_entry_at entries path)
    by_test true later = refl
    by_test false later = later

-- so each path keeps its file
pub names_after_write : (entries : List Entry) (at : ℕ) (old new : Entry) → old ≡ slice_index_or entries at old
    → new.path ≡ old.path → new.inode ≡ old.inode
    → KeepsNames (tree_of_entries entries) (tree_of_entries (slice_set entries at new))
names_after_write entries at old new there same_path same_number path =
    same_file entries (slice_set entries at new) path (same_numbers entries at old new path there same_path same_number)

-- each file of another number keeps its bytes
pub bytes_after_write : (entries : List Entry) (number at : ℕ) (old new : Entry)
    → position (λ (entry : Entry). entry.inode == number) entries ≡ Some at → old ≡ slice_index_or entries at old
    → new.inode ≡ old.inode
    → KeepsBytesBut (1, number) (tree_of_entries entries) (tree_of_entries (slice_set entries at new))
bytes_after_write entries number at old new place there same_number (system, other) differs =
    by_system (system == 1) refl
  where
    of_number : Entry → Bool
    of_number entry = entry.inode == number

    is : old.inode ≡ number
    is =
        let within : at < length entries = place_within of_number entries at place in
        eqb-true old.inode number
        (found_passes of_number entries old (found_there of_number entries at old place within there))

    test : Entry → Bool
    test entry = entry.inode == other

    not_this : system ≡ 1 → (number == other) ≡ false
    not_this here = false_from_ne_true _ (λ same. differs (rw (here, eqb-true number other same) refl))

    past : system ≡ 1 → find test (slice_set entries at new) ≡ find test entries
    past here =
        find_past test entries at new old
        (sym (ap test there) ∙ ap (λ (one : ℕ). one == other) is ∙ not_this here)
        (ap (λ (one : ℕ). one == other) (same_number ∙ is) ∙ not_this here)

    by_system : (here : Bool) → (system == 1) ≡ here
        → (if here then bytes_of_number (slice_set entries at new) other else [])
        ≡ (if here then bytes_of_number entries other else [])
    by_system true is_here =
        ap (λ found. option_map_or (λ (entry : Entry). entry.bytes.items) found []) (past (eqb-true system 1 is_here))
    by_system false is_here = refl
