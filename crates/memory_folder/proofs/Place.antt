-- The first entry that passes a test, by its place.
use Rattle.std.proofs.Common.{◌≡◌, ◌<◌, ℕ, zero, suc, arith, is_some, nat_lt, Bool, true, false, ◌==◌, List, [], ◌∷◌, ◌++◌, refl, find, position, slice_get, slice_set, slice_index_or, length, Option, Some, None, cond, ap, sym, ◌∙◌}
use Rattle.std.proofs.lemmas.Bool.{ltb-true}
use Rattle.std.proofs.lemmas.Option.{same_Some, none-some, slice_get-get_or}
use Rattle.std.proofs.lemmas.List.Folds.{find_at, find-set}
use Rattle.std.specs.List.{position_or_len}
use Rattle.std.specs.Option.{option_map_or}
use Rattle.memory_folder.specs.Entries.{bytes_of_number}
use Rattle.memory_folder.specs.declared.entry.Entry.{Entry}

place_is : (found : Bool) (place at : ℕ) → cond found (Some place) None ≡ Some at → place ≡ at
place_is true place at is = same_Some place at is
place_is false place at is = absurd (none-some at is)

within : (found : Bool) (place at count : ℕ) → nat_lt place count ≡ found → cond found (Some place) None ≡ Some at → at < count
within true place at count less is = rw (← same_Some place at is) (ltb-true place count less)
within false place at count less is = absurd (none-some at is)

pub place_within : (test : Entry → Bool) (entries : List Entry) (at : ℕ) → position test entries ≡ Some at → at < length entries
place_within test entries at is =
    within (nat_lt (position_or_len test entries) (length entries)) (position_or_len test entries) at (length entries) refl is

some_there : (entries : List Entry) (at : ℕ) → at < length entries → is_some (slice_get entries at) ≡ true
some_there [] at within = absurd (omega arith)
some_there (entry ∷ entries) zero within = refl
some_there (entry ∷ entries) (suc at) within = some_there entries at (omega arith)

pub is_there : (test : Entry → Bool) (entries : List Entry) (at : ℕ) → position test entries ≡ Some at
    → is_some (find test entries) ≡ true
is_there test entries at is =
    ap is_some (find_at test entries ∙ ap (slice_get entries) (place_is _ (position_or_len test entries) at is))
    ∙ some_there entries at (place_within test entries at is)

pub found_there : (test : Entry → Bool) (entries : List Entry) (at : ℕ) (entry : Entry) → position test entries ≡ Some at
    → at < length entries → entry ≡ slice_index_or entries at entry → find test entries ≡ Some entry
found_there test entries at entry is within there =
    find_at test entries ∙ ap (slice_get entries) (place_is _ (position_or_len test entries) at is)
    ∙ slice_get-get_or entries at entry within ∙ ap Some (sym there)

pub found_passes : (test : Entry → Bool) (entries : List Entry) (entry : Entry) → find test entries ≡ Some entry
    → test entry ≡ true
found_passes test [] entry is = absurd (none-some entry is)
found_passes test (first ∷ entries) entry is = by_test (test first) refl (found_passes test entries entry) is
  where
    by_test : (passes : Bool) → test first ≡ passes → (find test entries ≡ Some entry → test entry ≡ true)
        → cond passes (Some first) (find test entries) ≡ Some entry → test entry ≡ true
    by_test true passes later is = ap test (sym (same_Some first entry is)) ∙ passes
    by_test false passes later is = later is

-- more bytes of a file by its number
pub extended_there : (entries : List Entry) (number at : ℕ) (old new : Entry) (more : List ℕ)
    → position (λ (entry : Entry). entry.inode == number) entries ≡ Some at
    → old ≡ slice_index_or entries at old → new.inode ≡ old.inode → new.bytes.items ≡ old.bytes.items ++ more
    → bytes_of_number (slice_set entries at new) number ≡ bytes_of_number entries number ++ more
extended_there entries number at old new more is there same bytes =
    let test : Entry → Bool = λ (entry : Entry). entry.inode == number in
    let within : at < length entries = place_within test entries at is in
    let first : find test entries ≡ Some old = found_there test entries at old is within there in
    let passes : test new ≡ true = ap (λ (one : ℕ). one == number) same ∙ found_passes test entries old first in
    let set : find test (slice_set entries at new) ≡ Some new =
    find-set test entries at new (sym (place_is _ (position_or_len test entries) at is)) within passes in
    let bytes_of : Option Entry → List ℕ = λ found. option_map_or (λ (entry : Entry). entry.bytes.items) found [] in
    ap bytes_of set ∙ (bytes ∙ sym (ap (λ found. bytes_of found ++ more) first))
