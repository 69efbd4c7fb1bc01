-- What stands at a path whose entries have gone.
use Rattle.std.proofs.Common.{◌≡◌, ◌≢◌, ℕ, Bool, true, false, not, List, [], ◌∷◌, refl, bytes_eq, filter, None, if◌then◌else◌, option_map, ap}
use Rattle.memory_folder.specs.Entries.{first_entry_at, found_at, found_of_entry}
use Rattle.memory_folder.specs.declared.entry.Entry.{Entry}

none_first : (entries : List Entry) (path : List ℕ)
    → first_entry_at (filter (λ entry. not (bytes_eq entry.path path)) entries) path ≡ None
none_first [] path = refl
none_first (entry ∷ entries) path = by_test (bytes_eq entry.path path) refl (none_first entries path)
  where
    by_test : (same : Bool) → bytes_eq entry.path path ≡ same
        → first_entry_at (filter (λ entry. not (bytes_eq entry.path path)) entries) path ≡ None
        → first_entry_at (if not same then entry ∷ filter (λ entry. not (bytes_eq entry.path path)) entries
        else filter (λ entry. not (bytes_eq entry.path path)) entries) path ≡ None
    by_test true is gone = gone
    by_test false is gone = rw is gone

-- the empty path is that of the start, which has no entry
pub gone_there : (entries : List Entry) (path : List ℕ) → path ≢ []
    → found_at (filter (λ entry. not (bytes_eq entry.path path)) entries) path ≡ None
gone_there entries [] named = absurd (named refl)
gone_there entries (byte ∷ path) named = ap (option_map found_of_entry) (none_first entries (byte ∷ path))
