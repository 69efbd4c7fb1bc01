-- The loaded bytes of a name, by the index that a search gives.
use Rattle.std.proofs.Common.{◌≡◌, ◌<◌, ◌≤◌, ℕ, zero, suc, Bool, List, [], ◌∷◌, length, get_or, position, Some, None, Ok, refl, sym, ap, ◌∙◌, arith}
use Rattle.std.specs.List.{find, position_or_len, slice_get}
use Rattle.std.proofs.lemmas.List.Folds.{find_at}
use Rattle.std.proofs.lemmas.Bool.Decides.{nat_tests}
use Rattle.pe_reader.specs.declared.section.Section.{Section}
use Rattle.pe_reader.specs.Prelude.{Headers, pe_of, is_named, section_at_index, no_section, loaded_bytes, loaded_by, loaded_in, loaded_of}

at_slice_get : (xs : List Section) (i : ℕ) → i < length xs → slice_get xs i ≡ Some (get_or xs i no_section)
at_slice_get [] i h = absurd (omega arith)
at_slice_get (x ∷ xs) zero h = refl
at_slice_get (x ∷ xs) (suc i) h = at_slice_get xs i (omega arith)

past_slice_get : (xs : List Section) (i : ℕ) → length xs ≤ i → slice_get xs i ≡ None
past_slice_get [] i h = refl
past_slice_get (x ∷ xs) zero h = absurd (omega arith)
past_slice_get (x ∷ xs) (suc i) h = past_slice_get xs i (omega arith)

position_is : (p : Section → Bool) (xs : List Section) (i : ℕ) → position p xs ≡ Some i → (i ≡ position_or_len p xs) × (i < length xs)
position_is p xs i e = (grind (arith, nat_tests), grind (arith, nat_tests))

pub find-position : (p : Section → Bool) (xs : List Section) (i : ℕ) → position p xs ≡ Some i → find p xs ≡ Some (section_at_index xs i)
find-position p xs i e =
    let h = position_is p xs i e in
    find_at p xs ∙ ap (slice_get xs) (sym h.0) ∙ at_slice_get xs i h.1

none_is : (p : Section → Bool) (xs : List Section) → position p xs ≡ None → length xs ≤ position_or_len p xs
none_is p xs e = grind (arith, nat_tests)

pub find-no_position : (p : Section → Bool) (xs : List Section) → position p xs ≡ None → find p xs ≡ None
find-no_position p xs e = find_at p xs ∙ past_slice_get xs (position_or_len p xs) (none_is p xs e)

-- the loaded bytes at the index that was found
pub loaded_bytes-found : (bytes name : List ℕ) (h : Headers) (i : ℕ) → pe_of bytes ≡ Ok h → position (is_named name) h.sections ≡ Some i
    → loaded_bytes bytes name ≡ loaded_by bytes (section_at_index h.sections i)
loaded_bytes-found bytes name h i e at =
    ap (loaded_in bytes name) e ∙ ap (loaded_of bytes) (find-position (is_named name) h.sections i at)

pub loaded_bytes-none : (bytes name : List ℕ) (h : Headers) → pe_of bytes ≡ Ok h → position (is_named name) h.sections ≡ None
    → loaded_bytes bytes name ≡ []
loaded_bytes-none bytes name h e at =
    ap (loaded_in bytes name) e ∙ ap (loaded_of bytes) (find-no_position (is_named name) h.sections at)
