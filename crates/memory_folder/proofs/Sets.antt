-- What is among paths after one was added or struck out.
use Rattle.std.proofs.Common.{◌≡◌, inl, inr, ◌⊎◌, ℕ, Bool, true, false, not, List, [], ◌∷◌, ◌++◌, refl, sym, ◌∙◌, bytes_eq, filter, ◌||◌, if◌then◌else◌}
use Rattle.std.proofs.lemmas.Bool.{cases_Bool}
use Rattle.std.proofs.lemmas.List.Folds.{list_any-append}
use Rattle.std.proofs.lemmas.Slice.Eq.{bytes_eq-Decides}
use Rattle.name_syncs.specs.Paths.{has_path, paths_without, with_path}
use Rattle.memory_folder.specs.Paths.{AddsNone, AddsOnly}

pub unlike : false ≡ true → ⊥
unlike is = cc

either : (one other : Bool) → (one || other) ≡ true → (one ≡ true) ⊎ (other ≡ true)
either true other is = inl refl
either false other is = inr is

or_second : (one other : Bool) → other ≡ true → (one || other) ≡ true
or_second true other is = refl
or_second false other is = is

-- a filter adds none
filter_adds : (keeps : List ℕ → Bool) (paths : List (List ℕ)) → AddsNone paths (filter keeps paths)
filter_adds keeps [] other there = there
filter_adds keeps (known ∷ paths) other there = by_test (keeps known) there (filter_adds keeps paths other)
  where
    by_test : (kept : Bool) → has_path (if kept then known ∷ filter keeps paths else filter keeps paths) other ≡ true
        → (has_path (filter keeps paths) other ≡ true → has_path paths other ≡ true) → has_path (known ∷ paths) other ≡ true
    by_test true there adds = elim (either (bytes_eq known other) (has_path (filter keeps paths) other) there) [
      | inl same ↦ rw same refl
      | inr later ↦ or_second (bytes_eq known other) (has_path paths other) (adds later)
    ]
    by_test false there adds = or_second (bytes_eq known other) (has_path paths other) (adds there)

pub without_adds : (paths : List (List ℕ)) (path : List ℕ) → AddsNone paths (paths_without paths path)
without_adds paths path = filter_adds (λ known. not (bytes_eq known path)) paths

pub without_gone : (paths : List (List ℕ)) (path : List ℕ) → has_path (paths_without paths path) path ≡ false
without_gone [] path = refl
without_gone (known ∷ paths) path = by_test (bytes_eq known path) refl (without_gone paths path)
  where
    by_test : (same : Bool) → bytes_eq known path ≡ same → has_path (paths_without paths path) path ≡ false
        → has_path (if not same then known ∷ paths_without paths path else paths_without paths path) path ≡ false
    by_test true is gone = gone
    by_test false is gone = rw is gone

behind_adds : (paths : List (List ℕ)) (path : List ℕ) → AddsOnly path paths (paths ++ path ∷ [])
behind_adds paths path other there =
    elim (either (has_path paths other) (has_path (path ∷ []) other)
    (sym (list_any-append (λ known. bytes_eq known other) paths (path ∷ [])) ∙ there)) [
      | inl before ↦ inl before
      | inr new ↦ elim (either (bytes_eq path other) false new) [
        | inl same ↦ inr (sym ((bytes_eq-Decides path other).0 same))
        | inr none ↦ absurd (unlike none)
      ]
    ]

by_known : (known : Bool) (paths : List (List ℕ)) (path : List ℕ)
    → AddsOnly path paths (if known then paths else (paths ++ path ∷ []))
by_known true paths path other there = inl there
by_known false paths path other there = behind_adds paths path other there

-- a path that is added is the only new one
pub with_adds : (paths : List (List ℕ)) (path : List ℕ) (new : List (List ℕ)) → new ≡ with_path paths path
    → AddsOnly path paths new
with_adds paths path new is = rw is (by_known (has_path paths path) paths path)

-- what wasn't among them isn't
pub still_none : (old new : List (List ℕ)) → AddsNone old new → (other : List ℕ) → has_path old other ≡ false
    → has_path new other ≡ false
still_none old new adds other none = elim (cases_Bool (has_path new other)) [
  | inl there ↦ absurd (unlike (sym none ∙ adds other there))
  | inr gone ↦ gone
]
