-- What is kept is the menu without the paths of what is doomed.
use Rattle.std.proofs.Common.{◌≡◌, ℕ, Bool, true, false, not, cond, ◌||◌, List, [], ◌∷◌, ◌++◌, map, reverse, refl, sym, ap, ◌∙◌, bytes_eq, filter, if◌then◌else◌}
use Rattle.std.specs.List.{AllByRecursion, IsDistinct, list_any}
use Rattle.std.proofs.lemmas.Bool.{cond-true, cond-false}
use Rattle.std.proofs.lemmas.Cmp.{nat_list_eq_equiv}
use Rattle.std.proofs.lemmas.List.Elements.{filter_agree}
use Rattle.std.proofs.lemmas.List.Sorted.{IsPermutation-map, IsPermutation-reverse, list_any-IsPermutation}
use Rattle.std.proofs.lemmas.Map.Keys.{IsDistinct-head, IsDistinct-tail}
use Rattle.menu_order.specs.declared.item.MenuItem.{MenuItem}
use Rattle.menu_order.specs.Doomed.{doomed_behind, doomed_records, is_kept_record, kept_behind, kept_records}
use Rattle.menu_order.specs.KeepLaws.{KeptWithout}

abbrev pub paths_of : List MenuItem → List (List ℕ)
paths_of items = map (λ (item : MenuItem). item.path) items

-- no other of these records has the path
abbrev pub IsApart : List ℕ → List MenuItem → Type 0
IsApart path items = AllByRecursion (λ other. bytes_eq path other ≡ false) (paths_of items)

abbrev pub goes : List (List ℕ) → MenuItem → Bool
goes paths item = not (list_any (bytes_eq item.path) paths)

pub not_among : (path : List ℕ) (items : List MenuItem) → IsApart path items → list_any (bytes_eq path) (paths_of items) ≡ false
not_among path [] apart = refl
not_among path (item ∷ items) apart = ap (λ b. b || list_any (bytes_eq path) (paths_of items)) apart.0 ∙ not_among path items apart.1

-- two tests that agree on the elements of a list
filter_within : {X : Type 0} (p q : X → Bool) (xs : List X) → AllByRecursion (λ x. p x ≡ q x) xs → filter p xs ≡ filter q xs
filter_within p q [] all = refl
filter_within p q (x ∷ xs) all =
    ap (λ b. cond b (x ∷ filter p xs) (filter p xs)) all.0
    ∙ ap (λ l. cond (q x) (x ∷ l) l) (filter_within p q xs all.1)

module _ (n : ℕ) (per_key : Bool) where
  pub apart_doomed : (path : List ℕ) (earlier later : List MenuItem) → IsApart path later → IsApart path (doomed_behind n per_key earlier later)
  apart_doomed path earlier [] apart = tt
  apart_doomed path earlier (item ∷ later) apart =
      by (apart_doomed path (earlier ++ item ∷ []) later apart.1) (is_kept_record n per_key earlier item)
    where
      by : IsApart path (doomed_behind n per_key (earlier ++ item ∷ []) later) → (keep : Bool)
          → IsApart path ((if keep then [] else (item ∷ [])) ++ doomed_behind n per_key (earlier ++ item ∷ []) later)
      by rest true = rest
      by rest false = (apart.0, rest)

  -- a path that no record of the rest has takes none of it
  no_more : (path : List ℕ) (gone : List (List ℕ)) (items : List MenuItem) → IsApart path items
      → AllByRecursion (λ item. goes (path ∷ gone) item ≡ goes gone item) items
  no_more path gone [] apart = tt
  no_more path gone (item ∷ items) apart = (
    ap (λ b. not (b || list_any (bytes_eq item.path) gone)) (nat_list_eq_equiv.symm item.path path ∙ apart.0),
    no_more path gone items apart.1,
  )

  pub kept_is : (earlier later : List MenuItem) → IsDistinct bytes_eq (paths_of later)
      → filter (goes (paths_of (doomed_behind n per_key earlier later))) later ≡ kept_behind n per_key earlier later
  kept_is earlier [] own = refl
  kept_is earlier (item ∷ later) own =
      by (kept_is (earlier ++ item ∷ []) later (IsDistinct-tail bytes_eq item.path (paths_of later) own)) (is_kept_record n per_key earlier item)
    where
      doomed : List MenuItem
      doomed = doomed_behind n per_key (earlier ++ item ∷ []) later

      apart : IsApart item.path later
      apart = IsDistinct-head bytes_eq item.path (paths_of later) own

      by : filter (goes (paths_of doomed)) later ≡ kept_behind n per_key (earlier ++ item ∷ []) later
          → (keep : Bool) → filter (goes (paths_of ((if keep then [] else (item ∷ [])) ++ doomed))) (item ∷ later)
          ≡ (if keep then (item ∷ []) else []) ++ kept_behind n per_key (earlier ++ item ∷ []) later
      by rest true =
          cond-true (goes (paths_of doomed) item) _ _ (ap not (not_among item.path doomed (apart_doomed item.path (earlier ++ item ∷ []) later apart)))
          ∙ ap (λ (l : List MenuItem). item ∷ l) rest
      by rest false =
          cond-false (goes (paths_of (item ∷ doomed)) item) _ _ (ap (λ b. not (b || list_any (bytes_eq item.path) (paths_of doomed))) (nat_list_eq_equiv.refl item.path))
          ∙ filter_within (goes (paths_of (item ∷ doomed))) (goes (paths_of doomed)) later (no_more item.path (paths_of doomed) later apart)
          ∙ rest

-- whichever way the doomed are listed
pub goes_back : (doomed : List MenuItem) (item : MenuItem) → goes (paths_of (reverse doomed)) item ≡ goes (paths_of doomed) item
goes_back doomed item =
    ap not (sym (list_any-IsPermutation (bytes_eq item.path) (paths_of doomed) (paths_of (reverse doomed))
    (IsPermutation-map (λ (other : MenuItem). other.path) doomed (reverse doomed) (IsPermutation-reverse doomed))))

pub kept_without : KeptWithout
unfolding kept_records doomed_records
kept_without n per_key menu own =
    let doomed = doomed_behind n per_key [] menu in
    sym (filter_agree (goes (paths_of (reverse doomed))) (goes (paths_of doomed)) (goes_back doomed) menu
    ∙ kept_is n per_key [] menu own)
