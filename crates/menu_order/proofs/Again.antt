-- If some of the doomed records are gone, from the last upwards, the others are doomed still, and no more.
use Rattle.std.proofs.Common.{◌≡◌, ◌⊎◌, ℕ, zero, suc, ◌≤◌, Bool, true, false, not, cond, List, [], ◌∷◌, ◌++◌, take, drop, length, reverse, inl, inr, refl, sym, ap, ◌∙◌, subst, arith, append_assoc, drop_at, bytes_eq, filter, nat_le, if◌then◌else◌}
use Rattle.std.specs.List.{AllByRecursion, IsDistinct}
use Rattle.std.proofs.lemmas.Bool.{cases_Bool, leb-true, leb-false}
use Rattle.std.proofs.lemmas.List.{append-nil, length-map, length-reverse, map-append, reverse-append, take-map, take_all, take_at}
use Rattle.std.proofs.lemmas.List.Elements.{filter_agree, filter-append}
use Rattle.std.proofs.lemmas.Map.Keys.{IsDistinct-head, IsDistinct-tail}
use Rattle.menu_order.specs.Menu.{HaveOwnPaths}
use Rattle.menu_order.specs.declared.item.MenuItem.{MenuItem}
use Rattle.menu_order.specs.Doomed.{doomed_behind, doomed_records, is_kept_record, kept_behind}
use Rattle.menu_order.specs.KeepLaws.{KeepsOn, doomed_paths}
use Rattle.menu_order.proofs.Once.{rest_stays}
use Rattle.menu_order.proofs.Without.{IsApart, apart_doomed, goes, goes_back, kept_is, not_among, paths_of}

-- ---- a cut of a list

-- a menu's rest, cut so that so many are doomed behind the cut
record Cut (n : ℕ) (per_key : Bool) (earlier later : List MenuItem) (i : ℕ) : Type 0 where
  front : List MenuItem
  back : List MenuItem
  parts : later ≡ front ++ back
  many : length (doomed_behind n per_key (earlier ++ front) back) ≡ i

module _ (n : ℕ) (per_key : Bool) where
  doomed-append : (earlier xs ys : List MenuItem)
      → doomed_behind n per_key earlier (xs ++ ys) ≡ doomed_behind n per_key earlier xs ++ doomed_behind n per_key (earlier ++ xs) ys
  doomed-append earlier [] ys = ap (λ (l : List MenuItem). doomed_behind n per_key l ys) (sym (append-nil earlier))
  doomed-append earlier (x ∷ xs) ys =
      let here : List MenuItem = if is_kept_record n per_key earlier x then [] else (x ∷ []) in
      let rest : List MenuItem = doomed_behind n per_key (earlier ++ x ∷ []) xs in
      ap (λ (l : List MenuItem). here ++ l) (doomed-append (earlier ++ x ∷ []) xs ys)
      ∙ sym (append_assoc here rest (doomed_behind n per_key ((earlier ++ x ∷ []) ++ xs) ys))
      ∙ ap (λ (l : List MenuItem). (here ++ rest) ++ doomed_behind n per_key l ys) (append_assoc earlier (x ∷ []) xs)

  -- of one record at most one is doomed
  all_of : (keep : Bool) (item : MenuItem) (rest : List MenuItem) (i : ℕ) → length rest ≤ i → (i ≡ length rest → ⊥)
      → i ≤ length ((if keep then [] else (item ∷ [])) ++ rest) → length ((if keep then [] else (item ∷ [])) ++ rest) ≡ i
  all_of true item rest i low apart high = omega arith
  all_of false item rest i low apart high = omega arith

  cut : (earlier later : List MenuItem) (i : ℕ) → i ≤ length (doomed_behind n per_key earlier later) → Cut n per_key earlier later i
  cut earlier [] i few = record { front = []; back = []; parts = refl; many = omega arith }
  cut earlier (item ∷ later) i few =
      by (λ le. cut (earlier ++ item ∷ []) later i le) (cases_Bool (nat_le i (length (doomed_behind n per_key (earlier ++ item ∷ []) later))))
    where
      by : (i ≤ length (doomed_behind n per_key (earlier ++ item ∷ []) later) → Cut n per_key (earlier ++ item ∷ []) later i)
          → (nat_le i (length (doomed_behind n per_key (earlier ++ item ∷ []) later)) ≡ true) ⊎ (nat_le i (length (doomed_behind n per_key (earlier ++ item ∷ []) later)) ≡ false)
          → Cut n per_key earlier (item ∷ later) i
      by next (inl le) =
          let c = next (leb-true i _ le) in
          record {
            front = item ∷ c.front;
            back = c.back;
            parts = ap (λ (l : List MenuItem). item ∷ l) c.parts;
            many = ap (λ (l : List MenuItem). length (doomed_behind n per_key l c.back)) (sym (append_assoc earlier (item ∷ []) c.front)) ∙ c.many;
          }
      by next (inr gt) =
          let far = leb-false i _ gt in
          record {
            front = [];
            back = item ∷ later;
            parts = refl;
            many =
                ap (λ (l : List MenuItem). length (doomed_behind n per_key l (item ∷ later))) (append-nil earlier)
                ∙ all_of (is_kept_record n per_key earlier item) item (doomed_behind n per_key (earlier ++ item ∷ []) later) i (omega (arith, far)) (λ e. omega (arith, far, e)) few;
          }

-- ---- the records before the cut stay

AllByRecursion-right : {X : Type 0} (P : X → Type 0) (xs ys : List X) → AllByRecursion P (xs ++ ys) → AllByRecursion P ys
AllByRecursion-right P [] ys all = all
AllByRecursion-right P (x ∷ xs) ys all = AllByRecursion-right P xs ys all.1

passes : (paths : List (List ℕ)) (items : List MenuItem) → AllByRecursion (λ item. goes paths item ≡ true) items → filter (goes paths) items ≡ items
passes paths [] all = refl
passes paths (item ∷ items) all = ap (λ b. cond b (item ∷ filter (goes paths) items) (filter (goes paths) items)) all.0 ∙ ap (λ (l : List MenuItem). item ∷ l) (passes paths items all.1)

own_back : (front back : List MenuItem) → IsDistinct bytes_eq (paths_of (front ++ back)) → IsDistinct bytes_eq (paths_of back)
own_back [] back own = own
own_back (item ∷ front) back own = own_back front back (IsDistinct-tail bytes_eq item.path (paths_of (front ++ back)) own)

module _ (n : ℕ) (per_key : Bool) where
  front_goes : (earlier front back : List MenuItem) → IsDistinct bytes_eq (paths_of (front ++ back))
      → AllByRecursion (λ item. goes (paths_of (doomed_behind n per_key earlier back)) item ≡ true) front
  front_goes earlier [] back own = tt
  front_goes earlier (item ∷ front) back own =
      let apart : IsApart item.path back =
      AllByRecursion-right (λ other. bytes_eq item.path other ≡ false) (paths_of front) (paths_of back)
      (subst (AllByRecursion (λ other. bytes_eq item.path other ≡ false)) (map-append (λ (i : MenuItem). i.path) front back)
      (IsDistinct-head bytes_eq item.path (paths_of (front ++ back)) own)) in (
        ap not (not_among item.path (doomed_behind n per_key earlier back) (apart_doomed n per_key item.path earlier back apart)),
        front_goes earlier front back (IsDistinct-tail bytes_eq item.path (paths_of (front ++ back)) own),
      )

  -- without those behind the cut
  cut_menu : (front back : List MenuItem) → IsDistinct bytes_eq (paths_of (front ++ back))
      → filter (goes (paths_of (reverse (doomed_behind n per_key front back)))) (front ++ back) ≡ front ++ kept_behind n per_key front back
  cut_menu front back own =
      let doomed : List MenuItem = doomed_behind n per_key front back in
      filter_agree (goes (paths_of (reverse doomed))) (goes (paths_of doomed)) (goes_back doomed) (front ++ back)
      ∙ filter-append (goes (paths_of doomed)) front back
      ∙ ap (λ (l : List MenuItem). l ++ filter (goes (paths_of doomed)) back) (passes (paths_of doomed) front (front_goes front front back own))
      ∙ ap (λ (l : List MenuItem). front ++ l) (kept_is n per_key front back (own_back front back own))

drop_past : {X : Type 0} (i : ℕ) (xs : List X) → length xs ≤ i → drop i xs ≡ []
drop_past zero [] past = refl
drop_past zero (x ∷ xs) past = absurd (omega arith)
drop_past (suc i) [] past = refl
drop_past (suc i) (x ∷ xs) past = drop_past i xs (omega arith)

module _ (n : ℕ) (per_key : Bool) where
  at_cut : (front back : List MenuItem) (i : ℕ) → IsDistinct bytes_eq (paths_of (front ++ back)) → length (doomed_behind n per_key front back) ≡ i
      → doomed_records n per_key (filter (goes (take i (doomed_paths n per_key (front ++ back)))) (front ++ back)) ≡ drop i (doomed_records n per_key (front ++ back))
  unfolding doomed_records
  at_cut front back i own many =
      let before : List MenuItem = doomed_behind n per_key [] front in
      let behind : List MenuItem = doomed_behind n per_key front back in
      let whole : reverse (doomed_behind n per_key [] (front ++ back)) ≡ reverse behind ++ reverse before =
      ap reverse (doomed-append n per_key [] front back) ∙ reverse-append before behind in
      let long : length (reverse behind) ≡ i = length-reverse behind ∙ many in
      let first : take i (reverse (doomed_behind n per_key [] (front ++ back))) ≡ reverse behind =
      ap (take i) whole ∙ take_at (reverse behind) (reverse before) i long in
      ap (λ (ps : List (List ℕ)). reverse (doomed_behind n per_key [] (filter (goes ps) (front ++ back))))
      (take-map (λ (item : MenuItem). item.path) i (reverse (doomed_behind n per_key [] (front ++ back))) ∙ ap paths_of first)
      ∙ ap (λ (l : List MenuItem). reverse (doomed_behind n per_key [] l)) (cut_menu n per_key front back own)
      ∙ ap reverse (rest_stays n per_key front back)
      ∙ sym (ap (drop i) whole ∙ drop_at (reverse behind) (reverse before) i long)

  up_to : (menu : List MenuItem) (i : ℕ) → HaveOwnPaths menu → i ≤ length (doomed_behind n per_key [] menu)
      → doomed_records n per_key (filter (goes (take i (doomed_paths n per_key menu))) menu) ≡ drop i (doomed_records n per_key menu)
  up_to menu i own few =
      let c = cut n per_key [] menu i few in
      subst (λ (l : List MenuItem). doomed_records n per_key (filter (goes (take i (doomed_paths n per_key l))) l) ≡ drop i (doomed_records n per_key l)) (sym c.parts)
      (at_cut c.front c.back i (subst (λ (l : List MenuItem). IsDistinct bytes_eq (paths_of l)) c.parts own) c.many)

  beyond : (menu : List MenuItem) (i : ℕ) → HaveOwnPaths menu → length (doomed_behind n per_key [] menu) ≤ i
      → doomed_records n per_key (filter (goes (take i (doomed_paths n per_key menu))) menu) ≡ drop i (doomed_records n per_key menu)
  unfolding doomed_records
  beyond menu i own past =
      let all : ℕ = length (doomed_behind n per_key [] menu) in
      let long : length (doomed_records n per_key menu) ≡ all = length-reverse (doomed_behind n per_key [] menu) in
      let many : length (doomed_paths n per_key menu) ≡ all = length-map (doomed_records n per_key menu) (λ (item : MenuItem). item.path) ∙ long in
      ap (λ (ps : List (List ℕ)). doomed_records n per_key (filter (goes ps) menu))
      (take_all i (doomed_paths n per_key menu) (omega (arith, many, past)) ∙ sym (take_all all (doomed_paths n per_key menu) (omega (arith, many))))
      ∙ up_to menu all own (omega arith)
      ∙ drop_past all (doomed_records n per_key menu) (omega (arith, long))
      ∙ sym (drop_past i (doomed_records n per_key menu) (omega (arith, long, past)))

pub keeps_on : KeepsOn
keeps_on n per_key menu i own = elim (cases_Bool (nat_le i (length (doomed_behind n per_key [] menu)))) [
  | inl le ↦ up_to n per_key menu i own (leb-true i _ le)
  | inr gt ↦ let far = leb-false i (length (doomed_behind n per_key [] menu)) gt in beyond n per_key menu i own (omega (arith, far))
]
