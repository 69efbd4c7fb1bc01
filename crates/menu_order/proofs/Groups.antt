-- What is kept of one group: its first records, and its first good one.
use Rattle.std.proofs.Common.{◌≡◌, ℕ, zero, suc, ◌+◌, ◌≤◌, Bool, true, false, not, cond, ◌&&◌, ◌||◌, List, [], ◌∷◌, ◌++◌, find, take, drop, Option, Some, None, refl, sym, ap, ◌∙◌, arith, filter, nat_lt, if◌then◌else◌, option_to_list, le-ltb, lt-ltb}
use Rattle.std.specs.List.{list_any}
use Rattle.std.proofs.lemmas.List.Elements.{filter-append}
use Rattle.menu_order.specs.declared.item.MenuItem.{MenuItem}
use Rattle.menu_order.specs.Doomed.{group_of, group_size, has_good, is_good, is_in, is_kept_record, kept_behind, kept_records}
use Rattle.menu_order.specs.KeepLaws.{KeepsGroup}
use Rattle.menu_order.proofs.Counting.{good_push, or_false, same_is, size_push}

-- what is kept of a group's rest, behind so many of its records, among which a good one is or isn't
rest_kept : ℕ → ℕ → Bool → List MenuItem → List MenuItem
rest_kept n size good [] = []
rest_kept n size good (item ∷ later) =
    (if nat_lt size n || (is_good item && not good) then (item ∷ []) else [])
    ++ rest_kept n (size + 1) (good || is_good item) later

-- ---- behind the first n only the first good one is kept

good_alone : (item : MenuItem) (found : Option MenuItem) (good here : Bool)
    → (if (here && not good) then (item ∷ []) else []) ++ (if (good || here) then [] else option_to_list found)
    ≡ (if good then [] else option_to_list (cond here (Some item) found))
good_alone item found true true = refl
good_alone item found true false = refl
good_alone item found false true = refl
good_alone item found false false = refl

abbrev nothing : List MenuItem
nothing = []

abbrev no_record : Option MenuItem
no_record = None

none_left : (good : Bool) → nothing ≡ (if good then [] else option_to_list no_record)
none_left true = refl
none_left false = refl

beyond : (n size : ℕ) (good : Bool) (items : List MenuItem) → n ≤ size
    → rest_kept n size good items ≡ (if good then [] else option_to_list (find is_good items))
unfolding rest_kept
beyond n size good [] far = none_left good
beyond n size good (item ∷ later) far =
    ap (λ b. (if b || (is_good item && not good) then (item ∷ []) else []) ++ rest_kept n (size + 1) (good || is_good item) later) (le-ltb size n far)
    ∙ ap (λ (l : List MenuItem). (if (is_good item && not good) then (item ∷ []) else []) ++ l) (beyond n (size + 1) (good || is_good item) later (omega arith))
    ∙ good_alone item (find is_good later) good (is_good item)

-- ---- the first n are kept

first_or : (found : List MenuItem) (good here any : Bool)
    → (if ((good || here) || any) then [] else found) ≡ (if (good || (here || any)) then [] else found)
first_or found true here any = refl
first_or found false here any = refl

none_taken : (k : ℕ) (good : Bool)
    → [] ≡ take k [] ++ (if (good || list_any is_good (take k [])) then [] else option_to_list (find is_good (drop k [])))
none_taken zero true = refl
none_taken zero false = refl
none_taken (suc k) true = refl
none_taken (suc k) false = refl

from_start : (n size k : ℕ) (good : Bool) (items : List MenuItem) → n ≡ size + k
    → rest_kept n size good items
    ≡ take k items ++ (if (good || list_any is_good (take k items)) then [] else option_to_list (find is_good (drop k items)))
unfolding rest_kept
from_start n size k good [] is = none_taken k good
from_start n size zero good (item ∷ later) is =
    beyond n size good (item ∷ later) (omega arith)
    ∙ ap (λ b. if b then [] else option_to_list (find is_good (item ∷ later))) (sym (or_false good))
from_start n size (suc k) good (item ∷ later) is =
    ap (λ b. (if b || (is_good item && not good) then (item ∷ []) else []) ++ rest_kept n (size + 1) (good || is_good item) later) (lt-ltb size n (omega arith))
    ∙ ap (λ (l : List MenuItem). item ∷ l) (from_start n (size + 1) k (good || is_good item) later (omega arith))
    ∙ ap (λ (l : List MenuItem). item ∷ (take k later ++ l)) (first_or (option_to_list (find is_good (drop k later))) good (is_good item) (list_any is_good (take k later)))

-- ---- a group's records in the menu

module _ (n : ℕ) (per_key : Bool) (group : Option (List ℕ)) where
  abbrev of_group : List MenuItem → List MenuItem
  of_group items = filter (is_in per_key group) items

  -- one record of the menu, which is of the group or isn't, and is kept or isn't
  one_record : (item : MenuItem) (here keep : Bool) → is_in per_key group item ≡ here
      → of_group (if keep then (item ∷ []) else []) ≡ (if (here && keep) then (item ∷ []) else [])
  one_record item true true is = ap (λ b. cond b (item ∷ []) []) is
  one_record item true false is = refl
  one_record item false true is = ap (λ b. cond b (item ∷ []) []) is
  one_record item false false is = refl

  keep_is : (earlier : List MenuItem) (item : MenuItem) → is_in per_key group item ≡ true
      → is_kept_record n per_key earlier item ≡ (nat_lt (group_size per_key group earlier) n || (is_good item && not (has_good per_key group earlier)))
  keep_is earlier item here =
      ap (λ g. nat_lt (group_size per_key g earlier) n || (is_good item && not (has_good per_key g earlier)))
      (sym (same_is group (group_of per_key item) here))

  next : (earlier later : List MenuItem) (item : MenuItem) (here : Bool) → is_in per_key group item ≡ here
      → (if (here && is_kept_record n per_key earlier item) then (item ∷ []) else [])
      ++ rest_kept n (group_size per_key group (earlier ++ item ∷ [])) (has_good per_key group (earlier ++ item ∷ [])) (of_group later)
      ≡ rest_kept n (group_size per_key group earlier) (has_good per_key group earlier) (cond here (item ∷ of_group later) (of_group later))
  unfolding rest_kept
  next earlier later item true is =
      ap (λ b. (if b then (item ∷ []) else []) ++ rest_kept n (group_size per_key group (earlier ++ item ∷ []))
      (has_good per_key group (earlier ++ item ∷ [])) (of_group later)) (keep_is earlier item is)
      ∙ ap (λ size. (if nat_lt (group_size per_key group earlier) n || (is_good item && not (has_good per_key group earlier)) then
      (item ∷ []) else []) ++ rest_kept n size (has_good per_key group (earlier ++ item ∷ [])) (of_group later))
      (size_push per_key group earlier item ∙ ap (λ b. group_size per_key group earlier + cond b 1 0) is)
      ∙ ap (λ good. (if nat_lt (group_size per_key group earlier) n || (is_good item && not (has_good per_key group earlier)) then
      (item ∷ []) else []) ++ rest_kept n (group_size per_key group earlier + 1) good (of_group later))
      (good_push per_key group earlier item ∙ ap (λ b. has_good per_key group earlier || (b && is_good item)) is)
  next earlier later item false is =
      ap (λ size. rest_kept n size (has_good per_key group (earlier ++ item ∷ [])) (of_group later))
      (size_push per_key group earlier item ∙ ap (λ b. group_size per_key group earlier + cond b 1 0) is ∙ omega arith)
      ∙ ap (λ good. rest_kept n (group_size per_key group earlier) good (of_group later))
      (good_push per_key group earlier item ∙ ap (λ b. has_good per_key group earlier || (b && is_good item)) is ∙ or_false (has_good per_key group earlier))

  behind : (earlier later : List MenuItem)
      → of_group (kept_behind n per_key earlier later)
      ≡ rest_kept n (group_size per_key group earlier) (has_good per_key group earlier) (of_group later)
  unfolding rest_kept
  behind earlier [] = refl
  behind earlier (item ∷ later) =
      let keep : Bool = is_kept_record n per_key earlier item in
      filter-append (is_in per_key group) (if keep then (item ∷ []) else []) (kept_behind n per_key (earlier ++ item ∷ []) later)
      ∙ ap (λ (l : List MenuItem). l ++ of_group (kept_behind n per_key (earlier ++ item ∷ []) later)) (one_record item (is_in per_key group item) keep refl)
      ∙ ap (λ (l : List MenuItem). (if (is_in per_key group item && keep) then (item ∷ []) else []) ++ l) (behind (earlier ++ item ∷ []) later)
      ∙ next earlier later item (is_in per_key group item) refl

pub keeps_group : KeepsGroup
unfolding kept_records
keeps_group n per_key menu group =
    behind n per_key group [] menu ∙ from_start n 0 n false (filter (is_in per_key group) menu) (omega arith)
