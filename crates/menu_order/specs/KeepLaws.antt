-- The laws of keeping the newest, which hold of all lists of records.
use Rattle.std.specs.Prelude.{◌≡◌, ℕ, ◌+◌, ◌≤◌, ◌<◌, Bool, true, List, [], ◌++◌, length, min, slice_get, AllPairs, All, IsPermutation, Option, bytes_eq, drop, filter, find, if◌then◌else◌, map, not, take}
use Rattle.std.specs.List.{filter_map, list_any}
use Rattle.std.specs.Option.{option_to_list}
use Rattle.menu_order.specs.Menu.{HaveOwnPaths}
use Rattle.menu_order.specs.declared.item.MenuItem.{MenuItem}
use Rattle.menu_order.specs.Doomed.{doomed_places, doomed_records, group_size, has_good, is_good, is_in, kept_records}

-- kept and doomed are the menu
abbrev pub PartsMenu : Type 0
PartsMenu = (n : ℕ) (per_key : Bool) (menu : List MenuItem)
    → IsPermutation menu (kept_records n per_key menu ++ doomed_records n per_key menu)

-- the places are those of the doomed records
abbrev pub PlacesDoomed : Type 0
PlacesDoomed = (n : ℕ) (per_key : Bool) (menu : List MenuItem)
    → filter_map (slice_get menu) (doomed_places n per_key menu) ≡ doomed_records n per_key menu

-- the places fall, and each is below this bound
pub record Descends (bound : ℕ) (places : List ℕ) : Type 0 where
  pub within : All (λ place. place < bound) places
  pub down : AllPairs (λ one later. later < one) places

-- they fall, from one within the menu
abbrev pub PlacesDescend : Type 0
PlacesDescend = (n : ℕ) (per_key : Bool) (menu : List MenuItem)
    → Descends (length menu) (doomed_places n per_key menu)

-- the records of a group, in their order
abbrev pub group_records : Bool → Option (List ℕ) → List MenuItem → List MenuItem
group_records per_key group items = filter (is_in per_key group) items

-- the first n of some records, and if none of these is good, the first good one behind them
abbrev pub first_and_good : ℕ → List MenuItem → List MenuItem
first_and_good n items =
    take n items ++ (if list_any is_good (take n items) then [] else option_to_list (find is_good (drop n items)))

-- of each group these are kept, and no others
abbrev pub KeepsGroup : Type 0
KeepsGroup = (n : ℕ) (per_key : Bool) (menu : List MenuItem) (group : Option (List ℕ))
    → group_records per_key group (kept_records n per_key menu) ≡ first_and_good n (group_records per_key group menu)

-- so of each group at least n are kept, or all if it has fewer
abbrev pub KeepsFirst : Type 0
KeepsFirst = (n : ℕ) (per_key : Bool) (menu : List MenuItem) (group : Option (List ℕ))
    → min n (group_size per_key group menu) ≤ group_size per_key group (kept_records n per_key menu)

-- at most one more
abbrev pub KeepsFew : Type 0
KeepsFew = (n : ℕ) (per_key : Bool) (menu : List MenuItem) (group : Option (List ℕ))
    → group_size per_key group (kept_records n per_key menu) ≤ n + 1

-- a group that has a good record keeps one
abbrev pub KeepsGood : Type 0
KeepsGood = (n : ℕ) (per_key : Bool) (menu : List MenuItem) (group : Option (List ℕ))
    → has_good per_key group menu ≡ true → has_good per_key group (kept_records n per_key menu) ≡ true

-- of what is kept nothing is doomed
abbrev pub KeepsOnce : Type 0
KeepsOnce = (n : ℕ) (per_key : Bool) (menu : List MenuItem) → doomed_records n per_key (kept_records n per_key menu) ≡ []

-- the paths of the doomed records of a menu, from its last upwards
abbrev pub doomed_paths : ℕ → Bool → List MenuItem → List (List ℕ)
doomed_paths n per_key menu = map (λ item. item.path) (doomed_records n per_key menu)

-- if each record has a path of its own, what is kept is the menu without those at these paths
abbrev pub KeptWithout : Type 0
KeptWithout = (n : ℕ) (per_key : Bool) (menu : List MenuItem) → HaveOwnPaths menu
    → kept_records n per_key menu ≡ filter (λ item. not (list_any (bytes_eq item.path) (doomed_paths n per_key menu))) menu

-- if the first of the doomed records are gone, the others are doomed still, and no more: a removal that was stopped
-- goes on from there
abbrev pub KeepsOn : Type 0
KeepsOn = (n : ℕ) (per_key : Bool) (menu : List MenuItem) (i : ℕ) → HaveOwnPaths menu
    → doomed_records n per_key
    (filter (λ item. not (list_any (bytes_eq item.path) (take i (doomed_paths n per_key menu)))) menu)
    ≡ drop i (doomed_records n per_key menu)
