-- Which records of a menu go if the newest are kept (profile).
use Rattle.std.specs.Prelude.{ℕ, Bool, true, false, not, ◌&&◌, ◌||◌, List, [], ◌∷◌, ◌++◌, length, nat_lt, reverse, bytes_eq, count_by, is_none, Option, Some, None, if◌then◌else◌}
use Rattle.std.specs.List.{list_any}
use Rattle.menu_order.specs.declared.item.MenuItem.{MenuItem}

-- a record without a boot counter is good
abbrev pub is_good : MenuItem → Bool
is_good item = is_none item.counter

-- what tells a record's group: its sort-key (UAPI Boot Loader Specification), or nothing if all records are one group
abbrev pub group_of : Bool → MenuItem → Option (List ℕ)
group_of true item = item.sort_key
group_of false item = None

-- two groups are one: their sort-keys are equal, or both are absent
abbrev pub same_group : Option (List ℕ) → Option (List ℕ) → Bool
same_group None None = true
same_group None (Some other) = false
same_group (Some key) None = false
same_group (Some key) (Some other) = bytes_eq key other

-- the record is of the group
abbrev pub is_in : Bool → Option (List ℕ) → MenuItem → Bool
is_in per_key group item = same_group group (group_of per_key item)

-- how many of the records are of the group
abbrev pub group_size : Bool → Option (List ℕ) → List MenuItem → ℕ
group_size per_key group items = count_by (is_in per_key group) items

-- a good one of the group is among the records
abbrev pub has_good : Bool → Option (List ℕ) → List MenuItem → Bool
has_good per_key group items = list_any (λ item. is_in per_key group item && is_good item) items

-- A record that stands behind these in its menu is kept: it is among the first n of its group, or it is the first good
-- one of it. That one is among the first n already, or none of those is good.
abbrev pub is_kept_record : ℕ → Bool → List MenuItem → MenuItem → Bool
is_kept_record n per_key earlier item =
    nat_lt (group_size per_key (group_of per_key item) earlier) n
    || (is_good item && not (has_good per_key (group_of per_key item) earlier))

-- the records that are kept of a menu's rest, behind the records before it
abbrev pub kept_behind : ℕ → Bool → List MenuItem → List MenuItem → List MenuItem
kept_behind n per_key earlier [] = []
kept_behind n per_key earlier (item ∷ later) =
    (if is_kept_record n per_key earlier item then (item ∷ []) else [])
    ++ kept_behind n per_key (earlier ++ item ∷ []) later

-- those that aren't
abbrev pub doomed_behind : ℕ → Bool → List MenuItem → List MenuItem → List MenuItem
doomed_behind n per_key earlier [] = []
doomed_behind n per_key earlier (item ∷ later) =
    (if is_kept_record n per_key earlier item then [] else (item ∷ []))
    ++ doomed_behind n per_key (earlier ++ item ∷ []) later

-- and their places in the menu
abbrev pub places_behind : ℕ → Bool → List MenuItem → List MenuItem → List ℕ
places_behind n per_key earlier [] = []
places_behind n per_key earlier (item ∷ later) =
    (if is_kept_record n per_key earlier item then [] else (length earlier ∷ []))
    ++ places_behind n per_key (earlier ++ item ∷ []) later

-- the records of a menu that are kept, in its order
unfoldable pub kept_records : ℕ → Bool → List MenuItem → List MenuItem
kept_records n per_key menu = kept_behind n per_key [] menu

-- the doomed records of a menu, from its last upwards
unfoldable pub doomed_records : ℕ → Bool → List MenuItem → List MenuItem
doomed_records n per_key menu = reverse (doomed_behind n per_key [] menu)

-- their places in the menu, the last first
unfoldable pub doomed_places : ℕ → Bool → List MenuItem → List ℕ
doomed_places n per_key menu = reverse (places_behind n per_key [] menu)
