-- The entries of boot files: what is listed is what is an entry, and each once.
use Rattle.std.proofs.Common.{◌≡◌, ◌↔◌, ◌⊎◌, ℕ, ◌+◌, ◌*◌, ◌≤◌, Bool, true, false, T, ◌&&◌, List, [], ◌∷◌, ◌++◌, map, filter, length, Option, Some, None, is_some, is_lt, is_eq, Less, Equal, Greater, Ordering, Result, Ok, Err, refl, sym, ap, ap₂, ◌∙◌, subst, inl, inr, ⊎_elim, arith, AllPairs, Contains, bytes_eq, codes, nat_le, option_and_then, if◌then◌else◌}
use Rattle.std.specs.List.{IsDistinct, AllByRecursion, list_any}
use Rattle.std.specs.FinMap as map
use Rattle.std.specs.FinMap.Entries.{below_all}
use Rattle.std.proofs.lemmas.Bool.{cases_Bool, and_parts, and_from, cond-true, cond-false}
use Rattle.std.proofs.lemmas.Cmp.{nat_list_eq_equiv}
use Rattle.std.proofs.lemmas.List.{length-map}
use Rattle.std.proofs.lemmas.List.Elements.{Contains-append_left, Contains-append_right, Contains-append_cases}
use Rattle.std.proofs.lemmas.List.Sums.{length-filter}
use Rattle.std.proofs.lemmas.Map.Keys.{IsDistinct-head, IsDistinct-tail, IsDistinct-cons}
use Rattle.std.proofs.lemmas.Map.Made.{is_member-filter, length-from_same_keys}
use Rattle.std.proofs.lemmas.Map.Views.{Contains-from_any, list_any-from_Contains}
use Rattle.std.proofs.lemmas.Slice.Eq.{bytes_eq-Decides}
use Rattle.boot_base.specs.Paths.{Path, file_name_of, is_file_name, is_temp, path_of, under}
use Rattle.menu_order.proofs.Splitting.{one_suffix, suffix_cut}
use Rattle.menu_order.specs.Splits.{has_suffix, stem_of}
use Rattle.menu_order.specs.declared.counted.Suffix.{Suffix}
use Rattle.menu_order.specs.declared.counted.Suffix.TheVariants.{Conf, Efi}
use Rattle.boot_machine.proofs.Listing.{same_bytes}
use Rattle.boot_machine.proofs.Views.{get-view_shown, has-view}
use Rattle.boot_machine.specs.Prelude.{Files, has, path_cmp, is_same_path, view}
use Rattle.boot_texts.specs.BootEntries.{boots, type1_of}
use Rattle.menu_order.proofs.Menus.{menu_of_entries, one_menu}
use Rattle.menu_order.specs.Menu.{HaveOwnPaths, IsBefore, IsMenu}
use Rattle.menu_order.specs.declared.item.MenuItem.{MenuItem}
use Rattle.boot_texts.specs.OsRelease.{os_pairs, title_of}
use Rattle.pe_reader.specs.Prelude.{Headers, pe_of, loaded_in}
use Rattle.pe_reader.specs.declared.fault.FailedCheck.{FailedCheck}
use Rattle.boot_texts.specs.KeyValues.{Pair}
use Rattle.boot_entries.specs.Entries.{IsEntry, boot_menu, entries_of, entry_at, entry_count, entry_if, entry_in, entry_of, folder_of, own_path, stands_in, type_count}
use Rattle.boot_entries.specs.Laws.{EntriesMenu, ViewMenu, ViewCount}
use Rattle.boot_entries.specs.Records.{Unfit, value_if_ok, titled_item, type1_item, type2_item, uki_from, uki_of, unless_missing}
use Rattle.boot_entries.specs.Scanning.{AreEntryNames, entries_named, scan_limit}
use Rattle.boot_entries.specs.declared.fault.Missing.{Missing}
use Rattle.boot_entries.specs.declared.fault.Missing.TheVariants as missing
use Rattle.boot_entries.specs.declared.folders.Folders.{Folders}
use Rattle.boot_entries.proofs.Members.{chosen, chosen_from, distinct_keys, distinct_passing, mapped, mapped_from}
use Rattle.boot_entries.proofs.Places.{file_name_under, name_parts, own_is, own_some, path_shown, suffix_shown, under_same}

-- ---- the paths of the files

abbrev paths_of : Files → List Path
paths_of files = map.keys files

pub bytes_self : (path : Path) → bytes_eq path path ≡ true
bytes_self path = nat_list_eq_equiv.refl path

pub bytes_are : (a b : Path) → bytes_eq a b ≡ true → a ≡ b
bytes_are a b is = (bytes_eq-Decides a b).0 is

is_same : (r : Ordering) → T (is_lt r) → is_eq r ≡ false
is_same Less below = refl
is_same Equal below = absurd below
is_same Greater below = absurd below

first_T : (a b : Bool) → T (a && b) → T a × T b
first_T true true t = (tt, tt)
first_T true false t = absurd t
first_T false b t = absurd t

below_apart : (path : Path) (es : List (Path × List ℕ)) → T (below_all path_cmp path es) → AllByRecursion (λ other. is_same_path path other ≡ false) (map (λ e. e.0) es)
below_apart path [] below = tt
below_apart path (e ∷ es) below =
    let both = first_T (is_lt (path_cmp path e.0)) (below_all path_cmp path es) below in
    (is_same (path_cmp path e.0) both.0, below_apart path es both.1)

sorted_distinct : (es : List (Path × List ℕ)) → T (map.is_sorted path_cmp es) → IsDistinct is_same_path (map (λ e. e.0) es)
unfolding IsDistinct
sorted_distinct [] sorted = tt
sorted_distinct (e ∷ es) sorted =
    let both = first_T (below_all path_cmp e.0 es) (map.is_sorted path_cmp es) sorted in
    (below_apart e.0 es both.0, sorted_distinct es both.1)

same_is : is_same_path ≡ bytes_eq
same_is i a b = same_bytes a b i

pub distinct_paths : (files : Files) → IsDistinct bytes_eq (paths_of files)
distinct_paths files = subst (λ eq. IsDistinct eq (paths_of files)) same_is (sorted_distinct (map.entries files) (map.entries_sorted files))

pub member_is : (files : Files) (path : Path) → list_any (bytes_eq path) (paths_of files) ≡ has files path
member_is files path = ap (λ (eq : Path → Path → Bool). list_any (eq path) (paths_of files)) (sym same_is) ∙ sym (map.contains_key-keys files path)

pub path_there : (files : Files) (path : Path) → has files path ≡ true → Contains (paths_of files) path
path_there files path there = Contains-from_any bytes_are path (paths_of files) (member_is files path ∙ there)

-- ---- where the files of a type stand

module _ (folders : Folders) (suffix : Suffix) where
  stands_of : (name : List ℕ) → is_file_name name ≡ true → has_suffix suffix name ≡ true → stands_in folders suffix (under (folder_of folders suffix) name) ≡ true
  stands_of name is has =
      rw (file_name_under (folder_of folders suffix) name (name_parts name is).1)
      (and_from (is_file_name name && has_suffix suffix name) _ (and_from (is_file_name name) (has_suffix suffix name) is has) (bytes_self (under (folder_of folders suffix) name)))

  stands_parts : (path : Path) → stands_in folders suffix path ≡ true
      → (is_file_name (file_name_of path) ≡ true) × (has_suffix suffix (file_name_of path) ≡ true) × (path ≡ under (folder_of folders suffix) (file_name_of path))
  stands_parts path stands =
      let both = and_parts (is_file_name (file_name_of path) && has_suffix suffix (file_name_of path)) (bytes_eq path (under (folder_of folders suffix) (file_name_of path))) stands in
      let front = and_parts (is_file_name (file_name_of path)) (has_suffix suffix (file_name_of path)) both.0 in
      (front.0, front.1, bytes_are path (under (folder_of folders suffix) (file_name_of path)) both.1)

unlike : Conf ≡ Efi → ⊥
unlike e = cc

-- no name has both suffixes
pub one_type : (name : List ℕ) → has_suffix Efi name ≡ true → has_suffix Conf name ≡ false
one_type name efi = elim (cases_Bool (has_suffix Conf name)) [
  | inl conf ↦ absurd (unlike (sym (one_suffix name (stem_of Efi name) Efi Conf (suffix_cut Efi name efi) conf)))
  | inr other ↦ other
]

not_conf : (folders : Folders) (path : Path) → has_suffix Conf (file_name_of path) ≡ false → stands_in folders Conf path ≡ false
not_conf folders path none = rw none (no_right (is_file_name (file_name_of path)))
  where
    no_right : (a : Bool) → (a && false && bytes_eq path (under folders.entries (file_name_of path))) ≡ false
    no_right true = refl
    no_right false = refl

-- ---- what a file of a type is read as

some_if : {X : Type 0} (b : Bool) (x y : X) → (if b then Some x else None) ≡ Some y → x ≡ y
some_if true x y is = cc
some_if false x y is = cc

found_if : {X E : Type 0} (b : Bool) (r : Result X E) (y : X) → (if b then value_if_ok r else None) ≡ Some y → r ≡ Ok y
found_if true (Ok x) y is = cc
found_if true (Err e) y is = cc
found_if false r y is = cc

demand_met : (b : Bool) (missing : Missing) (rest : Result MenuItem Unfit) (item : MenuItem) → unless_missing b missing rest ≡ Ok item → rest ≡ Ok item
demand_met true missing rest item is = is
demand_met false missing rest item is = cc

ok_same : {X E : Type 0} (x y : X) → ◌≡◌ {A = Result X E} (Ok x) (Ok y) → x ≡ y
ok_same x y is = cc

titled_from : (path : Path) (pairs : List Pair) (item : MenuItem) → titled_item path pairs ≡ Ok item → item ≡ type2_item path pairs
unfolding titled_item
titled_from path pairs item is =
    sym (ok_same (type2_item path pairs) item (demand_met (is_some (title_of pairs)) missing.Title (Ok (type2_item path pairs)) item is))

pairs_from : (path : Path) (bytes : List ℕ) (read : Result Headers FailedCheck) (item : MenuItem) → uki_from path bytes read ≡ Ok item
    → (pairs : List Pair) × (item ≡ type2_item path pairs)
unfolding uki_from
pairs_from path bytes (Err check) item is = cc
pairs_from path bytes (Ok headers) item is =
    let pairs = os_pairs (loaded_in bytes (codes ".osrel") (Ok headers)) in
    (pairs, titled_from path pairs item (demand_met _ missing.Osrel _ item (demand_met _ missing.Linux _ item is)))

-- the entry of an image is made of the pairs of an os-release text
pub image_pairs : (path : Path) (bytes : List ℕ) (item : MenuItem) → entry_of Efi path bytes ≡ Some item
    → (pairs : List Pair) × (item ≡ type2_item path pairs)
image_pairs path bytes item is =
    pairs_from path bytes (pe_of bytes) item (found_if (nat_le (length bytes) 268435456) (uki_of path bytes) item is)

-- an entry has the path that its file was read at
valid_path : (suffix : Suffix) (path : Path) (bytes : List ℕ) (item : MenuItem) → entry_of suffix path bytes ≡ Some item → item.path ≡ path
valid_path Conf path bytes item is = ap (λ (i : MenuItem). i.path) (sym (some_if (nat_le (length bytes) 65536 && boots bytes) (type1_item path (type1_of bytes)) item is))
valid_path Efi path bytes item is = ap (λ (i : MenuItem). i.path) (image_pairs path bytes item is).1

none_some : {X : Type 0} (x : X) → None ≡ Some x → ⊥
none_some x e = cc

some_same : {X : Type 0} (x y : X) → Some x ≡ Some y → x ≡ y
some_same x y e = cc

module _ (files : Files) (folders : Folders) where
  -- what is read at a path of a type's folder is an entry
  pub built : (suffix : Suffix) (path : Path) (item : MenuItem) → stands_in folders suffix path ≡ true → entry_if suffix files path ≡ Some item → (item.path ≡ path) × IsEntry files folders item
  built suffix path item stands is = by (own_path path) refl is
    where
      parts : (is_file_name (file_name_of path) ≡ true) × (has_suffix suffix (file_name_of path) ≡ true) × (path ≡ under (folder_of folders suffix) (file_name_of path))
      parts = stands_parts folders suffix path stands

      made : (own : Path) (bytes : List ℕ) → path_of path ≡ Some path → own ≡ path → map.get files own ≡ Some bytes
          → entry_of suffix own bytes ≡ Some item → (item.path ≡ path) × IsEntry files folders item
      made own bytes read same_path there valid =
          let at_own : item.path ≡ own = valid_path suffix own bytes item valid in
          let at : item.path ≡ path = at_own ∙ same_path in (
            at,
            record {
              suffix = suffix;
              name = file_name_of path;
              bytes = bytes;
              is_name = parts.0;
              of_type = parts.1;
              stands = at ∙ parts.2;
              is_path = subst (λ (p : Path). path_of p ≡ Some p) (sym at) read;
              there = subst (λ (p : Path). map.get files p ≡ Some bytes) (sym at_own) there;
              valid = subst (λ (p : Path). entry_of suffix p bytes ≡ Some item) (sym at_own) valid;
            },
          )

      at_own : (own : Path) (o : Option (List ℕ)) → path_of path ≡ Some path → own ≡ path → map.get files own ≡ o
          → option_and_then (entry_of suffix own) o ≡ Some item → (item.path ≡ path) × IsEntry files folders item
      at_own own None read same_path there valid = absurd (none_some item valid)
      at_own own (Some bytes) read same_path there valid = made own bytes read same_path there valid

      by : (o : Option Path) → own_path path ≡ o → option_and_then (entry_at suffix files) o ≡ Some item → (item.path ≡ path) × IsEntry files folders item
      by None own got = absurd (none_some item got)
      by (Some own) is_own got = let same_path = own_is path own is_own in at_own own (map.get files own) same_path.0 same_path.1 refl got

  in_parts : (path : Path) (item : MenuItem) → entry_in files folders path ≡ Some item → (item.path ≡ path) × IsEntry files folders item
  in_parts path item is = elim (cases_Bool (stands_in folders Conf path)) [
    | inl text ↦ built Conf path item text (sym (cond-true (stands_in folders Conf path) _ _ text) ∙ is)
    | inr other ↦ elim (cases_Bool (stands_in folders Efi path)) [
      | inl image ↦ built Efi path item image (sym (cond-true (stands_in folders Efi path) _ _ image) ∙ sym (cond-false (stands_in folders Conf path) _ _ other) ∙ is)
      | inr none ↦ absurd (none_some item (sym (cond-false (stands_in folders Efi path) _ _ none) ∙ sym (cond-false (stands_in folders Conf path) _ _ other) ∙ is))
    ]
  ]

  -- an entry is what is read at its path
  pub read_at : (item : MenuItem) (e : IsEntry files folders item) → entry_if e.suffix files item.path ≡ Some item
  read_at item e =
      ap (option_and_then (entry_at e.suffix files)) (own_some item.path e.is_path)
      ∙ ap (option_and_then (entry_of e.suffix item.path)) e.there
      ∙ e.valid

  listed_at : (item : MenuItem) → IsEntry files folders item → entry_in files folders item.path ≡ Some item
  listed_at item e = by e.suffix (ap (stands_in folders e.suffix) e.stands ∙ stands_of folders e.suffix e.name e.is_name e.of_type) (read_at item e)
    where
      by : (suffix : Suffix) → stands_in folders suffix item.path ≡ true → entry_if suffix files item.path ≡ Some item → entry_in files folders item.path ≡ Some item
      by Conf stands read = cond-true (stands_in folders Conf item.path) _ _ stands ∙ read
      by Efi stands read =
          cond-false (stands_in folders Conf item.path) _ _ (not_conf folders item.path (one_type (file_name_of item.path) (stands_parts folders Efi item.path stands).1))
          ∙ cond-true (stands_in folders Efi item.path) _ _ stands
          ∙ read

  -- two entries of one path are one
  pub one_entry : (a b : MenuItem) → IsEntry files folders a → IsEntry files folders b → a.path ≡ b.path → a ≡ b
  one_entry a b is_a is_b same_path = some_same a b (sym (listed_at a is_a) ∙ ap (entry_in files folders) same_path ∙ listed_at b is_b)

  listed : (item : MenuItem) → Contains (entries_of files folders) item ↔ IsEntry files folders item
  unfolding entries_of
  listed item = (
    (λ c. let place = chosen_from (entry_in files folders) (paths_of files) item c in (in_parts place.0 item place.2).1),
    λ e. chosen (entry_in files folders) (paths_of files) item.path item (path_there files item.path (ap is_some e.there)) (listed_at item e),
  )

  pub own : HaveOwnPaths (entries_of files folders)
  unfolding entries_of
  own = distinct_keys bytes_eq (entry_in files folders) (λ (item : MenuItem). item.path) (λ path item is. (in_parts path item is).0) (paths_of files) (distinct_paths files)

  pub menu_is : IsMenu (IsEntry files folders) (boot_menu files folders)
  menu_is =
      let menu = menu_of_entries (entries_of files folders) own in
      record { entries = λ item. ((λ c. (listed item).0 ((menu.entries item).0 c)), λ e. (menu.entries item).1 ((listed item).1 e)); ordered = menu.ordered }

  -- a list with the entries, in order, is the menu
  pub menu_only : (menu : List MenuItem) → IsMenu (IsEntry files folders) menu → menu ≡ boot_menu files folders
  menu_only menu is =
      one_menu menu (boot_menu files folders)
      (λ item. ((λ c. (menu_is.entries item).1 ((is.entries item).0 c)), λ c. (is.entries item).1 ((menu_is.entries item).0 c)))
      is.ordered menu_is.ordered

  -- what was found by names of files, each path once
  pub found_menu : (items menu : List MenuItem) → ((item : MenuItem) → Contains items item ↔ IsEntry files folders item)
      → ((item : MenuItem) → Contains menu item → Contains items item)
      → ((item : MenuItem) → Contains items item → (other : MenuItem) × Contains menu other × (other.path ≡ item.path))
      → AllPairs IsBefore menu
      → IsMenu (IsEntry files folders) menu
  found_menu items menu are among all ordered = record {
    entries = λ item. (
      (λ c. (are item).0 (among item c)),
      λ e. let other = all item ((are item).1 e) in subst (Contains menu) (one_entry other.0 item ((are other.0).0 (among other.0 other.1)) e other.2) other.1,
    );
    ordered = ordered;
  }

-- ---- the temporary files don't bear on it

pub same_get : (files other : Files) (folders : Folders) (item : MenuItem) (e : IsEntry files folders item) → map.get other item.path ≡ map.get files item.path → IsEntry other folders item
same_get files other folders item e same_file = record {
  suffix = e.suffix;
  name = e.name;
  bytes = e.bytes;
  is_name = e.is_name;
  of_type = e.of_type;
  stands = e.stands;
  is_path = e.is_path;
  there = same_file ∙ e.there;
  valid = e.valid;
}

pub view_menu : ViewMenu
view_menu files folders = menu_only files folders (boot_menu (view files) folders) (record {
  entries = λ item.
      let shown = λ (path_is : path_of item.path ≡ Some item.path). get-view_shown files item.path (path_shown item.path path_is) in
      let menu = menu_is (view files) folders in (
        (λ c. let e = (menu.entries item).0 c in same_get (view files) files folders item e (sym (shown e.is_path))),
        λ e. (menu.entries item).1 (same_get files (view files) folders item e (shown e.is_path)),
      );
  ordered = (menu_is (view files) folders).ordered;
})

pub entries_menu : EntriesMenu
entries_menu files folders = menu_is files folders

-- ---- how many files there are

not_both : (b : Bool) → b ≡ true → b ≡ false → ⊥
not_both b yes_is no_is = cc

bool_same : (a b : Bool) → (a ≡ true → b ≡ true) → (b ≡ true → a ≡ true) → a ≡ b
bool_same true b to back = sym (to refl)
bool_same false true to back = back refl
bool_same false false to back = refl

IsDistinct-none : IsDistinct bytes_eq []
unfolding IsDistinct
IsDistinct-none = tt

module _ (folders : Folders) (suffix : Suffix) where
  abbrev pub standing_paths : Files → List Path
  standing_paths files = filter (stands_in folders suffix) (paths_of files)

  pub count_is : (files : Files) → type_count files folders suffix ≡ length (standing_paths files)
  unfolding type_count
  count_is files = sym (length-filter (stands_in folders suffix) (paths_of files))

  pub distinct_standing : (files : Files) → IsDistinct bytes_eq (standing_paths files)
  distinct_standing files = distinct_passing bytes_eq (stands_in folders suffix) (paths_of files) (distinct_paths files)

  pub member_standing : (files : Files) (path : Path) → list_any (bytes_eq path) (standing_paths files) ≡ (has files path && stands_in folders suffix path)
  member_standing files path =
      is_member-filter nat_list_eq_equiv (stands_in folders suffix) path (λ other is. ap (stands_in folders suffix) (bytes_are path other is)) (paths_of files)
      ∙ ap (λ (b : Bool). b && stands_in folders suffix path) (member_is files path)

  same_member : (files : Files) (path : Path) → (has (view files) path && stands_in folders suffix path) ≡ (has files path && stands_in folders suffix path)
  same_member files path = elim (cases_Bool (stands_in folders suffix path)) [
    | inl stands ↦
        let parts = stands_parts folders suffix path stands in
        ap (λ (b : Bool). b && stands_in folders suffix path) (has-view files path (ap is_temp parts.2 ∙ suffix_shown suffix (folder_of folders suffix) (file_name_of path) parts.1))
    | inr other ↦ rw other (no_right (has (view files) path) (has files path))
  ]
    where
      no_right : (a b : Bool) → (a && false) ≡ (b && false)
      no_right true true = refl
      no_right true false = refl
      no_right false true = refl
      no_right false false = refl

  view_type : (files : Files) → type_count (view files) folders suffix ≡ type_count files folders suffix
  view_type files =
      count_is (view files)
      ∙ length-from_same_keys nat_list_eq_equiv (standing_paths (view files)) (standing_paths files) (distinct_standing (view files)) (distinct_standing files)
      (λ path. member_standing (view files) path ∙ same_member files path ∙ sym (member_standing files path))
      ∙ sym (count_is files)

  -- the names of the files of a type are as many
  module _ (files : Files) (names : List (List ℕ)) (are : AreEntryNames files (folder_of folders suffix) suffix names) where
    abbrev paths_of_names : List Path
    paths_of_names = map (under (folder_of folders suffix)) names

    apart : (name : List ℕ) (others : List (List ℕ)) → AllByRecursion (λ other. bytes_eq name other ≡ false) others
        → AllByRecursion (λ other. bytes_eq (under (folder_of folders suffix) name) other ≡ false) (map (under (folder_of folders suffix)) others)
    apart name [] all = tt
    apart name (other ∷ others) all = (differ (cases_Bool (bytes_eq (under (folder_of folders suffix) name) (under (folder_of folders suffix) other))), apart name others all.1)
      where
        differ : (bytes_eq (under (folder_of folders suffix) name) (under (folder_of folders suffix) other) ≡ true) ⊎ (bytes_eq (under (folder_of folders suffix) name) (under (folder_of folders suffix) other) ≡ false)
            → bytes_eq (under (folder_of folders suffix) name) (under (folder_of folders suffix) other) ≡ false
        differ (inl is) = absurd (not_both (bytes_eq name other) (ap (bytes_eq name) (sym (under_same (folder_of folders suffix) name other (bytes_are _ _ is))) ∙ bytes_self name) all.0)
        differ (inr none) = none

    distinct_placed : (others : List (List ℕ)) → IsDistinct bytes_eq others → IsDistinct bytes_eq (map (under (folder_of folders suffix)) others)
    distinct_placed [] distinct = IsDistinct-none
    distinct_placed (name ∷ others) distinct =
        IsDistinct-cons bytes_eq (under (folder_of folders suffix) name) (map (under (folder_of folders suffix)) others)
        (apart name others (IsDistinct-head bytes_eq name others distinct))
        (distinct_placed others (IsDistinct-tail bytes_eq name others distinct))

    forth : (path : Path) → list_any (bytes_eq path) paths_of_names ≡ true → (has files path && stands_in folders suffix path) ≡ true
    forth path is =
        let name = mapped_from (under (folder_of folders suffix)) names path (Contains-from_any bytes_are path paths_of_names is) in
        let found_name = (are.each name.0).0 name.1 in
        subst (λ (p : Path). (has files p && stands_in folders suffix p) ≡ true) name.2
        (and_from (has files (under (folder_of folders suffix) name.0)) (stands_in folders suffix (under (folder_of folders suffix) name.0)) found_name.2 (stands_of folders suffix name.0 found_name.0 found_name.1))

    back : (path : Path) → (has files path && stands_in folders suffix path) ≡ true → list_any (bytes_eq path) paths_of_names ≡ true
    back path is =
        let both = and_parts (has files path) (stands_in folders suffix path) is in
        let parts = stands_parts folders suffix path both.1 in
        let there : has files (under (folder_of folders suffix) (file_name_of path)) ≡ true = ap (has files) (sym parts.2) ∙ both.0 in
        let named = (are.each (file_name_of path)).1 (parts.0, parts.1, there) in
        list_any-from_Contains nat_list_eq_equiv path paths_of_names (subst (Contains paths_of_names) (sym parts.2) (mapped (under (folder_of folders suffix)) names (file_name_of path) named))

    pub as_many : length names ≡ type_count files folders suffix
    as_many =
        sym (length-map names (under (folder_of folders suffix)))
        ∙ length-from_same_keys nat_list_eq_equiv paths_of_names (standing_paths files) (distinct_placed names are.distinct) (distinct_standing files)
        (λ path. bool_same (list_any (bytes_eq path) paths_of_names) (has files path && stands_in folders suffix path) (forth path) (back path) ∙ sym (member_standing files path))
        ∙ sym (count_is files)

pub view_count : ViewCount
view_count files folders = ap₂ (λ m n. m + n) (view_type folders Conf files) (view_type folders Efi files)

-- ---- what is found by the names of the files

module _ (files : Files) (folders : Folders) (texts images : List (List ℕ))
    (are_texts : AreEntryNames files folders.entries Conf texts)
    (are_images : AreEntryNames files folders.images Efi images)
  where
    abbrev items_found : List MenuItem
    items_found = entries_named Conf files folders.entries texts ++ entries_named Efi files folders.images images

    of_names : (suffix : Suffix) (names : List (List ℕ)) (item : MenuItem) → AreEntryNames files (folder_of folders suffix) suffix names
        → Contains (entries_named suffix files (folder_of folders suffix) names) item → IsEntry files folders item
    of_names suffix names item are c =
        let name = chosen_from (λ n. entry_if suffix files (under (folder_of folders suffix) n)) names item c in
        let found_name = (are.each name.0).0 name.1 in
        (built files folders suffix (under (folder_of folders suffix) name.0) item (stands_of folders suffix name.0 found_name.0 found_name.1) name.2).1

    by_name : (names : List (List ℕ)) (item : MenuItem) (e : IsEntry files folders item) → AreEntryNames files (folder_of folders e.suffix) e.suffix names
        → Contains (entries_named e.suffix files (folder_of folders e.suffix) names) item
    by_name names item e are =
        let there : has files (under (folder_of folders e.suffix) e.name) ≡ true = ap (has files) (sym e.stands) ∙ ap is_some e.there in
        chosen (λ n. entry_if e.suffix files (under (folder_of folders e.suffix) n)) names e.name item
        ((are.each e.name).1 (e.is_name, e.of_type, there))
        (subst (λ (p : Path). entry_if e.suffix files p ≡ Some item) e.stands (read_at files folders item e))

    among : (suffix : Suffix) (item : MenuItem) → ((names : List (List ℕ)) → AreEntryNames files (folder_of folders suffix) suffix names → Contains (entries_named suffix files (folder_of folders suffix) names) item) → Contains items_found item
    among Conf item c = Contains-append_left (entries_named Conf files folders.entries texts) (entries_named Efi files folders.images images) item (c texts are_texts)
    among Efi item c = Contains-append_right (entries_named Conf files folders.entries texts) (entries_named Efi files folders.images images) item (c images are_images)

    pub found_entries : (item : MenuItem) → Contains items_found item ↔ IsEntry files folders item
    found_entries item = (
      (λ c. ⊎_elim (of_names Conf texts item are_texts) (of_names Efi images item are_images) (Contains-append_cases (entries_named Conf files folders.entries texts) (entries_named Efi files folders.images images) item c)),
      λ e. among e.suffix item (λ names are. by_name names item e are),
    )

-- how many bytes are read of the files of both types
pub taken_of_both : (files : Files) (folders : Folders) (texts images : List (List ℕ)) → AreEntryNames files folders.entries Conf texts → AreEntryNames files folders.images Efi images
    → (start mid after : ℕ) → mid ≤ start + 65536 * length texts → after ≤ mid + 134999 * length images → after ≤ start + scan_limit files folders
taken_of_both files folders texts images are_texts are_images start mid after first second =
    omega (arith, as_many folders Conf files texts are_texts, as_many folders Efi files images are_images)

pub taken_of_texts : (files : Files) (folders : Folders) (texts : List (List ℕ)) → AreEntryNames files folders.entries Conf texts
    → (start mid : ℕ) → mid ≤ start + 65536 * length texts → mid ≤ start + scan_limit files folders
taken_of_texts files folders texts are_texts start mid first = omega (arith, as_many folders Conf files texts are_texts)

pub found_count : (files : Files) (folders : Folders) (texts images : List (List ℕ)) → AreEntryNames files folders.entries Conf texts → AreEntryNames files folders.images Efi images
    → entry_count files folders ≡ length texts + length images
found_count files folders texts images are_texts are_images = sym (ap₂ (λ m n. m + n) (as_many folders Conf files texts are_texts) (as_many folders Efi files images are_images))
