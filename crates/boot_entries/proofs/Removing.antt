-- The menu when files go.
use Rattle.std.proofs.Common.{◌≡◌, ◌≤◌, Bool, true, false, not, cond, ◌||◌, List, [], ◌∷◌, length, Option, Some, None, is_some, refl, sym, ap, ◌∙◌, subst, arith, Contains, bytes_eq}
use Rattle.std.specs.List.{list_any}
use Rattle.std.specs.FinMap as maps
use Rattle.std.proofs.lemmas.Bool.{and_parts, and_from, cond-false, not-true}
use Rattle.std.proofs.lemmas.Cmp.{nat_list_eq_equiv}
use Rattle.std.proofs.lemmas.List.Kept.{AllPairs-filter}
use Rattle.std.proofs.lemmas.Map.Made.{length-le_from_is_member}
use Rattle.boot_base.specs.Paths.{Path}
use Rattle.boot_machine.proofs.Listing.{same_bytes}
use Rattle.boot_machine.specs.Prelude.{Files, has}
use Rattle.boot_machine.specs.proofs.Maps.{get-remove}
use Rattle.menu_order.proofs.Menus.{menu_of-IsPermutation}
use Rattle.menu_order.specs.Menu.{IsBefore}
use Rattle.menu_order.specs.declared.counted.Suffix.{Suffix}
use Rattle.menu_order.specs.declared.counted.Suffix.TheVariants.{Conf, Efi}
use Rattle.menu_order.specs.declared.item.MenuItem.{MenuItem}
use Rattle.boot_entries.specs.Entries.{IsEntry, boot_menu, entries_of, stands_in, type_count}
use Rattle.boot_entries.specs.Laws.{OwnPaths, RemovalCount, RemovalMenu}
use Rattle.boot_entries.specs.Removals.{is_among, menu_without, remove_files}
use Rattle.boot_entries.specs.declared.folders.Folders.{Folders}
use Rattle.boot_entries.proofs.EntryFiles.{count_is, distinct_standing, member_standing, menu_is, menu_only, own, same_get, standing_paths}
use Rattle.boot_entries.proofs.Members.{passing, passing_from}
use Rattle.boot_entries.proofs.OncePaths.{own_moved}

-- what is at a path once these files are gone
gone_or : {X : Type 0} (a b : Bool) (file : Option X) → cond a None (cond b None file) ≡ cond (b || a) None file
gone_or true true file = refl
gone_or true false file = refl
gone_or false true file = refl
gone_or false false file = refl

pub get-remove_files : (files : Files) (paths : List Path) (q : Path) → maps.get (remove_files files paths) q ≡ cond (list_any (bytes_eq q) paths) None (maps.get files q)
get-remove_files files [] q = refl
get-remove_files files (path ∷ paths) q =
    get-remove_files (maps.remove files path) paths q
    ∙ ap (cond (list_any (bytes_eq q) paths) None) (get-remove files path q ∙ ap (λ b. cond b None (maps.get files q)) (same_bytes q path))
    ∙ gone_or (list_any (bytes_eq q) paths) (bytes_eq q path) (maps.get files q)

-- a file that is still there isn't among those that went
still_there : {X : Type 0} (gone : Bool) (file : Option X) (x : X) → cond gone None file ≡ Some x → gone ≡ false
still_there true file x is = cc
still_there false file x is = refl

not_gone : (gone : Bool) → gone ≡ false → not gone ≡ true
not_gone gone is = ap not is

module _ (files : Files) (folders : Folders) (paths : List Path) where
  abbrev menu : List MenuItem
  menu = boot_menu files folders

  abbrev stays : MenuItem → Bool
  stays item = not (is_among paths item)

  same_file : (item : MenuItem) → is_among paths item ≡ false → maps.get (remove_files files paths) item.path ≡ maps.get files item.path
  same_file item apart = get-remove_files files paths item.path ∙ cond-false (list_any (bytes_eq item.path) paths) None (maps.get files item.path) apart

  to_entry : (item : MenuItem) → Contains (menu_without paths menu) item → IsEntry (remove_files files paths) folders item
  to_entry item c =
      let passed = passing_from stays menu item c in
      let e = ((menu_is files folders).entries item).0 passed.0 in
      same_get files (remove_files files paths) folders item e (same_file item (not-true (is_among paths item) passed.1))

  from_entry : (item : MenuItem) → IsEntry (remove_files files paths) folders item → Contains (menu_without paths menu) item
  from_entry item e =
      let apart : is_among paths item ≡ false = still_there (list_any (bytes_eq item.path) paths) (maps.get files item.path) e.bytes (sym (get-remove_files files paths item.path) ∙ e.there) in
      let was : IsEntry files folders item = same_get (remove_files files paths) files folders item e (sym (same_file item apart)) in
      passing stays menu item (((menu_is files folders).entries item).1 was) (not_gone (is_among paths item) apart)

  removed : boot_menu (remove_files files paths) folders ≡ menu_without paths menu
  removed = sym (menu_only (remove_files files paths) folders (menu_without paths menu) (record {
    entries = λ item. (to_entry item, from_entry item);
    ordered = AllPairs-filter IsBefore stays menu (menu_is files folders).ordered;
  }))

pub menu_removed : RemovalMenu
menu_removed files folders paths = removed files folders paths

pub menu_own : OwnPaths
menu_own files folders = own_moved (entries_of files folders) (boot_menu files folders) (menu_of-IsPermutation (entries_of files folders)) (own files folders)

-- ---- how many files there are

has_still : {X : Type 0} (gone : Bool) (file : Option X) → is_some (cond gone None file) ≡ true → is_some file ≡ true
has_still true file is = cc
has_still false file is = is

module _ (files : Files) (folders : Folders) (paths : List Path) (suffix : Suffix) where
  fewer_type : type_count (remove_files files paths) folders suffix ≤ type_count files folders suffix
  fewer_type =
      subst (λ n. n ≤ type_count files folders suffix) (sym (count_is folders suffix (remove_files files paths)))
      (subst (λ n. length (standing_paths folders suffix (remove_files files paths)) ≤ n) (sym (count_is folders suffix files))
      (length-le_from_is_member nat_list_eq_equiv (standing_paths folders suffix (remove_files files paths)) (standing_paths folders suffix files)
      (distinct_standing folders suffix (remove_files files paths))
      (λ q is.
      let both = and_parts (has (remove_files files paths) q) (stands_in folders suffix q) (sym (member_standing folders suffix (remove_files files paths) q) ∙ is) in
      member_standing folders suffix files q
      ∙ and_from (has files q) (stands_in folders suffix q)
      (has_still (list_any (bytes_eq q) paths) (maps.get files q) (ap is_some (sym (get-remove_files files paths q)) ∙ both.0)) both.1)))

pub count_removed : RemovalCount
count_removed files folders paths = omega (arith, fewer_type files folders paths Conf, fewer_type files folders paths Efi)
