-- What `loader show` tells, and what a change leaves.
use Rattle.std.proofs.Common.{◌≡◌, ℕ, Bool, true, false, List, map, Option, Some, None, Result, Ok, Err, subst, sym, ap, ◌∙◌, refl, length, MatchOption, if◌then◌else◌, nat_lt, option_and_then, slice_get}
use Rattle.boot_base.specs.Limits.{text_limit}
use Rattle.boot_base.specs.Paths.{Path}
use Rattle.boot_base.specs.declared.refusal.Refusal.{Refusal}
use Rattle.boot_base.specs.declared.refusal.Refusal.TheVariants as refusals
use Rattle.boot_entries.specs.Entries.{boot_menu, entry_count}
use Rattle.boot_entries.specs.declared.folders.Folders.{Folders}
use Rattle.boot_machine.specs.Prelude.{Files}
use Rattle.command_plans.specs.Prelude.{◌>>=◌, printed_path, menu_at, Says}
use Rattle.command_plans.specs.declared.read_error.ReadError.{ReadError}
use Rattle.command_plans.proofs.WordErrors.{done_next}
use Rattle.loader_commands.specs.Laws.{ChangesOneKey, ShowsDefaultEntry}
use Rattle.loader_commands.specs.Places.{conf_bytes, conf_path, loader_paths, within_limit}
use Rattle.loader_commands.specs.Setting.{bad_value, conf_update, changed_text, value_in}
use Rattle.loader_commands.specs.Showing.{default_item, menu_shown, show_result, show_text, shown_or_empty}
use Rattle.loader_commands.specs.declared.places.LoaderPaths.{LoaderPaths}
use Rattle.boot_texts.specs.ConfChoice.{IsDefaultEntry, default_place}
use Rattle.boot_texts.specs.Conf.{IsConfValue, conf_default, conf_key_name, conf_of, conf_timeout, conf_value, may_be_value, other_conf_key}
use Rattle.boot_texts.specs.FileLines.{raw_lines, text_with_value}
use Rattle.boot_texts.specs.declared.conf_change.ConfKey.{ConfKey}
use Rattle.boot_texts.specs.declared.conf_change.ConfKey.TheVariants.{Default, Timeout}
use Rattle.boot_texts.proofs.ConfChanges.{conf_lines, conf_other, conf_set as value_set}
use Rattle.boot_texts.proofs.ConfChoices.{entry_at}
use Rattle.boot_texts.proofs.PatternDecisions.{default_decides}
use Rattle.menu_order.specs.Ids.{entry_id}
use Rattle.menu_order.specs.declared.item.MenuItem.{MenuItem}

-- what a step that is done went through
done_by : {A B : Type 0} (first : Result A Refusal) (next : A → Result B Refusal) (b : B) → (first >>= next) ≡ Ok b
    → (a : A) × (first ≡ Ok a) × (next a ≡ Ok b)
done_by (Ok a) next b is = (a, refl, is)
done_by (Err why) next b is = cc

ok_is : {A : Type 0} (a b : A) → ◌≡◌ {A = Result A Refusal} (Ok a) (Ok b) → a ≡ b
ok_is a b is = cc

err_ok : {A : Type 0} (why : Refusal) (a : A) → ◌≡◌ {A = Result A Refusal} (Err why) (Ok a) → ⊥
err_ok why a is = cc

-- what is done where a test passes
done_if : {A : Type 0} (test : Bool) (why : Refusal) (a b : A) → (if test then Err why else Ok a) ≡ Ok b → a ≡ b
done_if true why a b is = absurd (err_ok why b is)
done_if false why a b is = ok_is a b is

-- ---- the default entry

place_of : (menu : List MenuItem) (found : Option ℕ) (item : MenuItem) → option_and_then (slice_get menu) found ≡ Some item
    → (place : ℕ) × (found ≡ Some place) × (slice_get menu place ≡ Some item)
place_of menu None item is = cc
place_of menu (Some place) item is = (place, refl, is)

item_of : (timeout : Option (List ℕ)) (found : Option MenuItem) (text : List ℕ) → shown_or_empty timeout found ≡ Ok text
    → (item : MenuItem) × (found ≡ Some item) × (text ≡ show_text item timeout)
item_of timeout None text is = absurd (err_ok refusals.NoEntries text is)
item_of timeout (Some item) text is = (item, refl, sym (ok_is (show_text item timeout) text is))

chosen_at : (default : Option (List ℕ)) (ids : List (List ℕ)) (place : ℕ) → default_place default ids ≡ Some place → IsDefaultEntry default ids place
chosen_at default ids place is =
    subst (λ (found : Option ℕ). MatchOption found (length ids ≡ 0) (λ place. IsDefaultEntry default ids place)) is (entry_at default ids)

menu_is : (view : Files) (folders : Folders) (menu : List MenuItem) → menu_at view folders ≡ Ok menu → boot_menu view folders ≡ menu
menu_is view folders menu is = done_if (nat_lt 4096 (entry_count view folders)) (refusals.TooMany (entry_count view folders)) (boot_menu view folders) menu is

pub tells : (view : Files) (word text : List ℕ) → show_result view word ≡ Ok text → ShowsDefaultEntry view word text
tells view word text is =
    let paths = done_by (loader_paths word) (λ (paths : LoaderPaths). conf_bytes view paths.conf >>= λ bytes. menu_at view paths.folders >>= menu_shown bytes) text is in
    let bytes = done_by (conf_bytes view paths.0.conf) (λ (bytes : List ℕ). menu_at view paths.0.folders >>= menu_shown bytes) text paths.2 in
    let menu = done_by (menu_at view paths.0.folders) (menu_shown bytes.0) text bytes.2 in
    let whole = menu_is view paths.0.folders menu.0 menu.1 in
    let item = item_of (conf_timeout bytes.0) (default_item (conf_default bytes.0) menu.0) text menu.2 in
    let place = place_of menu.0 (default_place (conf_default bytes.0) (map entry_id menu.0)) item.0 item.1 in
    record {
      paths = paths.0;
      bytes = bytes.0;
      place = place.0;
      item = item.0;
      paths_are = paths.1;
      bytes_are = bytes.1;
      chosen = subst (λ (menu : List MenuItem). IsDefaultEntry (conf_default bytes.0) (map entry_id menu) place.0) (sym whole)
          (chosen_at (conf_default bytes.0) (map entry_id menu.0) place.0 place.1);
      item_is = subst (λ (menu : List MenuItem). slice_get menu place.0 ≡ Some item.0) (sym whole) place.2;
      text_is = item.2;
    }

-- what is told of a menu is told of the ESP
pub shown_by : {X : Type 0} (shows : X → List ℕ) (result : Result X ReadError) (view : Files) (word : List ℕ) (paths : LoaderPaths) (bytes : List ℕ) (menu : List MenuItem)
    → loader_paths word ≡ Ok paths → conf_bytes view paths.conf ≡ Ok bytes → menu_at view paths.folders ≡ Ok menu
    → Says shows result (menu_shown bytes menu) → Says shows result (show_result view word)
shown_by shows result view word paths bytes menu paths_are bytes_are menu_is says =
    let whole : show_result view word ≡ menu_shown bytes menu =
    done_next (loader_paths word) paths (λ (paths : LoaderPaths). conf_bytes view paths.conf >>= λ bytes. menu_at view paths.folders >>= menu_shown bytes) paths_are
    ∙ done_next (conf_bytes view paths.conf) bytes (λ (bytes : List ℕ). menu_at view paths.folders >>= menu_shown bytes) bytes_are
    ∙ done_next (menu_at view paths.folders) menu (menu_shown bytes) menu_is in
    subst (λ (meant : Result (List ℕ) Refusal). Says shows result meant) (sym whole) says

-- ---- a change

fits : (key : ConfKey) (value : List ℕ) → may_be_value key value ≡ true → IsConfValue key value
fits Default value is = (default_decides value).0 is
fits Timeout value is = is

value_fits : (key : ConfKey) (word value : List ℕ) → value_in key word ≡ Ok value → (word ≡ value) × IsConfValue key value
value_fits key word value is = by (may_be_value key word) refl is
  where
    by : (b : Bool) → may_be_value key word ≡ b → (if b then Ok word else Err (bad_value key word)) ≡ Ok value → (word ≡ value) × IsConfValue key value
    by true test is = let same = ok_is word value is in (same, subst (IsConfValue key) same (fits key word test))
    by false test is = absurd (err_ok (bad_value key word) value is)

text_is : (path : Path) (made text : List ℕ) → within_limit path made ≡ Ok text → made ≡ text
text_is path made text is = done_if (nat_lt text_limit (length made)) (refusals.TooLarge (printed_path path) (length made)) made text is

changed : (view : Files) (key : ConfKey) (value word : List ℕ) (path : Path) (text bytes : List ℕ) → IsConfValue key value → conf_path word ≡ Ok path
    → conf_bytes view path ≡ Ok bytes → text_with_value (conf_key_name key) value bytes ≡ text → ChangesOneKey view key value word path text
changed view key value word path text bytes fits path_is bytes_are made = record {
  bytes = bytes;
  path_is = path_is;
  bytes_are = bytes_are;
  lines = ap raw_lines (sym made) ∙ conf_lines key value bytes fits;
  set = ap (λ (text : List ℕ). conf_value key (conf_of text)) (sym made) ∙ value_set key value bytes fits;
  other = ap (λ (text : List ℕ). conf_value (other_conf_key key) (conf_of text)) (sym made) ∙ conf_other key value bytes fits;
}

pub changes : (view : Files) (key : ConfKey) (value word : List ℕ) (path : Path) (text : List ℕ) → conf_update view key value word ≡ Ok (path, text) → ChangesOneKey view key value word path text
changes view key value word path text is =
    let asked : Path × List ℕ = (path, text) in
    let checked = done_by (value_in key value) (λ (value : List ℕ). conf_path word >>= λ path. changed_text view key value path >>= λ text. Ok (path, text)) asked is in
    let fits = value_fits key value checked.0 checked.1 in
    let found = done_by (conf_path word) (λ (path : Path). changed_text view key checked.0 path >>= λ text. Ok (path, text)) asked checked.2 in
    let made = done_by (changed_text view key checked.0 found.0) (λ (text : List ℕ). Ok (found.0, text)) asked found.2 in
    let given : Path × List ℕ = (found.0, made.0) in
    let pair = ok_is given asked made.2 in
    let bytes = done_by (conf_bytes view found.0) (λ (bytes : List ℕ). within_limit found.0 (text_with_value (conf_key_name key) checked.0 bytes)) made.0 made.1 in
    let whole = text_is found.0 (text_with_value (conf_key_name key) checked.0 bytes.0) made.0 bytes.2 in
    subst (λ (change : Path × List ℕ). ChangesOneKey view key value word change.0 change.1) pair
    (subst (λ (value : List ℕ). ChangesOneKey view key value word found.0 made.0) (sym fits.0)
    (changed view key checked.0 word found.0 made.0 bytes.0 fits.1 found.1 bytes.1 whole))
