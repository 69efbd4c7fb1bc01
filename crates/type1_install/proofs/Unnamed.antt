-- The payloads that no entry names, among the names of a folder.
use Rattle.std.proofs.Common.{◌≡◌, ℕ, Bool, true, false, not, ◌||◌, cond, List, [], ◌∷◌, ◌++◌, Option, Some, None, Result, Ok, Err, map, filter, refl, sym, ap, subst, ◌∙◌, append_assoc, bytes_eq, IsErr, IsErrAnd, option_to_list}
use Rattle.std.specs.List.{cons_option, filter_map, flat_map, list_any}
use Rattle.std.specs.Str.{is_utf8}
use Rattle.std.proofs.lemmas.List.Folds.{list_any-append}
use Rattle.std.proofs.lemmas.List.Elements.{filter_map-append}
use Rattle.boot_base.specs.Paths.{Path, path_below, under}
use Rattle.boot_texts.specs.EntryText.{is_payload_name}
use Rattle.menu_order.specs.declared.item.MenuItem.{MenuItem}
use Rattle.type1_install.specs.Payloads.{is_named_by, item_names, path_of_value, named_values, names_path}
use Rattle.boot_base.specs.declared.refusal.Refusal.{Refusal}
use Rattle.command_plans.specs.Prelude.{Says, ReadErrorFor}
use Rattle.command_plans.specs.declared.read_error.ReadError.{ReadError}
use Rattle.command_plans.specs.declared.read_error.ReadError.TheVariants as read_errors
use Rattle.type1_install.specs.Unnamed.{IsNoRefusal, paths_named_by, unnamed_among}

-- ---- what fails before the paths are found

-- what is meant is left open where nothing is refused
left_open : {Y : Type 0} (fault : ReadError) (meant : Result Y Refusal) → IsNoRefusal fault → ReadErrorFor fault meant
left_open read_errors.Memory meant none = tt
left_open read_errors.Disk meant none = tt
left_open (read_errors.Refused why) meant none = absurd none

pub fault_says : {X Y : Type 0} (view : X → Y) (fault : ReadError) (result : Result X ReadError) (meant : Result Y Refusal)
    → IsErr result → IsErrAnd result (λ e. e ≡ fault) → IsNoRefusal fault → Says view result meant
fault_says view fault (Ok x) meant failed is none = cc
fault_says view fault (Err e) meant failed is none =
    subst (λ (f : ReadError). ReadErrorFor f meant) (sym is) (left_open fault meant none)

-- ---- the paths that are named

pub not_named : (esp : Path) (value : List ℕ) → is_utf8 value ≡ false → None ≡ path_of_value esp value
not_named esp value is = rw is refl

pub named_is : (esp : Path) (value : List ℕ) → is_utf8 value ≡ true → path_of_value esp value ≡ path_below esp value
named_is esp value is = rw is refl

pub one_option : (o : Option Path) → option_to_list o ≡ cons_option o []
one_option None = refl
one_option (Some path) = refl

-- those of the kernel, the program and the initrds
pub item_paths : (esp : Path) (item : MenuItem) (start one two three : List Path)
    → one ≡ start ++ filter_map (path_of_value esp) (option_to_list item.linux)
    → two ≡ one ++ filter_map (path_of_value esp) (option_to_list item.efi)
    → three ≡ two ++ filter_map (path_of_value esp) item.initrds
    → three ≡ start ++ paths_named_by esp item
item_paths esp item start one two three is_one is_two is_three =
    let f = filter_map (path_of_value esp) in
    let linux = option_to_list item.linux in
    let efi = option_to_list item.efi in
    is_three
    ∙ ap (λ (l : List Path). l ++ f item.initrds) (is_two ∙ ap (λ (l : List Path). l ++ f efi) is_one)
    ∙ append_assoc (start ++ f linux) (f efi) (f item.initrds)
    ∙ append_assoc start (f linux) (f efi ++ f item.initrds)
    ∙ ap (λ (l : List Path). start ++ l)
    (ap (λ (l : List Path). f linux ++ l) (sym (filter_map-append (path_of_value esp) efi item.initrds)) ∙ sym (filter_map-append (path_of_value esp) linux (efi ++ item.initrds)))

-- ---- a path is among them just if an entry names it

module _ (esp path : Path) where
  abbrev is_it : Path → Bool
  is_it other = bytes_eq other path

  any_value : (values : List (List ℕ)) → list_any is_it (filter_map (path_of_value esp) values) ≡ list_any (names_path esp path) values
  any_value [] = refl
  any_value (value ∷ values) = by (path_of_value esp value) (any_value values)
    where
      by : (o : Option Path) → list_any is_it (filter_map (path_of_value esp) values) ≡ list_any (names_path esp path) values
          → list_any is_it (cons_option o (filter_map (path_of_value esp) values)) ≡ (is_named_by path o || list_any (names_path esp path) values)
      by None is = is
      by (Some named) is = ap (λ (b : Bool). bytes_eq named path || b) is

  pub any_item : (items : List MenuItem) → list_any is_it (flat_map (paths_named_by esp) items) ≡ list_any (item_names esp path) items
  any_item [] = refl
  any_item (item ∷ items) =
      list_any-append is_it (paths_named_by esp item) (flat_map (paths_named_by esp) items)
      ∙ ap (λ (b : Bool). b || list_any is_it (flat_map (paths_named_by esp) items)) (any_value (named_values item))
      ∙ ap (λ (b : Bool). list_any (names_path esp path) (named_values item) || b) (any_item items)

filter_same : (p q : Path → Bool) → ((x : Path) → p x ≡ q x) → (xs : List Path) → filter p xs ≡ filter q xs
filter_same p q same [] = refl
filter_same p q same (x ∷ xs) =
    ap (λ (b : Bool). cond b (x ∷ filter p xs) (filter p xs)) (same x) ∙ ap (λ (l : List Path). cond (q x) (x ∷ l) l) (filter_same p q same xs)

-- what is left of the payloads is what no entry names
pub left_over : (esp folder : Path) (items : List MenuItem) (names : List (List ℕ)) (named paths : List Path) → named ≡ flat_map (paths_named_by esp) items
    → paths ≡ map (under folder) (filter is_payload_name names)
    → filter (λ path. not (list_any (λ other. bytes_eq other path) named)) paths ≡ unnamed_among esp folder items names
left_over esp folder items names named paths named_is paths_are =
    ap (λ (l : List Path). filter (λ path. not (list_any (λ other. bytes_eq other path) l)) paths) named_is
    ∙ ap (filter (λ path. not (list_any (λ other. bytes_eq other path) (flat_map (paths_named_by esp) items)))) paths_are
    ∙ filter_same _ _ (λ path. ap not (any_item esp path items)) (map (under folder) (filter is_payload_name names))

-- ---- the payloads of a folder

abbrev pub payloads_in : Path → List (List ℕ) → List Path
payloads_in folder names = map (under folder) (filter is_payload_name names)
