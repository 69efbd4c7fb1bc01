-- An installation keeps the payloads of entries, after each of its commands.
use Rattle.std.proofs.Common.{◌≡◌, ◌≢◌, ℕ, suc, Bool, true, false, eqb, List, [], ◌∷◌, Option, Some, None, Ok, Err, length, refl, sym, ap, ◌∙◌, arith, append_assoc, All, bytes_eq, codes, if◌then◌else◌, nat_lt}
use Rattle.std.specs.FinMap as map_of
use Rattle.std.specs.List.{list_any}
use Rattle.std.proofs.lemmas.Bool.{cond-false, cond-true, ne_eqb}
use Rattle.std.proofs.lemmas.List.Elements.{All-cons, All-nil}
use Rattle.std.proofs.lemmas.Slice.Eq.{bytes_eq-Decides}
use Rattle.boot_base.specs.Limits.{file_limit}
use Rattle.std.specs.Str.{is_utf8}
use Rattle.boot_base.specs.Layout.{entries_below}
use Rattle.boot_base.specs.Paths.{Path, components, file_name_of, is_kept, is_path, is_slash, normal_of, path_below, path_of, under}
use Rattle.boot_base.specs.declared.refusal.Refusal.TheVariants as refusals
use Rattle.boot_base.proofs.Normal.{path-some}
use Rattle.boot_machine.specs.Prelude.{Files, contents}
use Rattle.boot_entries.proofs.Places.{file_name_under}
use Rattle.command_plans.specs.Prelude.{path_under, printed_path, bytes_at, each, readable_bytes}
use Rattle.command_plans.proofs.ReadPaths.{read_if, read_of}
use Rattle.boot_base.proofs.Beside.{file_name_whole, normal_more}
use Rattle.command_plans.proofs.Steps.{done_by, err_ok, ok_is}
use Rattle.boot_texts.specs.EntryText.{is_payload_name, payload_value}
use Rattle.type1_install.specs.Installing.{install_source}
use Rattle.type1_install.specs.Payloads.{folders_at, path_of_value, payload_folder, payload_name, payload_path}
use Rattle.type1_install.proofs.PayloadNames.{payload_name_fits}
use Rattle.type1_install.proofs.PayloadsKept.{payload_slash}

-- ---- paths below an ESP

-- a path that is its own normal form
pub record IsNormal (path : Path) : Type 0 where
  pub same : normal_of path ≡ path
  pub some : eqb (length path) 0 ≡ false

pub child_normal : (folder name : Path) → IsNormal folder → is_kept name ≡ true → list_any is_slash name ≡ false → normal_of (under folder name) ≡ under folder name
child_normal folder name normal kept one =
    let some : eqb (length (normal_of folder)) 0 ≡ false = ap (λ (p : Path). eqb (length p) 0) normal.same ∙ normal.some in
    normal_more folder name kept one ∙ cond-false (eqb (length (normal_of folder)) 0) name (under (normal_of folder) name) some
    ∙ ap (λ (p : Path). under p name) normal.same

under_some : (folder name : Path) → eqb (length (under folder name)) 0 ≡ false
under_some [] name = ne_eqb (suc (length name)) 0 (λ e. absurd (omega (arith, e)))
under_some (x ∷ folder) name = ne_eqb (suc (length (under folder name))) 0 (λ e. absurd (omega (arith, e)))

pub under_normal : (folder name : Path) → IsNormal folder → is_kept name ≡ true → list_any is_slash name ≡ false → IsNormal (under folder name)
under_normal folder name normal kept one = record { same = child_normal folder name normal kept one; some = under_some folder name }

-- what was read below a folder
pub under_is : (folder : Path) (below path : Path) → path_under folder below ≡ Ok path → normal_of (under folder below) ≡ path
under_is folder below path is =
    let text = under folder below in
    let read = read_of text (path_below folder below) path is in
    (path-some (is_path text) (normal_of text) path (read_if (list_any is_kept (components below)) (path_of text) path read)).1

-- the path of an entry
pub entry_is : (esp name path : Path) → IsNormal esp → is_kept name ≡ true → list_any is_slash name ≡ false
    → path_under esp (under entries_below name) ≡ Ok path → path ≡ under (folders_at esp).entries name
entry_is esp name path normal kept one is =
    let entries = under_normal (under esp (codes "loader")) (codes "entries") (under_normal esp (codes "loader") normal refl refl) refl refl in
    let parts : under esp (under entries_below name) ≡ under (under (under esp (codes "loader")) (codes "entries")) name =
    sym (append_assoc esp (47 ∷ entries_below) (47 ∷ name)) ∙ ap (λ (p : Path). under p name) (sym (append_assoc esp (47 ∷ codes "loader") (47 ∷ codes "entries"))) in
    sym (under_is esp (under entries_below name) path is) ∙ ap normal_of parts ∙ child_normal (under (under esp (codes "loader")) (codes "entries")) name entries kept one
    ∙ ap (λ (p : Path). under p name) (append_assoc esp (47 ∷ codes "loader") (47 ∷ codes "entries"))

-- a value names the payload of that name
pub value_names : (esp : Path) (digits name : List ℕ) → IsNormal esp → is_payload_name digits ≡ true → is_kept digits ≡ true → is_payload_name name ≡ true
    → path_of_value esp (payload_value digits) ≡ Some (under (payload_folder esp) name) → digits ≡ name
value_names esp digits name normal fits kept is names =
    let text = under esp (payload_value digits) in
    let below = read_if (is_utf8 (payload_value digits)) (path_below esp (payload_value digits)) (under (payload_folder esp) name) names in
    let read = read_if (list_any is_kept (components (payload_value digits))) (path_of text) (under (payload_folder esp) name) below in
    let whole = (path-some (is_path text) (normal_of text) (under (payload_folder esp) name) read).1 in
    let parts : text ≡ under (under (under esp []) (codes "boot_tools")) digits =
    sym (append_assoc esp (47 ∷ codes "/boot_tools") (47 ∷ digits)) ∙ ap (λ (p : Path). under p digits) (sym (append_assoc esp (47 ∷ []) (47 ∷ codes "boot_tools"))) in
    let folder = under (under esp []) (codes "boot_tools") in
    let last : file_name_of (normal_of text) ≡ digits = ap (λ (t : Path). file_name_of (normal_of t)) parts ∙ last_of folder digits kept (payload_slash digits fits) in
    sym last ∙ ap file_name_of whole ∙ file_name_under (payload_folder esp) name (payload_slash name is)
  where
    last_of : (folder digits : Path) → is_kept digits ≡ true → list_any is_slash digits ≡ false → file_name_of (normal_of (under folder digits)) ≡ digits
    last_of folder digits kept one = by_front (eqb (length (normal_of folder)) 0) refl
      where
        by_front : (b : Bool) → eqb (length (normal_of folder)) 0 ≡ b → file_name_of (normal_of (under folder digits)) ≡ digits
        by_front true is = ap file_name_of (normal_more folder digits kept one ∙ cond-true (eqb (length (normal_of folder)) 0) digits (under (normal_of folder) digits) is) ∙ file_name_whole digits one
        by_front false is = ap file_name_of (normal_more folder digits kept one
            ∙ cond-false (eqb (length (normal_of folder)) 0) digits (under (normal_of folder) digits) is) ∙ file_name_under (normal_of folder) digits one

-- ---- the sources

-- a file that is read, and is no payload of the ESP
pub record IsSource (esp : Path) (v : Files) (file : Path) : Type 0 where
  pub read : bytes_at v file ≡ Ok (contents v file)
  pub apart : (bytes : List ℕ) → file ≢ payload_path esp bytes

read_is : (file : Path) (found : Option (List ℕ)) (bytes : List ℕ) → readable_bytes file found ≡ Ok bytes → found ≡ Some bytes
read_is file None bytes is = absurd (err_ok (refusals.NotFound (printed_path file)) bytes is)
read_is file (Some read) bytes is = by (nat_lt file_limit (length read)) is
  where
    by : (large : Bool) → (if large then Err (refusals.TooLarge (printed_path file) (length read)) else Ok read) ≡ Ok bytes → Some read ≡ Some bytes
    by true is = absurd (err_ok (refusals.TooLarge (printed_path file) (length read)) bytes is)
    by false is = ap (λ (b : List ℕ). Some b) (ok_is read bytes is)

source_apart : (esp file : Path) (b : Bool) → bytes_eq (under (payload_folder esp) (file_name_of file)) file ≡ b
    → (q : Path) → (if b then Err (refusals.PayloadSource (printed_path file)) else Ok file) ≡ Ok q → (bytes : List ℕ) → file ≢ payload_path esp bytes
source_apart esp file true is q ok bytes same = absurd (err_ok (refusals.PayloadSource (printed_path file)) q ok)
source_apart esp file false is q ok bytes same =
    let name : file_name_of file ≡ payload_name bytes = ap file_name_of same
    ∙ file_name_under (payload_folder esp) (payload_name bytes) (payload_slash (payload_name bytes) (payload_name_fits bytes)) in
    let whole : under (payload_folder esp) (file_name_of file) ≡ file = ap (under (payload_folder esp)) name ∙ sym same in
    clash ((bytes_eq-Decides (under (payload_folder esp) (file_name_of file)) file).1 whole) is
  where
    clash : {b : Bool} → b ≡ true → b ≡ false → ⊥
    clash is isnt = cc

pub is_source : (esp : Path) (v : Files) (file : Path) (bytes : List ℕ) (q : Path) → bytes_at v file ≡ Ok bytes → install_source esp file ≡ Ok q → IsSource esp v file
is_source esp v file bytes q read ok =
    let there = read_is file (map_of.get v file) bytes read in
    let same : contents v file ≡ bytes = rw there refl in
    record {
      read = read ∙ ap (λ (b : List ℕ). Ok b) (sym same);
      apart = source_apart esp file (bytes_eq (under (payload_folder esp) (file_name_of file)) file) refl q ok;
    }

pub all_sources : (esp : Path) (v : Files) (files : List Path) (reads : List (List ℕ)) (oks : List Path) → each (bytes_at v) files ≡ Ok reads → each (install_source esp) files ≡ Ok oks
    → All (IsSource esp v) files
unfolding each
all_sources esp v [] reads oks read ok = All-nil (IsSource esp v)
all_sources esp v (file ∷ files) reads oks read ok =
    let one = done_by (bytes_at v file) _ reads read in
    let more = done_by (each (bytes_at v) files) _ reads one.2 in
    let other = done_by (install_source esp file) _ oks ok in
    let others = done_by (each (install_source esp) files) _ oks other.2 in
    All-cons (IsSource esp v) file files (is_source esp v file one.0 other.0 one.1 other.1) (all_sources esp v files more.0 others.0 more.1 others.1)
