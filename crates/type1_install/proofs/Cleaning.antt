-- A cleanup keeps the payloads of entries, after each of its commands.
use Rattle.std.proofs.Common.{◌≡◌, ℕ, Bool, true, false, List, [], ◌∷◌, ◌++◌, Ok, Err, filter, refl, sym, ap, ◌∙◌, cond, append_assoc, All, codes, if◌then◌else◌}
use Rattle.std.specs.FinMap as map_of
use Rattle.std.specs.List.{list_any}
use Rattle.std.proofs.lemmas.List.Elements.{All-cons, All-nil}
use Rattle.boot_base.specs.Layout.{entries_below, images_below}
use Rattle.boot_base.specs.Paths.{Path, is_kept, is_slash, normal_of, under}
use Rattle.boot_base.specs.declared.refusal.Refusal.TheVariants as refusals
use Rattle.boot_entries.specs.Entries.{boot_menu, entry_count}
use Rattle.boot_entries.specs.declared.folders.Folders.{Folders}
use Rattle.boot_machine.specs.Prelude.{Files}
use Rattle.menu_order.specs.declared.item.MenuItem.{MenuItem}
use Rattle.command_plans.specs.Prelude.{path_in, path_under, folders_of}
use Rattle.command_plans.proofs.Steps.{done_by, err_ok, ok_is}
use Rattle.type1_install.specs.Payloads.{folders_at}
use Rattle.type1_install.proofs.Installing.{IsNormal, child_normal, under_is, under_normal}
use Rattle.type1_install.proofs.Planned.{word_normal}

-- ---- what a cleanup drops

pub all_kept : (test : Path → Bool) (paths : List Path) → All (λ path. test path ≡ true) (filter test paths)
all_kept test [] = All-nil (λ path. test path ≡ true)
all_kept test (path ∷ paths) = by_test (all_kept test paths) (test path) refl
  where
    by_test : All (λ path. test path ≡ true) (filter test paths) → (b : Bool) → test path ≡ b → All (λ path. test path ≡ true) (cond b (path ∷ filter test paths) (filter test paths))
    by_test more true is = All-cons (λ path. test path ≡ true) path (filter test paths) is more
    by_test more false is = more

-- the folders of a word
pub folders_are : (word : List ℕ) (e : Path) (folders : Folders) → path_in word ≡ Ok e → folders_of word ≡ Ok folders → folders ≡ folders_at e
folders_are word e folders at ok =
    let esp = done_by (path_in word) _ folders ok in
    let entries = done_by (path_under esp.0 entries_below) _ folders esp.2 in
    let images = done_by (path_under esp.0 images_below) _ folders entries.2 in
    let normal = word_normal word esp.0 esp.1 in
    let same : esp.0 ≡ e = ok_is esp.0 e (sym esp.1 ∙ at) in
    let of : Path → Path → Folders = λ a b. record { entries = a; images = b } in
    sym (ok_is _ folders images.2)
    ∙ ap (λ a. of a images.0) (below esp.0 (codes "loader") (codes "entries") entries.0 normal refl refl refl refl (sym (under_is esp.0 entries_below entries.0 entries.1)))
    ∙ ap (of (under esp.0 entries_below)) (below esp.0 (codes "EFI") (codes "Linux") images.0 normal refl refl refl refl (sym (under_is esp.0 images_below images.0 images.1)))
    ∙ ap folders_at same
  where
    below : (e a b path : Path) → IsNormal e → is_kept a ≡ true → list_any is_slash a ≡ false
        → is_kept b ≡ true → list_any is_slash b ≡ false
        → path ≡ normal_of (under e (a ++ 47 ∷ b)) → path ≡ under e (a ++ 47 ∷ b)
    below e a b path normal a_kept a_one b_kept b_one is =
        let parts : under e (a ++ 47 ∷ b) ≡ under (under e a) b = sym (append_assoc e (47 ∷ a) (47 ∷ b)) in
        is ∙ ap normal_of parts ∙ child_normal (under e a) b (under_normal e a normal a_kept a_one) b_kept b_one ∙ sym parts

pub menu_is : (view : Files) (folders : Folders) (b : Bool) (menu : List MenuItem)
    → (if b then Err (refusals.TooMany (entry_count view folders)) else Ok (boot_menu view folders)) ≡ Ok menu → boot_menu view folders ≡ menu
menu_is view folders true menu is = absurd (err_ok (refusals.TooMany (entry_count view folders)) menu is)
menu_is view folders false menu is = ok_is (boot_menu view folders) menu is
