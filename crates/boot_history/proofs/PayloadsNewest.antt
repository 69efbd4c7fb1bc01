-- A `keep` removes no payload.
use Rattle.std.proofs.Common.{◌≡◌, ℕ, zero, suc, Bool, true, false, List, [], ◌∷◌, map, take, Result, Ok, Err, refl, sym, ap, ◌∙◌, subst, Contains, nat_lt}
use Rattle.std.specs.List.{AllByRecursion}
use Rattle.boot_base.specs.Paths.{Path, file_name_of}
use Rattle.boot_base.specs.declared.refusal.Refusal.{Refusal}
use Rattle.boot_entries.specs.Entries.{IsEntry, boot_menu, entry_count, folder_of}
use Rattle.boot_entries.specs.declared.folders.Folders.{Folders}
use Rattle.boot_entries.proofs.EntryFiles.{entries_menu}
use Rattle.boot_entries.proofs.Places.{file_name_under, name_parts}
use Rattle.boot_machine.specs.Prelude.{Files}
use Rattle.command_plans.proofs.Steps.{done_by}
use Rattle.command_plans.specs.Prelude.{folders_of, menu_at}
use Rattle.menu_order.specs.Doomed.{doomed_records}
use Rattle.menu_order.proofs.Lists.{Contains-head, Contains-later}
use Rattle.menu_order.specs.Splits.{has_suffix}
use Rattle.menu_order.specs.declared.item.MenuItem.{MenuItem}
use Rattle.tool_words.specs.declared.action.Action.TheVariants as action
use Rattle.tool_words.specs.declared.command.KeepWords.{KeepWords}
use Rattle.entry_commands.proofs.Kept.{doomed_are, doomed_in}
use Rattle.entry_commands.specs.Counts.{count_in}
use Rattle.boot_commands.specs.Expansions.{keep_actions}
use Rattle.entry_commands.specs.Keeping.{keep_result}
use Rattle.type1_install.proofs.Cleaning.{menu_is}
use Rattle.type1_install.proofs.PayloadsKept.{NotPayload, suffix_not_payload}
use Rattle.boot_run.specs.Lines.{line_deed}
use Rattle.boot_run.specs.Step.{view_after}
use Rattle.boot_run.specs.declared.line.Line.TheVariants.{Part}
use Rattle.boot_history.specs.Payloads.{AreNamedThere, RemovalKeepsLaw}
use Rattle.boot_history.proofs.NamedKept.{remove_kept}
use Rattle.boot_history.proofs.Newest.{lines_are, lines_of, removal_lines, removed}
use Rattle.boot_history.proofs.Payloads.{refused_keeps, told_keeps}

-- none of these is the path of a payload
abbrev AllApart : Path → List Path → Type 0
AllApart esp paths = AllByRecursion (NotPayload esp) paths

entry_apart : (esp : Path) (view : Files) (folders : Folders) (item : MenuItem) → IsEntry view folders item → NotPayload esp item.path
entry_apart esp view folders item e =
    let last : file_name_of item.path ≡ e.name = ap file_name_of e.stands ∙ file_name_under (folder_of folders e.suffix) e.name (name_parts e.name e.is_name).1 in
    suffix_not_payload esp item.path e.suffix (ap (has_suffix e.suffix) last ∙ e.of_type)

entries_apart : (esp : Path) (view : Files) (folders : Folders) (items : List MenuItem) → ((item : MenuItem) → Contains items item → IsEntry view folders item)
    → AllApart esp (map (λ (i : MenuItem). i.path) items)
entries_apart esp view folders [] are = tt
entries_apart esp view folders (item ∷ items) are = (
  entry_apart esp view folders item (are item (Contains-head item items)),
  entries_apart esp view folders items (λ other is. are other (Contains-later item other items is)),
)

-- what is found is the entries' own
found_apart : (esp : Path) (view : Files) (words : KeepWords) (paths : List Path) → keep_result view words ≡ Ok paths → AllApart esp paths
found_apart esp view words paths is =
    let number = done_by (count_in words.number) _ paths is in
    let place = done_by (folders_of words.esp) _ paths number.2 in
    let shown = done_by (menu_at view place.0) _ paths place.2 in
    let folders = place.0 in
    let menu = shown.0 in
    let menu_are : boot_menu view folders ≡ menu = menu_is view folders (nat_lt 4096 (entry_count view folders)) menu shown.1 in
    subst (AllApart esp) (doomed_are number.0 words.per_key menu paths shown.2)
    (entries_apart esp view folders (doomed_records number.0 words.per_key menu) (λ item there.
    ((entries_menu view folders).entries item).0 (subst (λ (m : List MenuItem). Contains m item) (sym menu_are) (doomed_in number.0 words.per_key menu item there))))

removals_kept : (counts : List ℕ → Bool) (esp : Path) (view : Files) (paths : List Path) → AreNamedThere counts esp view → AllApart esp paths
    → (n : ℕ) → AreNamedThere counts esp (view_after view (take n (removal_lines paths)))
removals_kept counts esp view paths ok apart zero = ok
removals_kept counts esp view [] ok apart (suc n) = ok
removals_kept counts esp view (path ∷ paths) ok apart (suc n) =
    removals_kept counts esp (line_deed view (Part (action.Remove path))).after paths
    (subst (AreNamedThere counts esp) (sym (removed view path)) (remove_kept counts esp view ok path apart.0)) apart.1 n

module _ (counts : List ℕ → Bool) (esp : Path) (view : Files) (words : KeepWords) (ok : AreNamedThere counts esp view) where
  by_words : (dry_run : Bool) (paths : List Path) → AllApart esp paths → (n : ℕ)
      → AreNamedThere counts esp (view_after view (take n (map Part (keep_actions dry_run paths))))
  by_words true paths apart n = told_keeps counts esp view _ ok n
  by_words false [] apart n = told_keeps counts esp view _ ok n
  by_words false (path ∷ paths) apart n = removals_kept counts esp view (path ∷ paths) ok apart n

  by_found : (found : Result (List Path) Refusal) → keep_result view words ≡ found → (n : ℕ)
      → AreNamedThere counts esp (view_after view (take n (lines_of words found)))
  unfolding lines_of
  by_found (Err why) is n = refused_keeps counts esp view why ok n
  by_found (Ok paths) is n = by_words words.dry_run paths (found_apart esp view words paths is) n

pub keep_keeps : RemovalKeepsLaw
keep_keeps counts esp view input words ok n =
    subst (λ lines. AreNamedThere counts esp (view_after view (take n lines))) (sym (lines_are view input words))
    (by_found counts esp view words ok (keep_result view words) refl n)
