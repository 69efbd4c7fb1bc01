use Rattle.std.proofs.Common.{◌≡◌, ◌∙◌, ap, sym, IsTrue, List, ℕ, is_some, Option}
use Rattle.folder_calls.specs.Tree.{is_fat_file}
use Rattle.folder_calls.specs.declared.found.Found.{Found}
use Rattle.folder_changes.specs.Files.{found_as}
use Rattle.folder_machine.specs.Moving.{left_names}
use Rattle.folder_machine.proofs.LeftNames.{if_left_synced}
use Rattle.folder_machine.proofs.system.System.sync_left.Goals as goal

pub returns : goal.returns
returns g c =
    let names = c.in-Some.names.now in
    let tree = g.C.Calls.tree c.args.self.now.changes in
    let old_copy : c.as_str-3.result.now ≡ names.from = c.as_str-3.ensures.value ∙ c.in_ok-from.ensures ∙ c.as_str.ensures.text in
    let new_copy : c.as_str-4.result.now ≡ names.to = c.as_str-4.ensures.value ∙ c.in_ok-to.ensures ∙ c.as_str-2.ensures.text in
    let old_at : c.as_str-5.result.now ≡ names.from = c.as_str-5.ensures.value ∙ c.in_ok-from.ensures ∙ c.as_str.ensures.text in
    let new_at : c.as_str-6.result.now ≡ names.to = c.as_str-6.ensures.value ∙ c.in_ok-to.ensures ∙ c.as_str-2.ensures.text in
    if_left_synced c.sync_name_if-2.result (IsTrue g.C.Calls.tells) tree (g.C.Calls.waits c.sync_name_if.new.self.changes)
    (g.C.Calls.waits c.sync_name_if-2.new.self.changes) (left_names c.args.self.now.intent) names c.is_some-has_old.result c.is_some-has_new.result
    c.in-Some.ensures
    (λ tells. ap (λ (path : List ℕ). is_some (found_as is_fat_file (tree.stands path))) (sym old_copy)
    ∙ ap (λ (found : Option Found). is_some found) (sym (rw c.calls.ensures at (c.in_ok-fat_file_at.ensures tells))) ∙ sym c.is_some-has_old.ensures)
    (λ tells. ap (λ (path : List ℕ). is_some (found_as is_fat_file (tree.stands path))) (sym new_copy)
    ∙ ap (λ (found : Option Found). is_some found) (sym (rw c.calls-2.ensures at (c.in_ok-fat_file_at-2.ensures tells))) ∙ sym c.is_some-has_new.ensures)
    (λ tells. rw old_at at (c.in_ok-sync_name_if.ensures.synced tells))
    c.sync_name_if-2.ensures.kept
    (rw new_at at c.sync_name_if-2.ensures.synced)
