use Rattle.std.proofs.Common.{All, IsTrue, List, ℕ, ap, ◌∙◌, subst}
use Rattle.name_syncs.specs.Folders.{folders_above, with_folders}
use Rattle.name_syncs.specs.declared.folders.FolderSet.{FolderSet}
use Rattle.folder_calls.specs.Ready.{HasNoneReplaced}
use Rattle.folder_changes.proofs.Clearing.{if_near_clear}
use Rattle.folder_changes.proofs.changes.Changes.clear_near.Goals as goal

pub returns-clause-near : goal.returns-clause-near
returns-clause-near g c =
    let folder = c.args.folder.now in
    if_near_clear c.clear_below.result (IsTrue g.C.Calls.tells) (g.C.Calls.waits c.clear_each_below.new.self)
    (g.C.Calls.waits c.clear_below.new.self) folder c.new-near.result c.add_above.new.self
    (c.in_ok-add_above.ensures ∙ ap (λ (set : FolderSet). with_folders set (folders_above folder)) c.in_ok-add.ensures.ok)
    c.clear_below.ensures.asks
    (λ tells. subst (λ (near : List (List ℕ)). All (HasNoneReplaced (g.C.Calls.waits c.clear_each_below.new.self)) near) c.as_slice.ensures
    (c.in_ok-clear_each_below.ensures.near tells))
    c.clear_below.ensures.near
