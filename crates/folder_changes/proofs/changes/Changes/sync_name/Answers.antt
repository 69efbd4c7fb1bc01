use Rattle.std.proofs.Common.{[], ◌∷◌, IsTrue}
use Rattle.name_syncs.specs.Folders.{parent_folder}
use Rattle.name_syncs.specs.Waiting.{FileAt, FolderAt}
use Rattle.name_syncs.proofs.Syncing.{asks_among}
use Rattle.folder_changes.proofs.Clearing.{if_asked_behind, known_settled, others_none}
use Rattle.folder_changes.proofs.changes.Changes.sync_name.Goals as goal

pub invariant_of-self-2 : goal.invariant_of-self-2
invariant_of-self-2 g c tells =
    let disk = g.C.Calls.waits c.self-2.inside.calls in
    known_settled c.self-2.inside.is_unsure c.self-2.inside.named c.settle_file.new.self c.self-2.inside.ready
    disk disk c.args.path.now c.settle_file.ensures (others_none disk).asks.kept
    (rw c.self-2.view_is (c.in-Ok-true.ensures.synced tells c.in-Ok-true.field-0-test)) (c.self-2.invariant tells)

pub returns-clause-asks : goal.returns-clause-asks
returns-clause-asks g c =
    let start = g.C.Calls.waits c.args.self.now in
    let between = g.C.Calls.waits c.sync_found.new.self in
    let new = g.C.Calls.waits c.sync_names_in.new.self in
    if_asked_behind c.sync_names_in.result (IsTrue g.C.Calls.tells) (FileAt c.args.path.now ∷ []) (FolderAt (parent_folder c.args.path.now) ∷ [])
    start between new (λ tells. asks_among (FileAt c.args.path.now ∷ []) start between (c.sync_found.ensures.asks tells))
    (rw (c.folder_of.ensures, c.self-2.view_is) at c.sync_names_in.ensures.asks)
