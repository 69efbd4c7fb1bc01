use Rattle.std.proofs.Common.{[], IsTrue}
use Rattle.name_syncs.specs.Waiting.{AsksAmong}
use Rattle.folder_calls.specs.Ready.{MaySync}
use Rattle.folder_changes.proofs.Clearing.{known_still, sync_row}
use Rattle.folder_changes.proofs.changes.Changes.sync_ready.Goals as goal

pub invariant_of-self : goal.invariant_of-self
invariant_of-self g c tells =
    known_still c.self.inside.is_unsure c.self.inside.named c.self.inside.ready (g.C.Calls.waits c.self.inside.calls)
    (g.C.Calls.waits c.sync_folder.new.self) (c.sync_folder.ensures.asks tells).kept (c.self.invariant tells)

pub returns-in-Ok-true-clause-row : goal.returns-in-Ok-true-clause-row
returns-in-Ok-true-clause-row g c tells =
    let before = g.C.Calls.waits c.self.inside.calls in
    let start = g.C.Calls.waits c.args.self.now in
    let ready : AsksAmong [] start before = rw c.self.view_is (c.make_ready.ensures.asks tells) in
    let may : MaySync before c.args.folder.now = rw c.self.view_is (c.in-Ok-true.ensures.ready tells c.in-Ok-true.field-0-test) in
    sync_row c.sync_folder.result (IsTrue g.C.Calls.tells) start before (g.C.Calls.waits c.sync_folder.new.self) c.args.folder.now tells
    ready may.own (c.sync_folder.ensures.asks tells) c.sync_folder.ensures.synced c.sync_folder.ensures.left c.sync_folder.ensures.gone
    c.sync_folder.ensures.unable c.sync_folder.ensures.refused
