use Rattle.name_syncs.proofs.Noted.{names_are_covered}
use Rattle.name_syncs.specs.Named.{changed_at}
use Rattle.folder_changes.proofs.Clearing.{are_ready_still}
use Rattle.folder_changes.proofs.Noting.{note_covers}
use Rattle.folder_changes.proofs.changes.Changes.unlink.Goals as goal

pub invariant_of-self-in_err-unlink : goal.invariant_of-self-in_err-unlink
invariant_of-self-in_err-unlink g c tells =
    let named = c.self.inside.named in
    let new = g.C.Calls.waits c.unlink.new.self in
    record {
      noted = note_covers c.change.result c.self.inside.is_unsure c.keep_note.new.is_unsure c.change.new.self
          (changed_at named c.args.path.now) new c.in_ok-keep_note.ensures.ok c.change.ensures
          (λ sure. (names_are_covered named (g.C.Calls.waits c.self.inside.calls) new c.args.path.now
          ((c.self.invariant tells).noted sure) (c.unlink.ensures.waits tells)).1);
      cleared = are_ready_still (g.C.Calls.waits c.self.inside.calls) new (c.unlink.ensures.waits tells).others c.self.inside.ready (c.self.invariant tells).cleared;
    }

pub invariant_of-self-2 : goal.invariant_of-self-2
invariant_of-self-2 g c tells =
    let named = c.self.inside.named in
    let new = g.C.Calls.waits c.unlink.new.self in
    record {
      noted = note_covers c.change.result c.self.inside.is_unsure c.keep_note.new.is_unsure c.change.new.self
          (changed_at named c.args.path.now) new c.in_ok-keep_note.ensures.ok c.change.ensures
          (λ sure. (names_are_covered named (g.C.Calls.waits c.self.inside.calls) new c.args.path.now
          ((c.self.invariant tells).noted sure) (c.unlink.ensures.waits tells)).1);
      cleared = are_ready_still (g.C.Calls.waits c.self.inside.calls) new (c.unlink.ensures.waits tells).others c.self.inside.ready (c.self.invariant tells).cleared;
    }
