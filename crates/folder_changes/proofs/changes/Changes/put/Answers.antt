use Rattle.name_syncs.proofs.Noted.{renames_are_covered}
use Rattle.name_syncs.specs.Named.{renamed_to}
use Rattle.folder_changes.proofs.Clearing.{are_ready_still}
use Rattle.folder_changes.proofs.Noting.{note_covers}
use Rattle.folder_changes.proofs.changes.Changes.put.Goals as goal

pub invariant_of-self-2 : goal.invariant_of-self-2
invariant_of-self-2 g c tells =
    let named = c.self.inside.named in
    let new = g.C.Calls.waits c.put.new.self in
    record {
      noted = note_covers c.rename.result c.self.inside.is_unsure c.keep_note.new.is_unsure c.rename.new.self
          (renamed_to named c.args.from.now c.args.to.now) new c.in_ok-keep_note.ensures.ok c.rename.ensures
          (λ sure. (renames_are_covered named (g.C.Calls.waits c.self.inside.calls) new c.args.from.now c.args.to.now
          ((c.self.invariant tells).noted sure) (c.put.ensures.waits tells)));
      cleared = are_ready_still (g.C.Calls.waits c.self.inside.calls) new (c.put.ensures.waits tells).others c.self.inside.ready (c.self.invariant tells).cleared;
    }
