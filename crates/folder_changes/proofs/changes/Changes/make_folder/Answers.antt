use Rattle.name_syncs.proofs.Noted.{names_are_covered}
use Rattle.name_syncs.specs.Named.{made_at}
use Rattle.folder_changes.proofs.Clearing.{are_ready_still}
use Rattle.folder_changes.proofs.Noting.{note_covers}
use Rattle.folder_changes.proofs.changes.Changes.make_folder.Goals as goal

pub invariant_of-self-2 : goal.invariant_of-self-2
invariant_of-self-2 g c tells =
    let named = c.self.inside.named in
    let new = g.C.Calls.waits c.make_folder.new.self in
    record {
      noted = note_covers c.make.result c.self.inside.is_unsure c.keep_note.new.is_unsure c.make.new.self (made_at named c.args.folder.now) new
          c.in_ok-keep_note.ensures.ok c.make.ensures
          (λ sure. (names_are_covered named (g.C.Calls.waits c.self.inside.calls) new c.args.folder.now ((c.self.invariant tells).noted sure)
          (c.make_folder.ensures.waits tells)).0);
      cleared = are_ready_still (g.C.Calls.waits c.self.inside.calls) new (c.make_folder.ensures.waits tells).others c.self.inside.ready (c.self.invariant tells).cleared;
    }
