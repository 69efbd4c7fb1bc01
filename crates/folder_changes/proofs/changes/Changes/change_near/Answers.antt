use Rattle.name_syncs.proofs.Noted.{names_are_covered}
use Rattle.name_syncs.specs.Named.{changed_at}
use Rattle.folder_changes.proofs.Noting.{name_waits_none, note_covers}
use Rattle.folder_changes.proofs.changes.Changes.change_near.Goals as goal

pub invariant_of-self-2 : goal.invariant_of-self-2
invariant_of-self-2 g c tells =
    let named = c.self.inside.named in
    let waits = g.C.Calls.waits c.self.inside.calls in
    record {
      noted = note_covers c.change.result c.self.inside.is_unsure c.keep_note.new.is_unsure c.change.new.self
          (changed_at named c.args.path.now) waits c.in_ok-keep_note.ensures.ok c.change.ensures
          (λ sure. (names_are_covered named waits waits c.args.path.now ((c.self.invariant tells).noted sure)
          (name_waits_none waits c.args.path.now)).1);
      cleared = (c.self.invariant tells).cleared;
    }
