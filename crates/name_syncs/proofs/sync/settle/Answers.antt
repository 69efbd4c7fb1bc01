use Rattle.std.proofs.Common.{subst, inl, true, ◌≡◌}
use Rattle.name_syncs.specs.Folders.{has_folder}
use Rattle.name_syncs.proofs.Syncing.{settles_noted}
use Rattle.name_syncs.proofs.sync.settle.Goals as goal
use Rattle.name_syncs.proofs.sync.settle.Goals.{then-is_there, else-is_there}

pub returns-clause-settled : goal.returns-clause-settled
returns-clause-settled g c tells folder there = elim c.if-is_there.branch [
  | then-is_there w ↦
      settles_noted w.add.result (g.D.Disk.state c.sync_folder.new.self) c.args.settled.now w.add.new.self c.args.folder.now
      w.add.ensures.ok w.add.ensures.err ((c.in_ok-is_there.ensures.row tells).synced w.if-is_there.true).names folder
      (subst (λ noted. has_folder noted folder ≡ true) w.settled-is there)
  | else-is_there w ↦ inl (subst (λ noted. has_folder noted folder ≡ true) w.settled-is there)
]
