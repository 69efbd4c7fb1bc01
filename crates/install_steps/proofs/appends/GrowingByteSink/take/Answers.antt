use Rattle.std.proofs.Common.{IsTrue, List, ℕ, refl}
use Rattle.boot_machine.proofs.Pieces.{after_error}
use Rattle.install_steps.specs.Appends.{GrowsAlone}
use Rattle.install_steps.specs.proofs.GrowingLaws.{grows_some}
use Rattle.install_steps.proofs.appends.GrowingByteSink.take.Goals as goal

pub returns-in_err-append-clause-some : goal.returns-in_err-append-clause-some
returns-in_err-append-clause-some g c =
    let some : IsTrue g.M.Machine.tells
    → (x : List ℕ) × GrowsAlone g.M.Machine.tells g.M.Machine.time g.M.Machine.state x c.args.self.now.temp.now c.args.machine.now
    c.args.self.now.temp.now c.append.new.machine =
    λ told.
    let more =
    grows_some g.M.Machine.tells g.M.Machine.time g.M.Machine.state c.args.self.now.temp.now c.args.machine.now c.append.new.machine
    (c.requires told).1 (c.append.ensures.appends.only told) in
    (more.0, (refl, λ also. more.1))
    in
    after_error c.from_residual.result _ some
