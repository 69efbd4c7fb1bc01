use Rattle.std.proofs.Common.{refl}
use Rattle.boot_machine.proofs.Elapsing.{at_once}
use Rattle.install_steps.proofs.RecoverLemmas.{recovers_not}
use Rattle.boot_run.proofs.recovery.recover_rename.Goals as goal

pub returns-in_err-intent-clause-recovers : goal.returns-in_err-intent-clause-recovers
returns-in_err-intent-clause-recovers g c told firm =
    recovers_not g.M.Machine.time g.M.Machine.state c.args.machine.now c.args.machine.now c.args.machine.now
    (at_once g.M.Machine.time g.M.Machine.state _ c.args.machine.now (λ m o left. g.met.M.Machine.only_now c.args.machine.now m o told left)) firm refl
