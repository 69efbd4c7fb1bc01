-- What the bound of a machine gives a step at once: `g.met.M.Machine` in the answers.
use contract.Running.{Running}
use denote.RattleType.{RattleType}
use mir.Syntax.{Dict}
use prog.Model.{Model}
use prog.Routine.{Env}
use seplogic.Ra.Ura.{Ura}
use types.Logic.{Logic}
use Rattle.std.proofs.Common.{◌≡◌, IsTrue, List}
use Rattle.boot_base.specs.Paths.{Path}
use Rattle.boot_machine.specs.Prelude.{Files, HasOneCandidate, IsFirm, IsImage, IsSettled}
use Rattle.boot_machine.specs.contracts.machine.Machine.TheBound as bound
use Rattle.boot_machine.specs.declared.machine.Machine.{Ghosts}
use Rattle.boot_machine.specs.declared.machine.Printed.{Printed}
use Rattle.boot_machine.proofs.Going.{During}
use Rattle.install_steps.proofs.QuietLemmas.{Quiet, quiet_start}
use Rattle.install_steps.proofs.StepLemmas.{OldOrNext, Same, begins, begins_same, begins_settled}

module _ {A : Type 1} {U : Ura {1} A} {L : Logic U} {H : Model U L.H} {R : Running U L.H H} {e : Env} {T : RattleType}
    {on : Ghosts T.Denot} {d : Dict} (met : bound.Met L H R e T on d) (told : IsTrue on.tells) (old : T.Denot) where
  -- a stop now leaves no more than the state says
  pub only_here : (m : Files) (o : List Printed) → on.time.since old (on.time.clock old) m o
      → IsImage (on.state old) m × (o ≡ (on.state old).printed)
  only_here m o left = met.only_now old m o told left

  -- a file is to be written, which boot doesn't see
  pub starts_same : IsFirm (on.state old) → HasOneCandidate (on.state old)
      → During on.time on.state (Same (on.state old)) old old
  starts_same firm one = begins_same on.time on.state old only_here (met.sound old told) firm one

  -- boot is to see the next files
  pub starts : (next : Files) → IsFirm (on.state old) → HasOneCandidate (on.state old)
      → During on.time on.state (OldOrNext (on.state old) next) old old
  starts next firm one = begins on.time on.state next old only_here (met.sound old told) firm one

  -- boot is to see the next files, and each image shows what boot sees now
  pub starts_settled : (next : Files) → IsFirm (on.state old) → IsSettled (on.state old)
      → During on.time on.state (OldOrNext (on.state old) next) old old
  starts_settled next firm settled = begins_settled on.time on.state next old only_here (met.sound old told) firm settled

  -- a step that has these temporary files of its own
  pub quiet_here : (own : List Path) → Quiet on.time on.state own old old
  quiet_here own = quiet_start on.time on.state own old only_here
