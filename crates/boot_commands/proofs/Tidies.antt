-- What a command has tidied at each of its exits.
use Rattle.std.proofs.Common.{◌≡◌, Result, Ok, Err, ap, sym, subst, IsErr, IsErrAnd}
use Rattle.boot_machine.specs.Prelude.{Files, State}
use Rattle.tool_words.specs.declared.command.One.{One}
use Rattle.command_plans.specs.Prelude.{run_error_of, Drops, fault_drops}
use Rattle.command_plans.specs.declared.outcome.MachineFault.{MachineFault}
use Rattle.command_plans.specs.declared.outcome.MachineFault.TheVariants as faults
use Rattle.command_plans.specs.declared.outcome.RunError.{RunError}
use Rattle.command_plans.specs.declared.outcome.RunError.TheVariants as run_errors
use Rattle.command_plans.specs.declared.plan.Change.{Change}
use Rattle.boot_commands.specs.Commands.{LeavesTidied, TidiesTo, run_error_tidies}

stopped : {T : Type 0} (result : Result T RunError) (stop : RunError) (c : One) (old new : State) → IsErr result → IsErrAnd result (λ s. s ≡ stop) → run_error_tidies stop c old new → TidiesTo result c old new
stopped (Ok v) stop c old new failed is tidies = cc
stopped (Err e) stop c old new failed is tidies = subst (λ (s : RunError). run_error_tidies s c old new) (sym is) tidies

-- nothing was printed
untold : (stop : RunError) (c : One) (old new : State) → new ≡ old → run_error_tidies stop c old new
untold run_errors.Disk c old new same = tt
untold run_errors.Pipe c old new same = λ differs. absurd (differs (ap (λ (s : State). s.printed) same))
untold run_errors.Memory c old new same = tt

-- the change was made, but where the disk failed
made_or_not : (fault : MachineFault) (change : Change) (c : One) (old new : State)
    → ((files : Files) → Drops change old.files files → LeavesTidied c files) → fault_drops fault change old.files new.files → run_error_tidies (run_error_of fault) c old new
made_or_not faults.Disk change c old new so dropped = tt
made_or_not faults.Pipe change c old new so dropped = λ differs. so new.files dropped

-- no plan was made
pub tidies_unplanned : {T : Type 0} (result : Result T RunError) (stop : RunError) (c : One) (old new : State) → IsErr result → IsErrAnd result (λ s. s ≡ stop) → new ≡ old → TidiesTo result c old new
tidies_unplanned result stop c old new failed is same = stopped result stop c old new failed is (untold stop c old new same)

-- the plan couldn't be carried out
pub tidies_failed : {T : Type 0} (result : Result T RunError) (fault : MachineFault) (change : Change) (c : One) (old mid new : State) → IsErr result → IsErrAnd result (λ s. s ≡ run_error_of fault) → mid ≡ old
    → ((files : Files) → Drops change old.files files → LeavesTidied c files) → fault_drops fault change mid.files new.files → TidiesTo result c old new
tidies_failed result fault change c old mid new failed is same so dropped =
    stopped result (run_error_of fault) c old new failed is (made_or_not fault change c old new so (subst (λ (s : State). fault_drops fault change s.files new.files) same dropped))
