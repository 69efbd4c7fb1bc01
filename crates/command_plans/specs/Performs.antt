-- The clauses of every command.
use Rattle.std.specs.Prelude.{◌≡◌, [], ◌∷◌, ◌++◌, Result, MatchResult, IfOk, IfErr}
use Rattle.boot_machine.specs.Disk.{IsRested, State, recovered_view}
use Rattle.boot_machine.specs.Images.{IsFirm}
use Rattle.boot_machine.specs.Moments.{Timeline, EachSince}
use Rattle.boot_machine.specs.Counts.{Counts, DiskFailed, PipeFailed}
use Rattle.boot_machine.specs.Sent.{Adds, recovered_views}
use Rattle.boot_machine.specs.declared.fault.ReadFault.{ReadFault}
use Rattle.boot_machine.specs.declared.fault.ReadFault.TheVariants as reads
use Rattle.install_steps.specs.Steps.{NoNewTemp}
use Rattle.command_plans.specs.Deeds.{Deed, End, Stopped, NoMemory, DiskFails, PipeFails, left_by, Breaks}
use Rattle.command_plans.specs.declared.outcome.Outcome.{Outcome}
use Rattle.command_plans.specs.declared.outcome.RunError.{RunError}
use Rattle.command_plans.specs.declared.outcome.RunError.TheVariants as run_errors
use Rattle.command_plans.specs.declared.outcome.MachineFault.{MachineFault}
use Rattle.command_plans.specs.declared.outcome.MachineFault.TheVariants as faults

-- how a run ends by an error
abbrev pub end_of : RunError → End
end_of run_errors.Disk = DiskFails
end_of run_errors.Pipe = PipeFails
end_of run_errors.Memory = NoMemory

-- a fault of the machine as an error of the run
abbrev pub run_error_of : MachineFault → RunError
run_error_of faults.Disk = run_errors.Disk
run_error_of faults.Pipe = run_errors.Pipe

-- a failure to read as an error of the run
abbrev pub run_error_of_read : ReadFault → RunError
run_error_of_read reads.Memory = run_errors.Memory
run_error_of_read reads.Disk = run_errors.Disk

-- the end that a fault of the machine makes of a command
abbrev pub end_by : MachineFault → End
end_by fault = end_of (run_error_of fault)

-- the deed was done and its reply printed
abbrev pub DoesDeed : Deed → State → State → Outcome → Type 0
DoesDeed deed s now outcome =
    (outcome ≡ deed.outcome) × (recovered_views now ≡ left_by deed (recovered_views s))
    × (now.printed ≡ s.printed ++ deed.sent)

-- One deed on a firm machine, from old to new: what stands after each answer, and at every moment.
pub record Performs {M E : Type 0} (time : Timeline M) (state : M → State)
    (ends : E → End) (old new : M) (deed : Deed) (result : Result Outcome E) : Type 0 where
  pub firm : IsFirm (state new)
  pub ok : IfOk result (DoesDeed deed (state old) (state new))
  pub err : IfErr result (λ fault. Adds (state old).printed (state new).printed
      (λ part. Breaks deed (recovered_views (state old)) (recovered_views (state new)) part (ends fault)))
  pub moments : EachSince time old new
      (λ image sent. Adds (state old).printed sent
      (λ part. Breaks deed (recovered_views (state old)) (recovered_view image ∷ []) part Stopped))

-- the counts at each error
abbrev pub run_error_counts : RunError → Counts → Counts → Type 0
run_error_counts run_errors.Disk old new = DiskFailed old new
run_error_counts run_errors.Pipe old new = PipeFailed old new
run_error_counts run_errors.Memory old new = new ≡ old

-- an error of disk or pipe comes only where its count rose, and every other answer leaves both counts
abbrev pub CountsRunError : {T : Type 0} → Result T RunError → Counts → Counts → Type 0
CountsRunError result old new = MatchResult result (λ _. new ≡ old) (λ error. run_error_counts error old new)

-- a machine's fault of disk or pipe comes only if its count rose, and every other answer leaves both counts
abbrev pub CountsFault : {T : Type 0} → Result T MachineFault → Counts → Counts → Type 0
CountsFault result old new =
    MatchResult result (λ _. new ≡ old) (λ fault. run_error_counts (run_error_of fault) old new)

-- no temporary file is left that wasn't there, but after a fault of the disk
abbrev pub run_error_temps : RunError → State → State → Type 0
run_error_temps run_errors.Disk old new = Unit {0}
run_error_temps run_errors.Pipe old new = NoNewTemp old new
run_error_temps run_errors.Memory old new = NoNewTemp old new

-- whatever was returned, no temporary file is left that wasn't there, but after a fault of the disk
abbrev pub LeavesNoTemp : {T : Type 0} → Result T RunError → State → State → Type 0
LeavesNoTemp result old new = MatchResult result (λ _. NoNewTemp old new) (λ error. run_error_temps error old new)

-- whatever the machine answered, no temporary file is left that wasn't there, but maybe after a fault of the disk
abbrev pub LeavesNoTempBy : {T : Type 0} → Result T MachineFault → State → State → Type 0
LeavesNoTempBy result old new =
    MatchResult result (λ _. NoNewTemp old new) (λ fault. run_error_temps (run_error_of fault) old new)

-- the machine is rested, but maybe after a fault of the disk
abbrev pub run_error_rests : RunError → State → Type 0
run_error_rests run_errors.Disk new = Unit {0}
run_error_rests run_errors.Pipe new = IsRested new
run_error_rests run_errors.Memory new = IsRested new

-- whatever was returned, the machine is rested, but maybe after a fault of the disk
abbrev pub LeavesRested : {T : Type 0} → Result T RunError → State → Type 0
LeavesRested result new = MatchResult result (λ _. IsRested new) (λ error. run_error_rests error new)

-- whatever the machine answered, it is rested, but maybe after a fault of the disk
abbrev pub LeavesRestedBy : {T : Type 0} → Result T MachineFault → State → Type 0
LeavesRestedBy result new = MatchResult result (λ _. IsRested new) (λ fault. run_error_rests (run_error_of fault) new)
