-- What the printing of a reply leaves.
use Rattle.std.proofs.Common.{◌≡◌, ℕ, List, take, sym, ap, subst, Result, Ok, Err, MatchResult}
use Rattle.boot_machine.specs.Prelude.{State, IsRested, with_printed}
use Rattle.boot_machine.specs.declared.machine.Channel.{Channel}
use Rattle.install_steps.specs.Steps.{NoNewTemp}
use Rattle.command_plans.specs.Prelude.{LeavesNoTempBy, LeavesRestedBy, Drops, DropsBy}
use Rattle.command_plans.specs.declared.outcome.Outcome.{Outcome}
use Rattle.command_plans.specs.declared.outcome.MachineFault.{MachineFault}
use Rattle.command_plans.specs.declared.outcome.MachineFault.TheVariants.{Disk, Pipe}
use Rattle.command_plans.specs.declared.plan.Change.{Change}

-- the reply is printed, or the first so many of its bytes
abbrev pub Replied : Outcome → Channel → List ℕ → State → State → Result Outcome MachineFault → Type 0
Replied outcome to bytes done new result =
    MatchResult result
    (λ told. (told ≡ outcome) × (new ≡ with_printed to bytes done))
    (λ fault. (fault ≡ Pipe) × ((k : ℕ) × (new ≡ with_printed to (take k bytes) done)))

module _ (outcome : Outcome) (to : Channel) (bytes : (List ℕ)) (done new : State) where
  -- what is printed
  pub shown : (result : Result Outcome MachineFault) → Replied outcome to bytes done new result → (part : List ℕ) × (new ≡ with_printed to part done)
  shown (Ok told) is = (bytes, is.1)
  shown (Err fault) is = (take is.1.0 bytes, is.1.1)

  pub replied_input : (result : Result Outcome MachineFault) → Replied outcome to bytes done new result → new.input ≡ done.input
  replied_input result is = ap (λ (s : State). s.input) (shown result is).1

  pub replied_files : (result : Result Outcome MachineFault) → Replied outcome to bytes done new result → new.files ≡ done.files
  replied_files result is = ap (λ (s : State). s.files) (shown result is).1

  pub replied_rests : (result : Result Outcome MachineFault) → Replied outcome to bytes done new result → IsRested done → LeavesRestedBy result new
  replied_rests (Ok told) is rested = subst IsRested (sym is.1) rested
  replied_rests (Err Disk) is rested = tt
  replied_rests (Err Pipe) is rested = subst IsRested (sym is.1.1) rested

  pub replied_temps : (result : Result Outcome MachineFault) → Replied outcome to bytes done new result → (old : State) → NoNewTemp old done → LeavesNoTempBy result old new
  replied_temps (Ok told) is old none = subst (NoNewTemp old) (sym is.1) none
  replied_temps (Err Disk) is old none = tt
  replied_temps (Err Pipe) is old none = subst (NoNewTemp old) (sym is.1.1) none

  pub replied_drops : (result : Result Outcome MachineFault) → Replied outcome to bytes done new result → (old : State) (change : Change)
      → Drops change old.files done.files → DropsBy result change old.files new.files
  replied_drops (Ok told) is old change drops = subst (λ (s : State). Drops change old.files s.files) (sym is.1) drops
  replied_drops (Err Disk) is old change drops = tt
  replied_drops (Err Pipe) is old change drops = subst (λ (s : State). Drops change old.files s.files) (sym is.1.1) drops
