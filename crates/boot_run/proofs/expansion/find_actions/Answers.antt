use Rattle.std.proofs.Common.{◌≡◌, ◌∙◌, IsTrue, List, ap, bytes_eq, sym, subst, true, All}
use Rattle.std.specs.List.{IsDistinct}
use Rattle.boot_base.specs.Paths.{Path}
use Rattle.boot_machine.specs.Prelude.{HasOneCandidate, IsFirm, IsRested, OnlyReads, State, has, view}
use Rattle.boot_machine.proofs.Reading.{reads_on}
use Rattle.install_steps.specs.Recovery.{RecoversTo, SameFrom}
use Rattle.install_steps.specs.Steps.{Keeps, KeepsTempsBut, Lacks, NoNewTemp}
use Rattle.tool_words.specs.declared.action.Action.{Action}
use Rattle.boot_commands.specs.Sweeps.{FindsSwept, KeepsUnswept}
use Rattle.boot_commands.proofs.SweptTemps.{swept_all}
use Rattle.boot_run.proofs.Expanding.{recovers_more, same_more}
use Rattle.boot_run.proofs.Sweeping.{kept_so_far, keeps_on, none_new, recovers_swept, same_swept, same_view, stands_on, unswept_kept}
use Rattle.boot_run.proofs.expansion.find_actions.Given as given
use Rattle.boot_run.proofs.expansion.find_actions.Goals.{After-expand, After-find_leftovers, After-sweep}
use Rattle.boot_run.proofs.expansion.find_actions.Goals as goal

module _ (g : given.Over) where
  open g.M.Machine use {tells, time, state}

  -- ---- behind the reads for the actions

  found_recovers : (c : After-expand g) → IsTrue tells → IsFirm (state c.args.machine.now) → RecoversTo time state c.args.machine.now c.expand.new.machine
  found_recovers c told firm =
      recovers_more time state c.args.machine.now c.recover_rename.new.machine c.expand.new.machine (c.recover_rename.ensures.recovers told firm)
      (g.met.M.Machine.sound c.recover_rename.new.machine told) (c.in_ok-recover_rename.ensures.one told) (c.recover_rename.ensures.keeps told).printed (c.expand.ensures.looks.reads told)

  -- ---- behind those for the temporary files too

  reads : (c : After-find_leftovers g) → IsTrue tells → OnlyReads time state c.recover_rename.new.machine c.find_leftovers.new.machine
  reads c told = reads_on time state c.recover_rename.new.machine c.expand.new.machine c.find_leftovers.new.machine
      (c.expand.ensures.looks.reads told) (c.find_leftovers.ensures.looks.reads told)

  listed_recovers : (c : After-find_leftovers g) → IsTrue tells → IsFirm (state c.args.machine.now) → RecoversTo time state c.args.machine.now c.find_leftovers.new.machine
  listed_recovers c told firm =
      recovers_more time state c.args.machine.now c.recover_rename.new.machine c.find_leftovers.new.machine (c.recover_rename.ensures.recovers told firm)
      (g.met.M.Machine.sound c.recover_rename.new.machine told) (c.in_ok-recover_rename.ensures.one told) (c.recover_rename.ensures.keeps told).printed (reads c told)

  -- ---- and behind the sweep

  sweep_reads : (c : After-sweep g) → IsTrue tells → OnlyReads time state c.recover_rename.new.machine c.find_leftovers.new.machine
  sweep_reads c told = reads_on time state c.recover_rename.new.machine c.expand.new.machine c.find_leftovers.new.machine
      (c.expand.ensures.looks.reads told) (c.find_leftovers.ensures.looks.reads told)

  before : (c : After-sweep g) → IsTrue tells → IsFirm (state c.args.machine.now) → RecoversTo time state c.args.machine.now c.find_leftovers.new.machine
  before c told firm =
      recovers_more time state c.args.machine.now c.recover_rename.new.machine c.find_leftovers.new.machine (c.recover_rename.ensures.recovers told firm)
      (g.met.M.Machine.sound c.recover_rename.new.machine told) (c.in_ok-recover_rename.ensures.one told) (c.recover_rename.ensures.keeps told).printed (sweep_reads c told)

  same_before : (c : After-sweep g) → IsTrue tells → IsFirm (state c.args.machine.now) → SameFrom time state c.args.machine.now c.find_leftovers.new.machine
  same_before c told firm =
      same_more time state c.args.machine.now c.recover_rename.new.machine c.find_leftovers.new.machine (c.recover_rename.ensures.recovers told firm)
      (g.met.M.Machine.sound c.recover_rename.new.machine told) (c.in_ok-recover_rename.ensures.one told) (c.recover_rename.ensures.keeps told).printed (sweep_reads c told)
      (c.in_ok-recover_rename.ensures.synced told firm)

  printed_before : (c : After-sweep g) → IsTrue tells → (state c.find_leftovers.new.machine).printed ≡ (state c.args.machine.now).printed
  printed_before c told = ap (λ (s : State). s.printed) (sweep_reads c told).same ∙ (c.recover_rename.ensures.keeps told).printed

  swept_recovers : (c : After-sweep g) → IsTrue tells → IsFirm (state c.args.machine.now) → RecoversTo time state c.args.machine.now c.sweep.new.machine
  swept_recovers c told firm =
      let found = before c told firm in
      recovers_swept time state c.args.machine.now c.find_leftovers.new.machine c.sweep.new.machine found
      (same_before c told firm) (printed_before c told) (c.sweep.ensures.step told found.firm)
      (λ t m le image. g.met.M.Machine.counts_now c.sweep.new.machine t m told le image)

  swept_same : (c : After-sweep g) → IsTrue tells → IsFirm (state c.args.machine.now) → SameFrom time state c.args.machine.now c.sweep.new.machine
  swept_same c told firm =
      let found = before c told firm in
      same_swept time state c.args.machine.now c.find_leftovers.new.machine c.sweep.new.machine found
      (same_before c told firm) (printed_before c told) (c.sweep.ensures.step told found.firm)

  swept_keeps : (c : After-sweep g) → IsTrue tells → Keeps (state c.args.machine.now) (state c.sweep.new.machine)
  swept_keeps c told = keeps_on (state c.args.machine.now) (state c.recover_rename.new.machine) (state c.find_leftovers.new.machine) (state c.sweep.new.machine)
      (c.recover_rename.ensures.keeps told) (sweep_reads c told).same (c.sweep.ensures.alone.keeps told)

  listed_there : (c : After-sweep g) → IsTrue tells → All (λ temp. has (state c.find_leftovers.new.machine).files temp ≡ true) c.in_ok-temps.temps.items
  listed_there c told =
      subst (λ (s : State). All (λ temp. has s.files temp ≡ true) c.in_ok-temps.temps.items) (sym (c.find_leftovers.ensures.looks.reads told).same) (c.in_ok-temps.ensures.there told)

  swept_temps : (c : After-sweep g) → IsTrue tells → NoNewTemp (state c.args.machine.now) (state c.sweep.new.machine)
  swept_temps c told q temp there =
      c.recover_rename.ensures.temps told q temp
      (subst (λ (s : State). has s.files q ≡ true) (sweep_reads c told).same
      (none_new c.in_ok-temps.temps.items (state c.find_leftovers.new.machine) (state c.sweep.new.machine) (listed_there c told)
      (subst (λ (temps : List Path). KeepsTempsBut temps (state c.find_leftovers.new.machine).files (state c.sweep.new.machine).files) c.as_slice-2.ensures.value (c.sweep.ensures.alone.temps told)) q temp there))

  swept_spares : (c : After-sweep g) → IsTrue tells → KeepsUnswept c.args.command.now (state c.args.machine.now).files (state c.sweep.new.machine).files
  swept_spares c told =
      unswept_kept c.args.command.now c.in_ok-temps.temps.items (state c.args.machine.now) (state c.recover_rename.new.machine) (state c.find_leftovers.new.machine) (state c.sweep.new.machine)
      c.in_ok-temps.ensures.within (c.recover_rename.ensures.spares told) (sweep_reads c told).same
      (subst (λ (temps : List Path). KeepsTempsBut temps (state c.find_leftovers.new.machine).files (state c.sweep.new.machine).files) c.as_slice-2.ensures.value (c.sweep.ensures.alone.temps told))

pub sweep-requires-clause-ready : goal.sweep-requires-clause-ready
sweep-requires-clause-ready g c told =
    let same = (reads g (goal.at.sweep-requires-clause-ready g c).After-find_leftovers told).same in
    record {
      one = subst HasOneCandidate (sym same) (c.in_ok-recover_rename.ensures.one told);
      rested = subst IsRested (sym same) (c.in_ok-recover_rename.ensures.rests told);
    }

pub sweep-requires-clause-distinct : goal.sweep-requires-clause-distinct
sweep-requires-clause-distinct g c = subst (IsDistinct bytes_eq) (sym c.as_slice-2.ensures.value) c.in_ok-temps.ensures.distinct

pub sweep-requires-clause-there : goal.sweep-requires-clause-there
sweep-requires-clause-there g c told =
    subst (λ (temps : List Path). All (λ temp. has (g.M.Machine.state c.find_leftovers.new.machine).files temp ≡ true) temps) (sym c.as_slice-2.ensures.value)
    (subst (λ (s : State). All (λ temp. has s.files temp ≡ true) c.in_ok-temps.temps.items) (sym (c.find_leftovers.ensures.looks.reads told).same) (c.in_ok-temps.ensures.there told))

-- ---- it wasn't found what the command comes to

pub returns-in_err-actions-clause-recovers : goal.returns-in_err-actions-clause-recovers
returns-in_err-actions-clause-recovers g c = found_recovers g (goal.at.returns-in_err-actions-clause-recovers g c).After-expand

pub returns-in_err-actions-clause-keeps : goal.returns-in_err-actions-clause-keeps
returns-in_err-actions-clause-keeps g c told = subst (Keeps (g.M.Machine.state c.args.machine.now)) (sym (c.expand.ensures.looks.reads told).same) (c.recover_rename.ensures.keeps told)

pub returns-in_err-actions-clause-temps : goal.returns-in_err-actions-clause-temps
returns-in_err-actions-clause-temps g c told = subst (NoNewTemp (g.M.Machine.state c.args.machine.now)) (sym (c.expand.ensures.looks.reads told).same) (c.recover_rename.ensures.temps told)

pub returns-in_err-actions-clause-spares : goal.returns-in_err-actions-clause-spares
returns-in_err-actions-clause-spares g c told =
    kept_so_far c.args.command.now (g.M.Machine.state c.args.machine.now) (g.M.Machine.state c.recover_rename.new.machine) (g.M.Machine.state c.expand.new.machine)
    (c.recover_rename.ensures.spares told) (c.expand.ensures.looks.reads told).same

-- ---- nor which temporary files go with it

pub returns-in_err-temps-clause-recovers : goal.returns-in_err-temps-clause-recovers
returns-in_err-temps-clause-recovers g c = listed_recovers g (goal.at.returns-in_err-temps-clause-recovers g c).After-find_leftovers

pub returns-in_err-temps-clause-keeps : goal.returns-in_err-temps-clause-keeps
returns-in_err-temps-clause-keeps g c told =
    subst (Keeps (g.M.Machine.state c.args.machine.now)) (sym (reads g (goal.at.returns-in_err-temps-clause-keeps g c).After-find_leftovers told).same) (c.recover_rename.ensures.keeps told)

pub returns-in_err-temps-clause-temps : goal.returns-in_err-temps-clause-temps
returns-in_err-temps-clause-temps g c told =
    subst (NoNewTemp (g.M.Machine.state c.args.machine.now)) (sym (reads g (goal.at.returns-in_err-temps-clause-temps g c).After-find_leftovers told).same) (c.recover_rename.ensures.temps told)

pub returns-in_err-temps-clause-spares : goal.returns-in_err-temps-clause-spares
returns-in_err-temps-clause-spares g c told =
    kept_so_far c.args.command.now (g.M.Machine.state c.args.machine.now) (g.M.Machine.state c.recover_rename.new.machine) (g.M.Machine.state c.find_leftovers.new.machine)
    (c.recover_rename.ensures.spares told) (reads g (goal.at.returns-in_err-temps-clause-spares g c).After-find_leftovers told).same

-- ---- the disk failed while they were taken away

pub returns-in_err-sweep-clause-recovers : goal.returns-in_err-sweep-clause-recovers
returns-in_err-sweep-clause-recovers g c = swept_recovers g (goal.at.returns-in_err-sweep-clause-recovers g c).After-sweep

pub returns-in_err-sweep-clause-keeps : goal.returns-in_err-sweep-clause-keeps
returns-in_err-sweep-clause-keeps g c = swept_keeps g (goal.at.returns-in_err-sweep-clause-keeps g c).After-sweep

pub returns-in_err-sweep-clause-temps : goal.returns-in_err-sweep-clause-temps
returns-in_err-sweep-clause-temps g c = swept_temps g (goal.at.returns-in_err-sweep-clause-temps g c).After-sweep

pub returns-in_err-sweep-clause-spares : goal.returns-in_err-sweep-clause-spares
returns-in_err-sweep-clause-spares g c = swept_spares g (goal.at.returns-in_err-sweep-clause-spares g c).After-sweep

-- ---- they are gone

pub returns-clause-recovers : goal.returns-clause-recovers
returns-clause-recovers g c = swept_recovers g (goal.at.returns-clause-recovers g c).After-sweep

pub returns-clause-synced : goal.returns-clause-synced
returns-clause-synced g c = swept_same g (goal.at.returns-clause-synced g c).After-sweep

pub returns-clause-keeps : goal.returns-clause-keeps
returns-clause-keeps g c = swept_keeps g (goal.at.returns-clause-keeps g c).After-sweep

pub returns-clause-temps : goal.returns-clause-temps
returns-clause-temps g c = swept_temps g (goal.at.returns-clause-temps g c).After-sweep

pub returns-clause-spares : goal.returns-clause-spares
returns-clause-spares g c = swept_spares g (goal.at.returns-clause-spares g c).After-sweep

pub returns-clause-stands : goal.returns-clause-stands
returns-clause-stands g c told =
    let state = g.M.Machine.state in
    stands_on c.args.command.now c.in_ok-actions.actions.items (state c.recover_rename.new.machine) (state c.sweep.new.machine)
    (same_view c.args.command.now c.in_ok-temps.temps.items (state c.find_leftovers.new.machine).files (state c.sweep.new.machine).files c.in_ok-temps.ensures.within
    (subst (λ (temps : List Path). Lacks temps (state c.find_leftovers.new.machine).files (state c.sweep.new.machine).files) c.as_slice-2.ensures.value (c.in_ok-sweep.ensures.gone told))
    ∙ ap (λ (s : State). view s.files) (sweep_reads g (goal.at.returns-clause-stands g c).After-sweep told).same)
    (c.in_ok-actions.ensures.stands told)

pub returns-clause-swept : goal.returns-clause-swept
returns-clause-swept g c told =
    let state = g.M.Machine.state in
    let found = subst (λ (actions : List Action). FindsSwept c.args.command.now actions (state c.expand.new.machine).files c.in_ok-temps.temps.items) c.as_slice.ensures.value (c.in_ok-temps.ensures.all told) in
    swept_all c.args.command.now c.in_ok-actions.actions.items c.in_ok-temps.temps.items (state c.find_leftovers.new.machine).files (state c.sweep.new.machine).files
    (subst (λ (s : State). FindsSwept c.args.command.now c.in_ok-actions.actions.items s.files c.in_ok-temps.temps.items) (sym (c.find_leftovers.ensures.looks.reads told).same) found)
    (subst (λ (temps : List Path). Lacks temps (state c.find_leftovers.new.machine).files (state c.sweep.new.machine).files) c.as_slice-2.ensures.value (c.in_ok-sweep.ensures.gone told))
