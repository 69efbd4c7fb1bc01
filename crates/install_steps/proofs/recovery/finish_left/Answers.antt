use Rattle.std.proofs.Common.{◌≡◌, IsTrue, sym, ap, ◌∙◌, None, rules, [], option_map}
use Rattle.boot_base.specs.Intents.{names_of}
use Rattle.boot_machine.specs.Prelude.{intent_names, recovered_view, IsFirm}
use Rattle.boot_machine.proofs.Going.{During, goes-read}
use Rattle.boot_machine.proofs.Recovering.{whole-unread}
use Rattle.install_steps.specs.Steps.{StepsTo}
use Rattle.install_steps.proofs.MachineLemmas.{only_here, quiet_here, starts_same}
use Rattle.install_steps.proofs.QuietLemmas.{Quiet, alone_by, quiet-read, quiet_of, quiet_reads, quiet_then}
use Rattle.install_steps.proofs.StepLemmas.{Same, goes-reads, steps_kept, steps_same}
use Rattle.install_steps.proofs.recovery.finish_left.Given as given
use Rattle.install_steps.proofs.recovery.finish_left.Goals.{After-drop_intent, After-drop_intent-2, After-drop_left, After-left_names, After-size}
use Rattle.install_steps.proofs.recovery.finish_left.Goals as goal

module _ (g : given.Over) where
  open g.M.Machine use {tells, time, state}

  -- boot sees the same, while two reads are made
  looked : (c : After-size g) → IsTrue tells → IsFirm (state c.args.machine.now)
      → During time state (Same (state c.args.machine.now)) c.args.machine.now c.size.new.self
  looked c told firm =
      let start = starts_same g.met.M.Machine told c.args.machine.now firm (c.requires.one told) in
      goes-read _ _ _ _ _ _ start (c.size.ensures.moments told) (c.size.ensures.row told).same

  named : (c : After-left_names g) → IsTrue tells → IsFirm (state c.args.machine.now)
      → During time state (Same (state c.args.machine.now)) c.args.machine.now c.left_names.new.machine
  named c told firm =
      let start = starts_same g.met.M.Machine told c.args.machine.now firm (c.requires.one told) in
      let looked = goes-read _ _ _ _ _ _ start (c.size.ensures.moments told) (c.size.ensures.row told).same in
      goes-reads _ _ _ _ _ _ looked (c.left_names.ensures.looks.reads told)

  -- and of a part behind them that it sees nothing of
  part : (c : After-left_names g) → IsTrue tells → IsFirm (state c.args.machine.now) → (new : g.row.M.Denot)
      → (IsFirm (state c.left_names.new.machine)
      → StepsTo time state (recovered_view (state c.left_names.new.machine).files) c.left_names.new.machine new)
      → StepsTo time state (recovered_view (state c.args.machine.now).files) c.args.machine.now new
  part c told firm new stepped =
      let named = named c told firm in
      let first = steps_same time state (recovered_view (state c.args.machine.now).files) _ _ named in
      steps_kept _ _ _ _ _ first named.stands.printed (stepped first.firm)

  quiet_looked : (c : After-size g) → IsTrue tells → Quiet time state [] c.args.machine.now c.size.new.self
  quiet_looked c told =
      quiet-read _ _ _ _ _ (quiet_here g.met.M.Machine told _ []) (only_here g.met.M.Machine told _) (c.size.ensures.moments told) (c.size.ensures.row told).same

  quiet_named : (c : After-left_names g) → IsTrue tells → Quiet time state [] c.args.machine.now c.left_names.new.machine
  quiet_named c told =
      let looked = quiet-read _ _ _ _ _ (quiet_here g.met.M.Machine told _ []) (only_here g.met.M.Machine told _) (c.size.ensures.moments told) (c.size.ensures.row told).same in
      quiet_reads _ _ _ _ _ looked (c.left_names.ensures.looks.reads told)

pub returns-in_err-size-clause-step : goal.returns-in_err-size-clause-step
returns-in_err-size-clause-step g c told firm =
    steps_same _ _ _ _ _ (looked g (goal.at.returns-in_err-size-clause-step g c).After-size told firm)

pub returns-in_default-clause-step : goal.returns-in_default-clause-step
returns-in_default-clause-step g c told firm =
    steps_same _ _ _ _ _ (looked g (goal.at.returns-in_default-clause-step g c).After-size told firm)

pub returns-in_err-names-clause-step : goal.returns-in_err-names-clause-step
returns-in_err-names-clause-step g c told firm =
    steps_same _ _ _ _ _ (named g (goal.at.returns-in_err-names-clause-step g c).After-left_names told firm)

pub drop_intent-requires-clause-whole : goal.drop_intent-requires-clause-whole
drop_intent-requires-clause-whole g c told =
    let none : None ≡ intent_names (g.M.Machine.state c.size.new.self).files = ap (option_map names_of) (sym c.in_default-2.is) ∙ c.in_ok-names.ensures.names told in
    rw ((c.left_names.ensures.looks.reads told).same) (whole-unread _ (sym none))

pub returns-in_err-drop_intent-clause-step : goal.returns-in_err-drop_intent-clause-step
returns-in_err-drop_intent-clause-step g c told firm =
    part g (goal.at.returns-in_err-drop_intent-clause-step g c).After-left_names told firm _ (c.drop_intent.ensures.step told)

pub returns-in_default-2-clause-step : goal.returns-in_default-2-clause-step
returns-in_default-2-clause-step g c told firm =
    part g (goal.at.returns-in_default-2-clause-step g c).After-left_names told firm _ (c.drop_intent.ensures.step told)

pub returns-in_err-drop_left-clause-step : goal.returns-in_err-drop_left-clause-step
returns-in_err-drop_left-clause-step g c told firm =
    part g (goal.at.returns-in_err-drop_left-clause-step g c).After-left_names told firm _ (c.drop_left.ensures.step told)

pub returns-in_err-drop_intent-2-clause-step : goal.returns-in_err-drop_intent-2-clause-step
returns-in_err-drop_intent-2-clause-step g c told firm =
    let names = (goal.at.returns-in_err-drop_intent-2-clause-step g c).After-left_names in
    let left = part g names told firm _ (c.drop_left.ensures.step told) in
    let printed = (c.drop_left.ensures.alone.keeps told).printed ∙ (quiet_named g names told).keeps.printed in
    steps_kept _ _ _ _ _ left printed (c.drop_intent-2.ensures.step told left.firm)

pub returns-clause-step : goal.returns-clause-step
returns-clause-step g c told firm =
    let names = (goal.at.returns-clause-step g c).After-left_names in
    let left = part g names told firm _ (c.drop_left.ensures.step told) in
    let printed = (c.drop_left.ensures.alone.keeps told).printed ∙ (quiet_named g names told).keeps.printed in
    steps_kept _ _ _ _ _ left printed (c.drop_intent-2.ensures.step told left.firm)

pub returns-in_err-size-clause-alone : goal.returns-in_err-size-clause-alone
returns-in_err-size-clause-alone g c =
    alone_by (quiet_looked g (goal.at.returns-in_err-size-clause-alone g c).After-size) (search rules)

pub returns-in_default-clause-alone : goal.returns-in_default-clause-alone
returns-in_default-clause-alone g c =
    alone_by (quiet_looked g (goal.at.returns-in_default-clause-alone g c).After-size) (search rules)

pub returns-in_err-names-clause-alone : goal.returns-in_err-names-clause-alone
returns-in_err-names-clause-alone g c =
    alone_by (quiet_named g (goal.at.returns-in_err-names-clause-alone g c).After-left_names) (search rules)

pub returns-in_err-drop_left-clause-alone : goal.returns-in_err-drop_left-clause-alone
returns-in_err-drop_left-clause-alone g c = alone_by (λ told.
    let named = quiet_named g (goal.at.returns-in_err-drop_left-clause-alone g c).After-left_names told in
    quiet_then _ _ _ _ _ named (quiet_of c.drop_left.ensures.alone told)) (search rules)

pub returns-in_err-drop_intent-2-clause-alone : goal.returns-in_err-drop_intent-2-clause-alone
returns-in_err-drop_intent-2-clause-alone g c = alone_by (λ told.
    let named = quiet_named g (goal.at.returns-in_err-drop_intent-2-clause-alone g c).After-left_names told in
    let dropped = quiet_then _ _ _ _ _ named (quiet_of c.drop_left.ensures.alone told) in
    quiet_then _ _ _ _ _ dropped (quiet_of c.drop_intent-2.ensures.alone told)) (search rules)

pub returns-clause-alone : goal.returns-clause-alone
returns-clause-alone g c = alone_by (λ told.
    let named = quiet_named g (goal.at.returns-clause-alone g c).After-left_names told in
    let dropped = quiet_then _ _ _ _ _ named (quiet_of c.drop_left.ensures.alone told) in
    quiet_then _ _ _ _ _ dropped (quiet_of c.drop_intent-2.ensures.alone told)) (search rules)

pub returns-in_err-drop_intent-clause-alone : goal.returns-in_err-drop_intent-clause-alone
returns-in_err-drop_intent-clause-alone g c = alone_by (λ told.
    let named = quiet_named g (goal.at.returns-in_err-drop_intent-clause-alone g c).After-left_names told in
    quiet_then _ _ _ _ _ named (quiet_of c.drop_intent.ensures.alone told)) (search rules)

pub returns-in_default-2-clause-alone : goal.returns-in_default-2-clause-alone
returns-in_default-2-clause-alone g c = alone_by (λ told.
    let named = quiet_named g (goal.at.returns-in_default-2-clause-alone g c).After-left_names told in
    quiet_then _ _ _ _ _ named (quiet_of c.drop_intent.ensures.alone told)) (search rules)
