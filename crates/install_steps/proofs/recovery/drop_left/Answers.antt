use Rattle.std.proofs.Common.{◌≡◌, inl, true, false, ◌∙◌, rules, [], IsTrue}
use Rattle.std.specs.FinMap as map
use Rattle.boot_machine.specs.Prelude.{has, recovered_view, IsFirm}
use Rattle.boot_machine.proofs.Recovering.{intent_there, whole-first, whole-second, whole-removed, intent_kept, recovered_view-drop_left}
use Rattle.boot_machine.proofs.Going.{goes-read, During}
use Rattle.install_steps.proofs.StepLemmas.{steps_same, ok_then, Same, steps_behind}
use Rattle.install_steps.proofs.QuietLemmas.{alone_by, quiet-read, quiet_of, quiet_then, Quiet}
use Rattle.install_steps.proofs.MachineLemmas.{only_here, quiet_here, starts_same}
use Rattle.install_steps.proofs.recovery.drop_left.Given as given
use Rattle.install_steps.proofs.recovery.drop_left.Goals.{After-size, After-size-2}
use Rattle.install_steps.proofs.recovery.drop_left.Goals as goal

module _ (g : given.Over) where
  open g.M.Machine use {tells, time, state}

  -- boot sees the same, while one read is made, and a second one
  looked : (c : After-size g) → IsTrue tells → IsFirm (state c.args.machine.now)
      → During time state (Same (state c.args.machine.now)) c.args.machine.now c.size.new.self
  looked c told firm =
      let start = starts_same g.met.M.Machine told c.args.machine.now firm (c.requires.one told) in
      goes-read _ _ _ _ _ _ start (c.size.ensures.moments told) (c.size.ensures.row told).same

  looked_twice : (c : After-size-2 g) → IsTrue tells → IsFirm (state c.args.machine.now)
      → During time state (Same (state c.args.machine.now)) c.args.machine.now c.size-2.new.self
  looked_twice c told firm =
      let start = starts_same g.met.M.Machine told c.args.machine.now firm (c.requires.one told) in
      let looked = goes-read _ _ _ _ _ _ start (c.size.ensures.moments told) (c.size.ensures.row told).same in
      goes-read _ _ _ _ _ _ looked (c.size-2.ensures.moments told) (c.size-2.ensures.row told).same

  quiet_looked : (c : After-size g) → IsTrue tells → Quiet time state [] c.args.machine.now c.size.new.self
  quiet_looked c told =
      let start = quiet_here g.met.M.Machine told c.args.machine.now [] in
      quiet-read _ _ _ _ _ start (only_here g.met.M.Machine told _) (c.size.ensures.moments told) (c.size.ensures.row told).same

  quiet_twice : (c : After-size-2 g) → IsTrue tells → Quiet time state [] c.args.machine.now c.size-2.new.self
  quiet_twice c told =
      let here = only_here g.met.M.Machine told in
      let start = quiet_here g.met.M.Machine told c.args.machine.now [] in
      let looked = quiet-read _ _ _ _ _ start (here _) (c.size.ensures.moments told) (c.size.ensures.row told).same in
      quiet-read _ _ _ _ _ looked (here _) (c.size-2.ensures.moments told) (c.size-2.ensures.row told).same

pub returns-in_err-size-clause-step : goal.returns-in_err-size-clause-step
returns-in_err-size-clause-step g c told firm =
    steps_same _ _ _ _ _ (looked g (goal.at.returns-in_err-size-clause-step g c).After-size told firm)

pub returns-then-is_none-clause-step : goal.returns-then-is_none-clause-step
returns-then-is_none-clause-step g c told firm =
    steps_same _ _ _ _ _ (looked g (goal.at.returns-then-is_none-clause-step g c).After-size told firm)

pub returns-in_err-size-2-clause-step : goal.returns-in_err-size-2-clause-step
returns-in_err-size-2-clause-step g c told firm =
    steps_same _ _ _ _ _ (looked_twice g (goal.at.returns-in_err-size-2-clause-step g c).After-size-2 told firm)

pub returns-then-is_none-2-clause-step : goal.returns-then-is_none-2-clause-step
returns-then-is_none-2-clause-step g c told firm =
    steps_same _ _ _ _ _ (looked_twice g (goal.at.returns-then-is_none-2-clause-step g c).After-size-2 told firm)

pub returns-then-is_none-clause-whole : goal.returns-then-is_none-clause-whole
returns-then-is_none-clause-whole g c told =
    let s = g.M.Machine.state c.args.machine.now in
    let none : has s.files c.args.names.now.from ≡ false = search rules in
    rw ((c.size.ensures.row told).same) (whole-first s.files c.args.names.now.from c.args.names.now.to (c.requires.named told) none)

pub returns-then-is_none-clause-there : goal.returns-then-is_none-clause-there
returns-then-is_none-clause-there g c told =
    rw ((c.size.ensures.row told).same) (intent_there (g.M.Machine.state c.args.machine.now).files _ (c.requires.named told))

pub returns-then-is_none-2-clause-whole : goal.returns-then-is_none-2-clause-whole
returns-then-is_none-2-clause-whole g c told =
    let s = g.M.Machine.state c.args.machine.now in
    let none : has (g.M.Machine.state c.size.new.self).files c.args.names.now.to ≡ false = search rules in
    rw ((c.size-2.ensures.row told).same, (c.size.ensures.row told).same)
    (whole-second s.files c.args.names.now.from c.args.names.now.to (c.requires.named told) (rw (c.size.ensures.row told).same at none))

pub returns-then-is_none-2-clause-there : goal.returns-then-is_none-2-clause-there
returns-then-is_none-2-clause-there g c told =
    rw ((c.size-2.ensures.row told).same, (c.size.ensures.row told).same)
    (intent_there (g.M.Machine.state c.args.machine.now).files _ (c.requires.named told))

pub returns-clause-step : goal.returns-clause-step
returns-clause-step g c told firm =
    let m = (g.M.Machine.state c.args.machine.now).files in
    let same = (c.size-2.ensures.row told).same ∙ (c.size.ensures.row told).same in
    let looked = looked_twice g (goal.at.returns-clause-step g c).After-size-2 told firm in
    let first = steps_same g.M.Machine.time g.M.Machine.state (recovered_view m) _ _ looked in
    let there : has (g.M.Machine.state c.size.new.self).files c.args.names.now.to ≡ true = search rules in
    let is : recovered_view (map.remove (g.M.Machine.state c.size-2.new.self).files c.file-3.result.now) ≡ recovered_view m =
    rw (c.file-3.ensures.path, same) (recovered_view-drop_left m c.args.names.now.from c.args.names.now.to
    (c.requires.named told) (rw (c.size.ensures.row told).same at there)) in
    steps_behind _ _ _ _ _ _ _ first same (inl is) (c.unlink_synced.ensures.step told first.firm)

pub returns-clause-whole : goal.returns-clause-whole
returns-clause-whole g c = ok_then c.unlink_synced.result c.unlink_synced.ensures.files (λ removed told.
    let s = g.M.Machine.state c.args.machine.now in
    let same = (c.size-2.ensures.row told).same ∙ (c.size.ensures.row told).same in
    rw (removed told, c.file-3.ensures.path, same) (whole-removed s.files c.args.names.now.from c.args.names.now.to (c.requires.named told)))

pub returns-clause-there : goal.returns-clause-there
returns-clause-there g c = ok_then c.unlink_synced.result c.unlink_synced.ensures.files (λ removed told.
    let s = g.M.Machine.state c.args.machine.now in
    let same = (c.size-2.ensures.row told).same ∙ (c.size.ensures.row told).same in
    rw (removed told, c.file-3.ensures.path, same) (intent_kept s.files c.args.names.now.from c.args.names.now.to (c.requires.named told)))

pub returns-in_err-size-clause-alone : goal.returns-in_err-size-clause-alone
returns-in_err-size-clause-alone g c =
    alone_by (quiet_looked g (goal.at.returns-in_err-size-clause-alone g c).After-size) (search rules)

pub returns-then-is_none-clause-alone : goal.returns-then-is_none-clause-alone
returns-then-is_none-clause-alone g c =
    alone_by (quiet_looked g (goal.at.returns-then-is_none-clause-alone g c).After-size) (search rules)

pub returns-in_err-size-2-clause-alone : goal.returns-in_err-size-2-clause-alone
returns-in_err-size-2-clause-alone g c =
    alone_by (quiet_twice g (goal.at.returns-in_err-size-2-clause-alone g c).After-size-2) (search rules)

pub returns-then-is_none-2-clause-alone : goal.returns-then-is_none-2-clause-alone
returns-then-is_none-2-clause-alone g c =
    alone_by (quiet_twice g (goal.at.returns-then-is_none-2-clause-alone g c).After-size-2) (search rules)

pub returns-clause-alone : goal.returns-clause-alone
returns-clause-alone g c = alone_by (λ told.
    let looked = quiet_twice g (goal.at.returns-clause-alone g c).After-size-2 told in
    quiet_then _ _ _ _ _ looked (quiet_of c.unlink_synced.ensures.alone told)) (search rules)
