use Rattle.std.proofs.Common.{◌≡◌, inl}
use Rattle.std.specs.FinMap as map
use Rattle.boot_machine.specs.Prelude.{recovered_view}
use Rattle.boot_machine.proofs.Recovering.{calm-removed, recovered_view-drop_intent}
use Rattle.install_steps.proofs.StepLemmas.{steps_part, ok_both}
use Rattle.install_steps.proofs.recovery.drop_intent.Goals as goal

pub unlink_synced-requires-clause-there : goal.unlink_synced-requires-clause-there
unlink_synced-requires-clause-there g c told = rw c.requires.at_intent (c.requires.there told)

pub returns-clause-step : goal.returns-clause-step
returns-clause-step g c told firm =
    let s = g.M.Machine.state c.args.machine.now in
    let is : recovered_view (map.remove s.files c.args.intent.now) ≡ recovered_view s.files = rw c.requires.at_intent (recovered_view-drop_intent s.files (c.requires.whole told)) in
    steps_part g.M.Machine.time g.M.Machine.state (recovered_view s.files) _ c.args.machine.now c.unlink_synced.new.machine (inl is) (c.unlink_synced.ensures.step told firm)

pub returns-clause-ready : goal.returns-clause-ready
returns-clause-ready g c = ok_both c.unlink_synced.result c.unlink_synced.ensures.files c.unlink_synced.ensures.one (λ removed one told. record {
  one = one told;
  rested = rw (removed told, c.requires.at_intent) (calm-removed (g.M.Machine.state c.args.machine.now).files);
})
