use Rattle.std.proofs.Common.{ℕ, refl, subst, rules, arith, replicate}
use Rattle.install_steps.specs.Appends.{IsGrown}
use Rattle.install_steps.proofs.Appending.{appends_none, appends_on, appends_failed, appends-there}
use Rattle.install_steps.specs.proofs.AppendLaws.{grown_none, grown_on, grown_as}
use Rattle.image_writer.proofs.Filled.{zeros_more}
use Rattle.image_writer.proofs.append.append_zeros.Goals as goal

pub loop-done-init : goal.loop-done-init
loop-done-init g c = record {
  within = omega arith;
  appends = appends_none (g.met.M.Machine.only_now c.args.machine.now) refl;
  grown = λ told. grown_none c.args.temp.now (g.M.Machine.state c.args.machine.now);
  taken = λ told. refl;
}

pub append-requires : goal.append-requires
append-requires g c = record {
  there = appends-there c.loop-done.invariant.appends c.requires.there;
}

pub returns-in_err-append-clause-appends : goal.returns-in_err-append-clause-appends
returns-in_err-append-clause-appends g c = appends_failed c.from_residual.result c.from_residual.ensures.0 c.loop-done.invariant.appends c.in_err-append.ensures.appends

pub loop-done-preserved : goal.loop-done-preserved
loop-done-preserved g c = record {
  within = search rules;
  appends = appends_on c.loop-done.invariant.appends c.in_ok-append.ensures.appends;
  grown = λ told.
      grown_as _ _ _ _ _
      (zeros_more c.args.zeros.now c.loop-done.done c.min-room.result c.requires.zeros (omega arith))
      (grown_on c.args.temp.now _ _ _ _ _ (c.loop-done.invariant.grown told) (c.in_ok-append.ensures.grows told));
  taken = λ told. omega (arith, c.loop-done.invariant.taken told, c.in_ok-append.ensures.taken told);
}

pub returns-clause-grows : goal.returns-clause-grows
returns-clause-grows g c told =
    subst (λ (n : ℕ). IsGrown c.args.temp.now (replicate n 0) (g.M.Machine.state c.args.machine.now) (g.M.Machine.state c.loop-done.machine))
    (omega arith) (c.loop-done.invariant.grown told)
