use Rattle.std.proofs.Common.{rules, arith, refl}
use Rattle.folder_calls.proofs.Reading.{holds_none, holds_more}
use Rattle.folder_calls.proofs.reads.read_full.Goals as goal

pub loop-done-init : goal.loop-done-init
loop-done-init g c = record { long = refl; within = omega arith; holds = λ told. holds_none _ _ }

pub loop-done-preserved : goal.loop-done-preserved
loop-done-preserved g c = record {
  long = search rules;
  within = search rules;
  holds = λ told.
      holds_more _ _ _ c.args.at c.loop-done.done _ (c.loop-done.invariant.holds told) c.in_ok-count.ensures.front
      (c.in_ok-count.ensures.bytes told);
}
