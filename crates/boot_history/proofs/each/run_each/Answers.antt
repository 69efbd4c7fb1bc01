use Rattle.std.proofs.Common.{map, string_bytes, ◌∙◌, arith}
use Rattle.std.proofs.Math.ListN.{length-set}
use Rattle.boot_history.proofs.Pushing.{IsRunBy, causes_next, mapped_next, one_longer, status_next}
use Rattle.boot_history.proofs.each.run_each.Goals as goal

pub loop-index-preserved : goal.loop-index-preserved
loop-index-preserved g c = (
  length-set c.loop-index.statuses c.loop-index.index c.run.result ∙ c.loop-index.invariant.0,
  causes_next c.loop-index.statuses c.loop-index.index c.run.result _ _ _ (omega arith) c.loop-index.invariant.1
      c.run.ensures.causes,
  λ told firm.
      let before = c.loop-index.invariant.2 told firm in
      let mid = g.M.Machine.state c.loop-index.machine in
      let new = g.M.Machine.state c.run.new.machine in
      let words = map string_bytes c.index-calls-index.result.items in
      let by : IsRunBy words c.run.result mid new = record {
        one = c.run.ensures.status;
        leads = c.run.ensures.leads told before.0;
        refused = c.run.ensures.refused told before.0;
        fits = c.run.ensures.fits;
        input = c.run.ensures.input told;
      } in (
        c.run.ensures.firm told before.0,
        one_longer _ _ _ _ (g.M.Machine.state c.args.machine.now) mid new words c.run.result
            (mapped_next (λ words. map string_bytes words.items) c.args.calls.now c.loop-index.index
            c.index-calls-index.result c.loop-index-test.true c.index-calls-index.is)
            (status_next c.loop-index.statuses c.loop-index.index c.run.result (omega arith))
            before.1 by,
      ),
)
