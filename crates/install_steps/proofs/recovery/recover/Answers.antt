use Rattle.std.proofs.Common.{rules}
use Rattle.install_steps.proofs.RecoverLemmas.{recovers_on, recovers_not, settled_now, same_all, same_from}
use Rattle.install_steps.proofs.StepLemmas.{ok_any}
use Rattle.install_steps.proofs.QuietLemmas.{alone_by, quiet_of, quiet_then}
use Rattle.install_steps.proofs.recovery.recover.Goals as goal

pub returns-in_err-settle-clause-recovers : goal.returns-in_err-settle-clause-recovers
returns-in_err-settle-clause-recovers g c told firm =
    recovers_not g.M.Machine.time g.M.Machine.state c.args.machine.now c.settle.new.machine c.settle.new.machine (c.settle.ensures.moments told) firm (c.in_err-settle.ensures.same told)

pub returns-in_err-settle-clause-same : goal.returns-in_err-settle-clause-same
returns-in_err-settle-clause-same g c told settled =
    same_all g.M.Machine.time g.M.Machine.state c.args.machine.now c.settle.new.machine c.settle.new.machine settled (returns-in_err-settle-clause-recovers g c told settled.firm).moments

pub returns-clause-recovers : goal.returns-clause-recovers
returns-clause-recovers g c told firm =
    recovers_on g.M.Machine.time g.M.Machine.state c.args.machine.now c.settle.new.machine c.finish_left.new.machine
    (c.settle.ensures.moments told) (c.settle.ensures.files told) (c.settle.ensures.alone.keeps told).printed
    (c.finish_left.ensures.step told (c.settle.ensures.firm told firm)) (c.in_ok-settle.ensures.one told)
    (λ t m le image. g.met.M.Machine.counts_now c.finish_left.new.machine t m told le image)

pub returns-clause-same : goal.returns-clause-same
returns-clause-same g c told settled =
    same_all g.M.Machine.time g.M.Machine.state c.args.machine.now c.settle.new.machine c.finish_left.new.machine settled (returns-clause-recovers g c told settled.firm).moments

pub returns-clause-settled : goal.returns-clause-settled
returns-clause-settled g c = ok_any c.finish_left.result (λ told firm.
    settled_now g.M.Machine.time g.M.Machine.state c.args.machine.now c.settle.new.machine c.finish_left.new.machine
    (c.settle.ensures.moments told) (c.settle.ensures.files told) (c.settle.ensures.alone.keeps told).printed
    (c.finish_left.ensures.step told (c.settle.ensures.firm told firm))
    (λ t m le image. g.met.M.Machine.counts_now c.finish_left.new.machine t m told le image))

pub returns-clause-synced : goal.returns-clause-synced
returns-clause-synced g c = ok_any c.finish_left.result (λ told firm.
    same_from g.M.Machine.time g.M.Machine.state c.args.machine.now c.settle.new.machine c.finish_left.new.machine
    (c.settle.ensures.moments told) (c.settle.ensures.files told) (c.settle.ensures.alone.keeps told).printed
    (c.finish_left.ensures.step told (c.settle.ensures.firm told firm)) (c.in_ok-settle.ensures.one told))

pub returns-in_err-settle-clause-alone : goal.returns-in_err-settle-clause-alone
returns-in_err-settle-clause-alone g c = alone_by (λ told.
    quiet_of c.settle.ensures.alone told) (search rules)

pub returns-clause-alone : goal.returns-clause-alone
returns-clause-alone g c = alone_by (λ told.
    let settled = quiet_of c.settle.ensures.alone told in
    quiet_then _ _ _ _ _ settled (quiet_of c.finish_left.ensures.alone told)) (search rules)
