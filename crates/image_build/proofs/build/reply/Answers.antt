use Rattle.std.proofs.Common.{Bool, rules, subst, sym}
use Rattle.boot_machine.specs.Prelude.{TakesAtMost, seen}
use Rattle.image_writer.specs.Sourced.{planned_image}
use Rattle.image_build.specs.Planning.{measuring_length}
use Rattle.boot_machine.proofs.Reading.{looks_none}
use Rattle.image_build.proofs.Planning.{line_said, values_behind}
use Rattle.image_build.proofs.build.reply.Goals as goal

pub returns-in_err-text-clause-looks : goal.returns-in_err-text-clause-looks
returns-in_err-text-clause-looks g c = looks_none (g.met.M.Machine.only_now c.args.machine.now) (search rules)

pub returns-then-not-measure-clause-looks : goal.returns-then-not-measure-clause-looks
returns-then-not-measure-clause-looks g c = looks_none (g.met.M.Machine.only_now c.args.machine.now) (search rules)

pub returns-then-not-measure-clause-says : goal.returns-then-not-measure-clause-says
returns-then-not-measure-clause-says g c told on =
    line_said (seen (g.M.Machine.state c.args.machine.now)) c.args.build.now c.args.measure c.image_length.result c.in_ok-text.text.items on.sourced
    c.image_length.ensures c.in_ok-text.ensures c.if-not-measure.true

pub returns-clause-says : goal.returns-clause-says
returns-clause-says g c told on =
    values_behind (seen (g.M.Machine.state c.args.machine.now)) c.args.build.now c.args.measure c.image_length.result c.in_ok-text.text.items
    c.in_ok-values.values.items c.extend_from_slice.new.self.items on.sourced c.image_length.ensures c.in_ok-text.ensures
    c.if-not-measure.false (c.in_ok-values.ensures.says told on) (search rules)

pub returns-in_err-values-clause-taken : goal.returns-in_err-values-clause-taken
returns-in_err-values-clause-taken g c told on =
    let image = planned_image c.args.build.now.image.plan c.args.build.now.image.sources (seen (g.M.Machine.state c.args.machine.now)) in
    subst
    (λ (m : Bool). TakesAtMost (measuring_length m image) (g.M.Machine.taken c.args.machine.now) (g.M.Machine.taken c.planned_values.new.machine))
    (sym c.if-not-measure.false) (c.planned_values.ensures.taken told on)

pub returns-in_err-extend_from_slice-clause-taken : goal.returns-in_err-extend_from_slice-clause-taken
returns-in_err-extend_from_slice-clause-taken g c told on =
    let image = planned_image c.args.build.now.image.plan c.args.build.now.image.sources (seen (g.M.Machine.state c.args.machine.now)) in
    subst
    (λ (m : Bool). TakesAtMost (measuring_length m image) (g.M.Machine.taken c.args.machine.now) (g.M.Machine.taken c.planned_values.new.machine))
    (sym c.if-not-measure.false) (c.planned_values.ensures.taken told on)

pub returns-clause-taken : goal.returns-clause-taken
returns-clause-taken g c told on =
    let image = planned_image c.args.build.now.image.plan c.args.build.now.image.sources (seen (g.M.Machine.state c.args.machine.now)) in
    subst
    (λ (m : Bool). TakesAtMost (measuring_length m image) (g.M.Machine.taken c.args.machine.now) (g.M.Machine.taken c.planned_values.new.machine))
    (sym c.if-not-measure.false) (c.planned_values.ensures.taken told on)
