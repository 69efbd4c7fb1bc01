use Rattle.std.proofs.Common.{rules, arith, refl, ap}
use Rattle.std.proofs.lemmas.List.Sums.{sum_by_more}
use Rattle.boot_machine.specs.Prelude.{State, contents, seen}
use Rattle.boot_machine.proofs.Reading.{reads_none, reads_on}
use Rattle.stub_replay.specs.declared.measurable.Measurable.{Measurable}
use Rattle.stub_replay.specs.Parts.{read_length}
use Rattle.stub_replay.proofs.Measuring.{measured_none, parts_more, between_after}
use Rattle.stub_replay.proofs.prediction.measure_all.Goals as goal

pub loop-part-init : goal.loop-part-init
loop-part-init g c = record {
  value = measured_none _ c.args.registers.now;
  reads = λ told. reads_none g.M.Machine.time g.M.Machine.state c.args.machine.now (λ m o left. g.met.M.Machine.only_now c.args.machine.now m o told left);
  counts = refl;
  taken = λ told. omega arith;
}

pub measure_part-requires-clause-between : goal.measure_part-requires-clause-between
measure_part-requires-clause-between g c =
    between_after c.loop-part.invariant.value.0 c.args.registers.now c.loop-part.registers c.requires.between c.loop-part.invariant.value.1

pub returns-in_err-measure_part-clause-looks : goal.returns-in_err-measure_part-clause-looks
returns-in_err-measure_part-clause-looks g c = record {
  reads = λ told. reads_on g.M.Machine.time g.M.Machine.state _ _ _ (c.loop-part.invariant.reads told) (c.measure_part.ensures.looks.reads told);
  counted = search rules;
}

pub loop-part-preserved : goal.loop-part-preserved
loop-part-preserved g c =
    let before = c.loop-part.invariant in
    let part = c.in_ok-measure_part.ensures in
    record {
      value = parts_more g.M.Machine.tells (contents (seen (g.M.Machine.state c.args.machine.now))) (contents (seen (g.M.Machine.state c.loop-part.machine)))
          c.args.parts.now c.loop-part.part-index c.part-item.result c.args.registers.now c.loop-part.registers c.measure_part.new.registers
          (λ told. ap (λ (s : State). contents (seen s)) (before.reads told).same) (omega arith) c.part-item.is before.value part.value;
      reads = λ told. reads_on g.M.Machine.time g.M.Machine.state _ _ _ (before.reads told) (c.measure_part.ensures.looks.reads told);
      counts = search rules;
      taken = λ told.
          omega (
            arith,
            before.taken told,
            part.taken told,
            ap (λ (p : Measurable). read_length p.content) c.part-item.is,
            sum_by_more (λ (p : Measurable). read_length p.content) c.args.parts.now c.loop-part.part-index c.part-item.result (omega arith),
          );
    }
