use Rattle.std.proofs.Common.{◌≡◌, IsTrue, arith, refl, rules, ap}
use Rattle.boot_machine.specs.Prelude.{State, contents}
use Rattle.boot_machine.proofs.Reading.{reads_none, reads_on}
use Rattle.stub_replay.proofs.Measuring.{measured_none}
use Rattle.stub_replay.proofs.Sections.{between_on, sections_more, sections_all}
use Rattle.stub_replay.proofs.Turns.{names_end, name_at, taken_more, taken_all}
use Rattle.stub_replay.proofs.file.measure_sections.Goals as goal

pub loop-name-init : goal.loop-name-init
loop-name-init g c = record {
  measured = measured_none (IsTrue g.M.Machine.tells) c.args.registers.now;
  reads = λ told. reads_none g.M.Machine.time g.M.Machine.state c.args.machine.now (λ m o left. g.met.M.Machine.only_now c.args.machine.now m o told left);
  counts = refl;
  taken = λ told. omega arith;
}

pub measure_section-requires-clause-between : goal.measure_section-requires-clause-between
measure_section-requires-clause-between g c =
    between_on (IsTrue g.M.Machine.tells) _ c.args.registers.now c.loop-name.registers c.requires.between c.loop-name.invariant.measured

pub returns-in_err-measure_section-clause-looks : goal.returns-in_err-measure_section-clause-looks
returns-in_err-measure_section-clause-looks g c = record {
  reads = λ told. reads_on g.M.Machine.time g.M.Machine.state _ _ _ (c.loop-name.invariant.reads told) (c.measure_section.ensures.looks.reads told);
  counted = search rules;
}

pub returns-in_err-measure_section-clause-taken : goal.returns-in_err-measure_section-clause-taken
returns-in_err-measure_section-clause-taken g c told =
    let before = c.loop-name.invariant in
    let file = contents (g.M.Machine.state c.args.machine.now).files c.args.path.now in
    let same = ap (λ (s : State). contents s.files c.args.path.now) (before.reads told).same in
    let at = name_at c.measured_names-name-items.result.now c.loop-name.name-index _ c.measured_names-name-items.ensures (omega arith) in
    taken_all file _ _ _ (taken_more file _ _ c.loop-name.name-index _ _ _ same at (before.taken told) (c.measure_section.ensures.taken told))

pub loop-name-preserved : goal.loop-name-preserved
loop-name-preserved g c =
    let before = c.loop-name.invariant in
    let section = c.in_ok-measure_section.ensures in
    let file = contents (g.M.Machine.state c.args.machine.now).files c.args.path.now in
    let same : IsTrue g.M.Machine.tells → contents (g.M.Machine.state c.loop-name.machine).files c.args.path.now ≡ file =
    λ told. ap (λ (s : State). contents s.files c.args.path.now) (before.reads told).same in
    let at = name_at c.measured_names-name-items.result.now c.loop-name.name-index _ c.measured_names-name-items.ensures (omega arith) in
    record {
      measured = sections_more (IsTrue g.M.Machine.tells) file _ _ c.loop-name.name-index c.args.registers.now c.loop-name.registers c.measure_section.new.registers same at before.measured section.value;
      reads = λ told. reads_on g.M.Machine.time g.M.Machine.state _ _ _ (before.reads told) (c.measure_section.ensures.looks.reads told);
      counts = search rules;
      taken = λ told. taken_more file _ _ c.loop-name.name-index _ _ _ (same told) at (before.taken told) (section.taken told);
    }

pub returns-clause-value : goal.returns-clause-value
returns-clause-value g c =
    sections_all (IsTrue g.M.Machine.tells) (contents (g.M.Machine.state c.args.machine.now).files c.args.path.now) c.loop-name.name-index c.args.registers.now c.loop-name.registers
    (names_end c.measured_names-name-items.result.now c.loop-name.name-index c.measured_names-name-items.ensures (omega arith)) c.loop-name.invariant.measured

pub returns-clause-taken : goal.returns-clause-taken
returns-clause-taken g c told = taken_all (contents (g.M.Machine.state c.args.machine.now).files c.args.path.now) c.loop-name.name-index _ _ (c.loop-name.invariant.taken told)
