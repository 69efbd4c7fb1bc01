use Rattle.std.proofs.Common.{sym, ◌∙◌, IsTrue, rules}
use Rattle.boot_machine.specs.Prelude.{contents, seen}
use Rattle.boot_machine.proofs.Reading.{looks_none}
use Rattle.pe_reader.specs.Prelude.{headers_of}
use Rattle.stub_replay.proofs.Sections.{section_none, section_some, section_long}
use Rattle.stub_replay.proofs.Shown.{shown_contents}
use Rattle.stub_replay.proofs.file.measure_section.Goals as goal

pub returns-in-None-clause-value : goal.returns-in-None-clause-value
returns-in-None-clause-value g c =
    let file = contents (g.M.Machine.state c.args.machine.now).files c.args.path.now in
    section_none (IsTrue g.M.Machine.tells) file c.args.name.now (headers_of c.args.head.now) c.args.registers.now c.requires.head (sym c.find.ensures.at ∙ c.in-None.is)

pub returns-in-None-clause-looks : goal.returns-in-None-clause-looks
returns-in-None-clause-looks g c = looks_none (g.met.M.Machine.only_now c.args.machine.now) (search rules)

pub returns-in_ok-measure_part-in-Some-clause-value : goal.returns-in_ok-measure_part-in-Some-clause-value
returns-in_ok-measure_part-in-Some-clause-value g c =
    let s = g.M.Machine.state c.args.machine.now in
    section_some (IsTrue g.M.Machine.tells) (contents s.files c.args.path.now)
    (contents (seen s) c.args.path.now) c.args.name.now (headers_of c.args.head.now) c.in-Some.index c.loaded_range-range.result
    c.args.registers.now c.measure_part.new.registers (shown_contents s c.args.path.now c.know.ensures.lasting) c.requires.head
    (sym c.find.ensures.at ∙ c.in-Some.is) c.in-Some.ensures.inside c.loaded_range-range.ensures.exact c.in_ok-measure_part-in-Some.ensures.value

pub returns-in_ok-measure_part-in-Some-clause-taken : goal.returns-in_ok-measure_part-in-Some-clause-taken
returns-in_ok-measure_part-in-Some-clause-taken g c =
    section_long (IsTrue g.M.Machine.tells) (contents (g.M.Machine.state c.args.machine.now).files c.args.path.now) c.args.name.now
    (headers_of c.args.head.now) c.in-Some.index c.loaded_range-range.result _ _
    c.requires.head (sym c.find.ensures.at ∙ c.in-Some.is) c.in-Some.ensures.inside c.loaded_range-range.ensures.exact c.measure_part.ensures.taken

pub returns-in_err-measure_part-in-Some-clause-taken : goal.returns-in_err-measure_part-in-Some-clause-taken
returns-in_err-measure_part-in-Some-clause-taken g c =
    section_long (IsTrue g.M.Machine.tells) (contents (g.M.Machine.state c.args.machine.now).files c.args.path.now) c.args.name.now
    (headers_of c.args.head.now) c.in-Some.index c.loaded_range-range.result _ _
    c.requires.head (sym c.find.ensures.at ∙ c.in-Some.is) c.in-Some.ensures.inside c.loaded_range-range.ensures.exact c.measure_part.ensures.taken
