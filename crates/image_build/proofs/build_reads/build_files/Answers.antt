use Rattle.boot_machine.proofs.Reading.{looks_on, reads_on}
use Rattle.std.proofs.Common.{subst, ◌∙◌, arith, rules}
use Rattle.boot_machine.specs.Prelude.{State, TakesAtMost, contents, seen}
use Rattle.image_build.specs.Reads.{source_file_length}
use Rattle.image_build.proofs.build_reads.build_files.Goals as goal

pub returns-in_err-linux_length-clause-looks : goal.returns-in_err-linux_length-clause-looks
returns-in_err-linux_length-clause-looks g c = looks_on c.readable_size.ensures.looks c.readable_size-2.ensures.looks (search rules)

pub returns-in_err-parts-clause-looks : goal.returns-in_err-parts-clause-looks
returns-in_err-parts-clause-looks g c = record {
  reads =
      λ told. reads_on g.M.Machine.time g.M.Machine.state c.args.machine.now c.readable_size-2.new.machine c.parts_of_sources.new.machine
      (reads_on g.M.Machine.time g.M.Machine.state c.args.machine.now c.readable_size.new.machine c.readable_size-2.new.machine
      (c.readable_size.ensures.looks.reads told) (c.readable_size-2.ensures.looks.reads told))
      (c.parts_of_sources.ensures.looks.reads told);
  counted = search rules;
}

pub returns-in_err-sbat-clause-looks : goal.returns-in_err-sbat-clause-looks
returns-in_err-sbat-clause-looks g c = record {
  reads =
      λ told. reads_on g.M.Machine.time g.M.Machine.state c.args.machine.now c.parts_of_sources.new.machine c.given_sbat.new.machine
      (reads_on g.M.Machine.time g.M.Machine.state c.args.machine.now c.readable_size-2.new.machine c.parts_of_sources.new.machine
      (reads_on g.M.Machine.time g.M.Machine.state c.args.machine.now c.readable_size.new.machine c.readable_size-2.new.machine
      (c.readable_size.ensures.looks.reads told) (c.readable_size-2.ensures.looks.reads told)) (c.parts_of_sources.ensures.looks.reads told))
      (c.given_sbat.ensures.looks.reads told);
  counted = search rules;
}

pub returns-clause-looks : goal.returns-clause-looks
returns-clause-looks g c = record {
  reads =
      λ told. reads_on g.M.Machine.time g.M.Machine.state c.args.machine.now c.parts_of_sources.new.machine c.given_sbat.new.machine
      (reads_on g.M.Machine.time g.M.Machine.state c.args.machine.now c.readable_size-2.new.machine c.parts_of_sources.new.machine
      (reads_on g.M.Machine.time g.M.Machine.state c.args.machine.now c.readable_size.new.machine c.readable_size-2.new.machine
      (c.readable_size.ensures.looks.reads told) (c.readable_size-2.ensures.looks.reads told)) (c.parts_of_sources.ensures.looks.reads told))
      (c.given_sbat.ensures.looks.reads told);
  counted = search rules;
}

pub returns-in_err-sbat-clause-taken : goal.returns-in_err-sbat-clause-taken
returns-in_err-sbat-clause-taken g c told =
    let given =
    subst (λ (s : State). TakesAtMost (source_file_length (contents (seen s)) c.args.sources.sbat) (g.M.Machine.taken c.parts_of_sources.new.machine) (g.M.Machine.taken c.given_sbat.new.machine))
    ((c.parts_of_sources.ensures.looks.reads told).same ∙ (c.readable_size-2.ensures.looks.reads told).same ∙ (c.readable_size.ensures.looks.reads told).same) (c.given_sbat.ensures.taken told) in
    omega (arith, c.readable_size.ensures.taken told, c.readable_size-2.ensures.taken told, c.parts_of_sources.ensures.taken told, given)

pub returns-clause-taken : goal.returns-clause-taken
returns-clause-taken g c told =
    let given =
    subst (λ (s : State). TakesAtMost (source_file_length (contents (seen s)) c.args.sources.sbat) (g.M.Machine.taken c.parts_of_sources.new.machine) (g.M.Machine.taken c.given_sbat.new.machine))
    ((c.parts_of_sources.ensures.looks.reads told).same ∙ (c.readable_size-2.ensures.looks.reads told).same ∙ (c.readable_size.ensures.looks.reads told).same) (c.given_sbat.ensures.taken told) in
    omega (arith, c.readable_size.ensures.taken told, c.readable_size-2.ensures.taken told, c.parts_of_sources.ensures.taken told, given)
