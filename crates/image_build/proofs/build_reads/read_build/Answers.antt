use Rattle.boot_machine.proofs.Reading.{looks_on, reads_on}
use Rattle.boot_machine.specs.Prelude.{contents, seen, State, TakesAtMost}
use Rattle.pe_reader.specs.Prelude.{headers_of}
use Rattle.uki_parts.specs.Pieces.{bytes_of}
use Rattle.image_build.specs.Building.{named_as}
use Rattle.image_build.proofs.Material.{material_is}
use Rattle.std.proofs.Common.{subst, ◌+◌, ◌∙◌, arith, rules}
use Rattle.image_build.specs.Reads.{loaded_sbat_length}
use Rattle.image_build.proofs.Taken.{reading}
use Rattle.image_build.proofs.build_reads.read_build.Goals as goal

pub returns-in_err-head-clause-looks : goal.returns-in_err-head-clause-looks
returns-in_err-head-clause-looks g c = looks_on c.build_files.ensures.looks c.sized_head.ensures.looks (search rules)

pub returns-in_err-sbat-clause-looks : goal.returns-in_err-sbat-clause-looks
returns-in_err-sbat-clause-looks g c = record {
  reads =
      λ told. reads_on g.M.Machine.time g.M.Machine.state c.args.machine.now c.sized_head.new.machine c.image_sbat.new.machine
      (reads_on g.M.Machine.time g.M.Machine.state c.args.machine.now c.build_files.new.machine c.sized_head.new.machine
      (c.build_files.ensures.looks.reads told) (c.sized_head.ensures.looks.reads told))
      (c.image_sbat.ensures.looks.reads told);
  counted = search rules;
}

pub returns-in_err-linux-clause-looks : goal.returns-in_err-linux-clause-looks
returns-in_err-linux-clause-looks g c = record {
  reads =
      λ told. reads_on g.M.Machine.time g.M.Machine.state c.args.machine.now c.sized_head.new.machine c.image_sbat.new.machine
      (reads_on g.M.Machine.time g.M.Machine.state c.args.machine.now c.build_files.new.machine c.sized_head.new.machine
      (c.build_files.ensures.looks.reads told) (c.sized_head.ensures.looks.reads told))
      (c.image_sbat.ensures.looks.reads told);
  counted = search rules;
}

pub returns-clause-looks : goal.returns-clause-looks
returns-clause-looks g c = record {
  reads =
      λ told. reads_on g.M.Machine.time g.M.Machine.state c.args.machine.now c.sized_head.new.machine c.image_sbat.new.machine
      (reads_on g.M.Machine.time g.M.Machine.state c.args.machine.now c.build_files.new.machine c.sized_head.new.machine
      (c.build_files.ensures.looks.reads told) (c.sized_head.ensures.looks.reads told))
      (c.image_sbat.ensures.looks.reads told);
  counted = search rules;
}

pub returns-clause-says : goal.returns-clause-says
returns-clause-says g c told =
    let s = g.M.Machine.state c.args.machine.now in
    material_is s (g.M.Machine.state c.build_files.new.machine) (g.M.Machine.state c.sized_head.new.machine) (named_as c.args.sources) c.in_ok-found.found (headers_of c.in_ok-head.head)
    (bytes_of (contents (seen s)) c.in_ok-linux.linux.pieces.items) c.in_ok-sbat.sbat.items (c.build_files.ensures.looks.reads told).same (c.sized_head.ensures.looks.reads told).same
    (c.in_ok-found.ensures.says told) (c.in_ok-head.ensures.head told) (c.in_ok-sbat.ensures.says told) (c.in_ok-linux.ensures.bytes (contents (seen s)))

pub returns-in_err-sbat-clause-taken : goal.returns-in_err-sbat-clause-taken
returns-in_err-sbat-clause-taken g c told =
    reading (contents (seen (g.M.Machine.state c.args.machine.now))) c.args.sources c.in_ok-found.found _ _ _ _ c.in_ok-found.ensures.from
    (c.build_files.ensures.taken told) (c.sized_head.ensures.taken told)
    (subst
    (λ (s : State). TakesAtMost
    (loaded_sbat_length (contents (seen s)) c.in_ok-found.found.stub +
    (69463 + loaded_sbat_length (contents (seen s))
    c.in_ok-found.found.linux)) (g.M.Machine.taken c.sized_head.new.machine) (g.M.Machine.taken c.image_sbat.new.machine))
    ((c.sized_head.ensures.looks.reads told).same ∙ (c.build_files.ensures.looks.reads told).same) (c.image_sbat.ensures.taken told))

pub returns-in_err-linux-clause-taken : goal.returns-in_err-linux-clause-taken
returns-in_err-linux-clause-taken g c told =
    reading (contents (seen (g.M.Machine.state c.args.machine.now))) c.args.sources c.in_ok-found.found _ _ _ _ c.in_ok-found.ensures.from
    (c.build_files.ensures.taken told) (c.sized_head.ensures.taken told)
    (subst
    (λ (s : State). TakesAtMost
    (loaded_sbat_length (contents (seen s)) c.in_ok-found.found.stub +
    (69463 + loaded_sbat_length (contents (seen s))
    c.in_ok-found.found.linux)) (g.M.Machine.taken c.sized_head.new.machine) (g.M.Machine.taken c.image_sbat.new.machine))
    ((c.sized_head.ensures.looks.reads told).same ∙ (c.build_files.ensures.looks.reads told).same) (c.image_sbat.ensures.taken told))

pub returns-clause-taken : goal.returns-clause-taken
returns-clause-taken g c told =
    reading (contents (seen (g.M.Machine.state c.args.machine.now))) c.args.sources c.in_ok-found.found _ _ _ _ c.in_ok-found.ensures.from
    (c.build_files.ensures.taken told) (c.sized_head.ensures.taken told)
    (subst
    (λ (s : State). TakesAtMost
    (loaded_sbat_length (contents (seen s)) c.in_ok-found.found.stub +
    (69463 + loaded_sbat_length (contents (seen s))
    c.in_ok-found.found.linux)) (g.M.Machine.taken c.sized_head.new.machine) (g.M.Machine.taken c.image_sbat.new.machine))
    ((c.sized_head.ensures.looks.reads told).same ∙ (c.build_files.ensures.looks.reads told).same) (c.image_sbat.ensures.taken told))

pub returns-in_err-head-clause-taken : goal.returns-in_err-head-clause-taken
returns-in_err-head-clause-taken g c told = omega (arith, c.build_files.ensures.taken told, c.sized_head.ensures.taken told)
