use Rattle.boot_machine.specs.Prelude.{contents, seen}
use Rattle.image_build.proofs.Pieced.{joined_sizes, part_is}
use Rattle.image_build.proofs.build_reads.part_of_sources.Goals as goal

pub returns-clause-says : goal.returns-clause-says
returns-clause-says g c told =
    let s = g.M.Machine.state c.args.machine.now in
    part_is (seen s) (contents (seen s)) c.args.sources.kind c.args.sources.name c.args.sources.sources.items c.in_ok-initrds.initrds.items
    c.in_ok-pieces.pieces.items (c.in_ok-initrds.ensures.says told)
    c.in_ok-pieces.ensures.exact (c.joined_bytes_of_initrds.ensures (contents (seen s)) c.in_ok-initrds.initrds.items (c.in_ok-initrds.ensures.sizes told))

pub returns-clause-sizes : goal.returns-clause-sizes
returns-clause-sizes g c told =
    joined_sizes (contents (seen (g.M.Machine.state c.args.machine.now))) c.in_ok-initrds.initrds.items c.in_ok-pieces.pieces.items c.in_ok-pieces.ensures.exact (c.in_ok-initrds.ensures.sizes told)
