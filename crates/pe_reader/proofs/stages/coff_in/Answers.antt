use Rattle.std.proofs.Common.{ap, drop, sym, ◌∙◌}
use Rattle.boot_machine.specs.Prelude.{contents, fill_with_zeros}
use Rattle.std.proofs.lemmas.Result.{err_from_is_err_and}
use Rattle.pe_reader.proofs.Parted.{coff-of_part}
use Rattle.pe_reader.proofs.Shape.{coff_of_is}
use Rattle.pe_reader.proofs.stages.coff_in.Goals as goal

pub returns-in_err-coff_header-clause-exact : goal.returns-in_err-coff_header-clause-exact
returns-in_err-coff_header-clause-exact g c told long =
    let p = err_from_is_err_and c.from_residual-in_err-coff_header.result c.from_residual-in_err-coff_header.ensures.1 in
    rw (p.1, p.2) (coff-of_part _ _ c.args.size c.args.place long (c.in_ok-read_part.ensures.bytes told ∙ ap (λ path. fill_with_zeros (drop c.args.place (contents (g.M.Machine.state c.args.machine.now).files path)) 24) c.file.ensures.path) ∙ sym c.in_err-coff_header.ensures.exact)

pub returns-clause-few : goal.returns-clause-few
returns-clause-few g c = (coff_of_is _ _ _ c.in_ok-coff_header.field-0 (sym c.in_ok-coff_header.ensures.exact)).few
