use Rattle.std.proofs.Common.{ap, sym, ◌∙◌}
use Rattle.boot_machine.specs.Prelude.{contents, fill_with_zeros}
use Rattle.std.proofs.lemmas.Result.{err_from_is_err_and}
use Rattle.pe_reader.proofs.Parted.{place-of_part}
use Rattle.pe_reader.proofs.stages.place_in.Goals as goal

pub returns-in_err-pe_place-clause-exact : goal.returns-in_err-pe_place-clause-exact
returns-in_err-pe_place-clause-exact g c told long =
    let p = err_from_is_err_and c.from_residual-in_err-pe_place.result c.from_residual-in_err-pe_place.ensures.1 in
    rw (p.1, p.2) (place-of_part _ _ c.args.size long (c.in_ok-read_part.ensures.bytes told ∙ ap (λ path. fill_with_zeros (contents (g.M.Machine.state c.args.machine.now).files path) 64) c.file.ensures.path) ∙ sym c.in_err-pe_place.ensures)

pub returns-clause-exact : goal.returns-clause-exact
returns-clause-exact g c told long = place-of_part _ _ c.args.size long (c.in_ok-read_part.ensures.bytes told ∙ ap (λ path. fill_with_zeros (contents (g.M.Machine.state c.args.machine.now).files path) 64) c.file.ensures.path) ∙ sym c.in_ok-pe_place.ensures
