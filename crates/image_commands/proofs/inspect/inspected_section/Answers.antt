use Rattle.std.proofs.Common.{◌≤◌, length, drop, ap, sym, subst, Ok, rules}
use Rattle.boot_machine.specs.Prelude.{contents}
use Rattle.pe_reader.specs.declared.section.LoadedRange.{LoadedRange}
use Rattle.pcr_values.specs.Prelude.{bytes_of_digest}
use Rattle.image_commands.proofs.Inspecting.{facts_made}
use Rattle.image_commands.proofs.inspect.inspected_section.Goals as goal

pub returns-clause-says : goal.returns-clause-says
returns-clause-says g c told inside =
    ap Ok (facts_made (contents (g.M.Machine.state c.args.machine.now).files c.args.path.now) c.args.section.now c.loaded_range-range.result c.in_ok-name.name (bytes_of_digest c.in_ok-digest.digest)
    c.loaded_range-range.ensures.exact inside
    (c.in_ok-digest.ensures.value told
    (subst (λ (r : LoadedRange). r.length ≤ length (drop r.place (contents (g.M.Machine.state c.args.machine.now).files c.args.path.now)))
    (sym c.loaded_range-range.ensures.exact) inside))
    (search rules))
