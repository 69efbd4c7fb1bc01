use Rattle.std.proofs.Common.{◌+◌, sym, ◌∙◌, List, max, take, ap}
use Rattle.std.proofs.lemmas.List.{take_rest}
use Rattle.pe_reader.specs.declared.section.Section.{Section}
use Rattle.pe_reader.specs.Prelude.{section_at_index}
use Rattle.pe_builder.specs.Layout.{end_after}
use Rattle.pe_builder.proofs.Totals.{end_after-set}
use Rattle.pe_builder.proofs.extent.end_resized.Goals as goal

pub returns-clause-exact : goal.returns-clause-exact
returns-clause-exact c =
    let top = max (end_after c.args.address (take c.args.index c.args.sections.now)) ((section_at_index c.args.sections.now c.args.index).virtual_address + c.args.size) in
    rw (c.end_after.ensures.exact, c.max.ensures, c.end_after-before.ensures.exact) (
    ap (λ (l : List Section). end_after top l) (take_rest c.args.sections.now (c.args.index + 1))
    ∙ sym (end_after-set c.args.address c.args.sections.now c.args.index (record (section_at_index c.args.sections.now c.args.index) { virtual_size = c.args.size }) c.requires.inside))
