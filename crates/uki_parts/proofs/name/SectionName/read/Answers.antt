use Rattle.std.proofs.Common.{ap, sym, ◌∙◌}
use Rattle.uki_parts.specs.Names.{name_bytes}
use Rattle.uki_parts.proofs.Padding.{name_bytes-read}
use Rattle.uki_parts.proofs.name.SectionName.read.Goals as goal

pub returns-then-is_section_name-clause-bytes : goal.returns-then-is_section_name-clause-bytes
returns-then-is_section_name-clause-bytes c =
    ap name_bytes c.from_bytes.ensures
    ∙ name_bytes-read _ (sym c.is_section_name.ensures ∙ c.if-is_section_name.true)
    ∙ c.as_bytes-bytes.ensures.value
