use Rattle.std.proofs.Common.{◌++◌, filter, ap, ◌∙◌, rules}
use Rattle.std.proofs.lemmas.Iterator.Consumers.{YieldsList-end}
use Rattle.std.proofs.lemmas.Iterator.Splits.{YieldsList-from_slice_split}
use Rattle.uki_parts.specs.Sbat.{is_sbat_newline, lines_text}
use Rattle.uki_parts.specs.Texts.{is_nonempty_text}
use Rattle.uki_parts.proofs.sbat.append_lines.Goals as goal

pub returns : goal.returns
returns c =
    let cut = YieldsList-from_slice_split _ is_sbat_newline c.args.text.now (search rules) (search rules) (search rules) (λ x b q h. search rules) in
    c.loop-line.invariant
    ∙ ap (λ lines. c.args.entries.now.items ++ lines_text (filter is_nonempty_text lines))
    (YieldsList-end cut c.loop-line.yielded _ c.loop-line.yielded_by _ c.next.new.self c.in-None.is c.next.ensures.steps).0
