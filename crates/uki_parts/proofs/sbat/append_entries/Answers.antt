use Rattle.std.proofs.Common.{◌++◌, true, false, ap, sym, ◌∙◌, append-nil}
use Rattle.uki_parts.specs.Sbat.{lines_text}
use Rattle.uki_parts.proofs.Entries.{sbat_entries-cut}
use Rattle.uki_parts.proofs.sbat.append_entries.Goals as goal

pub returns-in_ok-append_lines : goal.returns-in_ok-append_lines
returns-in_ok-append_lines c =
    c.in_ok-append_lines.ensures
    ∙ ap (λ lines. c.args.entries.now.items ++ lines_text lines)
    (sbat_entries-cut c.args.section.now c.before-2.result.now c.cut_at_newline.result.0.now c.cut_at_newline.result.1.now true
    c.before-2.ensures c.cut_at_newline.ensures.first c.cut_at_newline.ensures.rest (sym c.if-starts_with.true ∙ c.starts_with.ensures.value))

pub returns-else-starts_with : goal.returns-else-starts_with
returns-else-starts_with c =
    sym (append-nil c.args.entries.now.items)
    ∙ ap (λ lines. c.args.entries.now.items ++ lines_text lines)
    (sbat_entries-cut c.args.section.now c.before-2.result.now c.cut_at_newline.result.0.now c.cut_at_newline.result.1.now false
    c.before-2.ensures c.cut_at_newline.ensures.first c.cut_at_newline.ensures.rest (sym c.if-starts_with.false ∙ c.starts_with.ensures.value))
