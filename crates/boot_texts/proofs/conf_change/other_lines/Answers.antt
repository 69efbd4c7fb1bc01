use Rattle.std.proofs.Common.{◌∙◌, ◌++◌, ◌∷◌, [], ap, sym, filter, append_assoc}
use Rattle.boot_texts.specs.FileLines.{raw_lines, lacks_value, text_of_lines}
use Rattle.boot_texts.proofs.ConfChanges.{written_more}
use Rattle.boot_texts.proofs.conf_change.other_lines.Goals as goal

pub loop-rest-preserved : goal.loop-rest-preserved
loop-rest-preserved c =
    let keep = lacks_value c.args.key.now in
    let line = c.first_line.result.0.now in
    let lines = raw_lines c.first_line.result.1.now in
    ap (λ items. items ++ text_of_lines (filter keep lines)) c.in_ok-keep_line.ensures
    ∙ append_assoc c.loop-rest.made.items (text_of_lines (filter keep (line ∷ []))) (text_of_lines (filter keep lines))
    ∙ ap (λ text. c.loop-rest.made.items ++ text) (sym (written_more keep line lines))
    ∙ ap (λ lines. c.loop-rest.made.items ++ text_of_lines (filter keep lines)) (sym c.first_line.ensures.lines)
    ∙ c.loop-rest.invariant
