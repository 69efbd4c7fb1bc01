use Rattle.std.proofs.Common.{◌∙◌, ◌∷◌, ◌-◌, ap, arith, drop, length, length-take, take, option_copied}
use Rattle.boot_texts.specs.TextLines.{pieces_of}
use Rattle.boot_texts.proofs.FileLines.{first_line, last_line}
use Rattle.boot_texts.proofs.conf_change.first_line.Goals as goal

pub returns-in-Some-clause-lines : goal.returns-in-Some-clause-lines
returns-in-Some-clause-lines c =
    first_line c.args.text.now c.first_piece.result.0.now c.in-Some.behind.now (c.first_piece.ensures.first ∙ ap (λ behind. c.first_piece.result.0.now ∷ pieces_of (option_copied behind)) c.in-Some.is)

pub returns-in-None-clause-lines : goal.returns-in-None-clause-lines
returns-in-None-clause-lines c =
    let end = length c.args.text.now in
    let behind = take (end - end) (drop end c.args.text.now) in
    last_line c.args.text.now c.first_piece.result.0.now behind c.requires
    (c.first_piece.ensures.first ∙ ap (λ behind. c.first_piece.result.0.now ∷ pieces_of (option_copied behind)) c.in-None.is)
    (omega (arith, length-take (end - end) (drop end c.args.text.now)))
