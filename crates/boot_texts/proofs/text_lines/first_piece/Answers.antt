use Rattle.boot_texts.proofs.LinePieces.{pieces_at, pieces_none}
use Rattle.boot_texts.proofs.text_lines.first_piece.Goals as goal

pub returns-in-Some-clause-first : goal.returns-in-Some-clause-first
returns-in-Some-clause-first c = pieces_at c.args.text.now c.in-Some.end c.in-Some.ensures

pub returns-in-None-clause-first : goal.returns-in-None-clause-first
returns-in-None-clause-first c = pieces_none c.args.text.now c.in-None.ensures
