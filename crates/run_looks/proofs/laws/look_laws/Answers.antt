use Rattle.run_looks.specs.Standing.{FileStands}
use Rattle.run_looks.proofs.Kept.{forget_keeps, holds_of, look_keeps, reply_keeps}
use Rattle.run_looks.proofs.laws.look_laws.Goals as goal

pub returns-clause-looks : goal.returns-clause-looks
returns-clause-looks c = look_keeps

pub returns-clause-names : goal.returns-clause-names
returns-clause-names c looks folder names whole = record { on_list = whole.on_list; earlier = whole.earlier }

pub returns-clause-forgets : goal.returns-clause-forgets
returns-clause-forgets c = forget_keeps

pub returns-clause-replies : goal.returns-clause-replies
returns-clause-replies c = reply_keeps

pub returns-clause-stand : goal.returns-clause-stand
returns-clause-stand c disk looks whole recent path is =
    holds_of (FileStands disk looks.files) looks.recent path recent.files (whole.on_list path is)
