use Rattle.boot_texts.proofs.FileLines.{whole_file}
use Rattle.boot_texts.proofs.conf_change.lines_are_the_file.Goals as goal

pub returns : goal.returns
returns c = whole_file
