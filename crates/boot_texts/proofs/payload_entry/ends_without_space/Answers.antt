use Rattle.boot_texts.specs.EntryText.{is_no_space}
use Rattle.boot_texts.proofs.EntryLines.{last_at}
use Rattle.boot_texts.proofs.payload_entry.ends_without_space.Goals as goal

pub returns-in-len1-up : goal.returns-in-len1-up
returns-in-len1-up c = last_at is_no_space c.args.text.now c.in-len1-up.len_at_least
