use Rattle.boot_texts.proofs.EntryText.{reads_back}
use Rattle.boot_texts.proofs.payload_entry.entry_text.Goals as goal

pub returns-clause-reads_back : goal.returns-clause-reads_back
returns-clause-reads_back c = reads_back c.args.fields.now c.requires
