use Rattle.std.proofs.Common.{subst, sym}
use Rattle.boot_texts.specs.EntryText.{AreEntryFields}
use Rattle.type1_install.proofs.Fields.{fields_fit}
use Rattle.type1_install.proofs.installation.enter_in.Goals as goal

pub entry_text-requires : goal.entry_text-requires
entry_text-requires c =
    subst AreEntryFields (sym c.in_ok-fields.ensures) (fields_fit c.args.texts.now c.args.linux.now c.args.initrds.now c.requires.texts c.requires.linux c.requires.initrds c.requires.few)
