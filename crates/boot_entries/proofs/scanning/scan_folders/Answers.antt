-- The names, the entries of their files, and the menu of these.
use Rattle.std.proofs.Common.{◌↔◌, sym, ◌∙◌, subst, rules, Contains}
use Rattle.menu_order.specs.declared.counted.Suffix.TheVariants.{Conf, Efi}
use Rattle.boot_machine.proofs.Reading.{looks_on}
use Rattle.boot_machine.specs.Prelude.{State}
use Rattle.boot_entries.specs.Entries.{IsEntry}
use Rattle.boot_entries.specs.Scanning.{AreEntryNames}
use Rattle.boot_entries.proofs.EntryFiles.{found_menu, menu_only, view_menu}
use Rattle.boot_entries.proofs.scanning.scan_folders.Goals as goal

pub returns-in_err-items-clause-looks : goal.returns-in_err-items-clause-looks
returns-in_err-items-clause-looks g c = looks_on c.entry_names.ensures.looks c.entries.ensures.looks (search rules)

pub returns-in_err-menu_of-clause-looks : goal.returns-in_err-menu_of-clause-looks
returns-in_err-menu_of-clause-looks g c = looks_on c.entry_names.ensures.looks c.entries.ensures.looks (search rules)

pub returns-clause-looks : goal.returns-clause-looks
returns-clause-looks g c = looks_on c.entry_names.ensures.looks c.entries.ensures.looks (search rules)

pub returns-clause-menu : goal.returns-clause-menu
returns-clause-menu g c told =
    let files = (g.M.Machine.state c.args.machine.now).files in
    let folders = c.args.folders.now in
    let same = (c.entry_names.ensures.looks.reads told).same in
    let texts = subst (λ (s : State). AreEntryNames s.files folders.entries Conf c.in_ok-names.names.texts.items) (sym same) (c.in_ok-names.ensures.texts told) in
    let images = subst (λ (s : State). AreEntryNames s.files folders.images Efi c.in_ok-names.names.images.items) (sym same) (c.in_ok-names.ensures.images told) in
    found_menu files folders c.in_ok-items.items.items c.in_ok-menu_of.field-0.items
    (λ item. subst (λ (s : State). Contains c.in_ok-items.items.items item ↔ IsEntry s.files folders item) same (c.in_ok-items.ensures.entries told texts images item))
    c.in_ok-menu_of.ensures.among c.in_ok-menu_of.ensures.all c.in_ok-menu_of.ensures.ordered

pub returns-clause-value : goal.returns-clause-value
returns-clause-value g c told =
    let files = (g.M.Machine.state c.args.machine.now).files in
    menu_only files c.args.folders.now c.in_ok-menu_of.field-0.items (returns-clause-menu g c told) ∙ sym (view_menu files c.args.folders.now)
