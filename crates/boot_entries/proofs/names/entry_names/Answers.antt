-- The names of both types are listed one after the other.
use Rattle.std.proofs.Common.{◌≡◌, ◌≤◌, ◌+◌, length, ap₂, ◌∙◌, subst, arith, rules}
use Rattle.menu_order.specs.declared.counted.Suffix.TheVariants.{Efi}
use Rattle.boot_machine.proofs.Reading.{looks_on}
use Rattle.boot_machine.specs.Prelude.{State}
use Rattle.boot_entries.specs.Scanning.{AreEntryNames}
use Rattle.boot_entries.proofs.EntryFiles.{found_count}
use Rattle.boot_entries.proofs.names.entry_names.Goals as goal

pub returns-in_err-images-clause-looks : goal.returns-in_err-images-clause-looks
returns-in_err-images-clause-looks g c = looks_on c.names_with.ensures.looks c.names_with-2.ensures.looks (search rules)

pub returns-then-count-gt-ENTRY_LIMIT-clause-looks : goal.returns-then-count-gt-ENTRY_LIMIT-clause-looks
returns-then-count-gt-ENTRY_LIMIT-clause-looks g c = looks_on c.names_with.ensures.looks c.names_with-2.ensures.looks (search rules)

pub returns-clause-looks : goal.returns-clause-looks
returns-clause-looks g c = looks_on c.names_with.ensures.looks c.names_with-2.ensures.looks (search rules)

pub returns-then-count-gt-ENTRY_LIMIT-clause-many : goal.returns-then-count-gt-ENTRY_LIMIT-clause-many
returns-then-count-gt-ENTRY_LIMIT-clause-many g c = (
  c.if-count-gt-ENTRY_LIMIT.true,
  λ told.
      let files = (g.M.Machine.state c.args.machine.now).files in
      let images = subst (λ (s : State). AreEntryNames s.files c.args.folders.now.images Efi c.in_ok-images.images.items) (c.names_with.ensures.looks.reads told).same (c.in_ok-images.ensures.names told) in
      found_count files c.args.folders.now c.in_ok-texts.texts.items c.in_ok-images.images.items (c.in_ok-texts.ensures.names told) images
      ∙ ap₂ (λ m n. m + n) (search rules) (search rules),
)

pub returns-clause-few : goal.returns-clause-few
returns-clause-few g c told =
    let files = (g.M.Machine.state c.args.machine.now).files in
    let images = subst (λ (s : State). AreEntryNames s.files c.args.folders.now.images Efi c.in_ok-images.images.items) (c.names_with.ensures.looks.reads told).same (c.in_ok-images.ensures.names told) in
    let count = found_count files c.args.folders.now c.in_ok-texts.texts.items c.in_ok-images.images.items (c.in_ok-texts.ensures.names told) images in
    let texts : length c.in_ok-texts.texts.items ≡ c.len.result = search rules in
    let more : length c.in_ok-images.images.items ≡ c.len-2.result = search rules in
    let few : length c.in_ok-texts.texts.items + length c.in_ok-images.images.items ≤ 4096 = omega (arith, c.if-count-gt-ENTRY_LIMIT.false, texts, more) in
    omega (arith, count, few)
