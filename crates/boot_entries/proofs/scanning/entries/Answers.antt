-- The files of both types are read one after the other.
use Rattle.std.proofs.Common.{◌≡◌, ◌++◌, ◌↔◌, ◌*◌, ℕ, List, length, ap, sym, ◌∙◌, subst, rules, Contains}
use Rattle.menu_order.specs.declared.counted.Suffix.TheVariants.{Conf, Efi}
use Rattle.boot_machine.proofs.Reading.{looks_on}
use Rattle.boot_machine.specs.Prelude.{State, TakesAtMost}
use Rattle.menu_order.specs.declared.item.MenuItem.{MenuItem}
use Rattle.boot_entries.specs.Entries.{IsEntry}
use Rattle.boot_entries.specs.Scanning.{entries_named}
use Rattle.boot_entries.proofs.EntryFiles.{found_entries, taken_of_both, taken_of_texts}
use Rattle.boot_entries.proofs.scanning.entries.Goals as goal

pub returns-in_err-append_entries-2-clause-looks : goal.returns-in_err-append_entries-2-clause-looks
returns-in_err-append_entries-2-clause-looks g c = looks_on c.append_entries.ensures.looks c.append_entries-2.ensures.looks (search rules)

pub returns-clause-looks : goal.returns-clause-looks
returns-clause-looks g c = looks_on c.append_entries.ensures.looks c.append_entries-2.ensures.looks (search rules)

pub returns-in_err-append_entries-clause-taken : goal.returns-in_err-append_entries-clause-taken
returns-in_err-append_entries-clause-taken g c told are_texts are_images =
    taken_of_texts (g.M.Machine.state c.args.machine.now).files c.args.folders.now c.args.names.now.texts.items are_texts
    (g.M.Machine.taken c.args.machine.now) (g.M.Machine.taken c.append_entries.new.machine)
    (subst (λ (l : List (List ℕ)). TakesAtMost (65536 * length l) (g.M.Machine.taken c.args.machine.now) (g.M.Machine.taken c.append_entries.new.machine)) c.as_slice-texts.ensures.value (c.append_entries.ensures.taken told))

pub returns-in_err-append_entries-2-clause-taken : goal.returns-in_err-append_entries-2-clause-taken
returns-in_err-append_entries-2-clause-taken g c told are_texts are_images =
    taken_of_both (g.M.Machine.state c.args.machine.now).files c.args.folders.now c.args.names.now.texts.items c.args.names.now.images.items are_texts are_images
    (g.M.Machine.taken c.args.machine.now) (g.M.Machine.taken c.append_entries.new.machine) (g.M.Machine.taken c.append_entries-2.new.machine)
    (subst (λ (l : List (List ℕ)). TakesAtMost (65536 * length l) (g.M.Machine.taken c.args.machine.now) (g.M.Machine.taken c.append_entries.new.machine)) c.as_slice-texts.ensures.value (c.append_entries.ensures.taken told))
    (subst (λ (l : List (List ℕ)). TakesAtMost (134999 * length l) (g.M.Machine.taken c.append_entries.new.machine) (g.M.Machine.taken c.append_entries-2.new.machine)) c.as_slice-images.ensures.value (c.append_entries-2.ensures.taken told))

pub returns-clause-taken : goal.returns-clause-taken
returns-clause-taken g c told are_texts are_images =
    taken_of_both (g.M.Machine.state c.args.machine.now).files c.args.folders.now c.args.names.now.texts.items c.args.names.now.images.items are_texts are_images
    (g.M.Machine.taken c.args.machine.now) (g.M.Machine.taken c.append_entries.new.machine) (g.M.Machine.taken c.append_entries-2.new.machine)
    (subst (λ (l : List (List ℕ)). TakesAtMost (65536 * length l) (g.M.Machine.taken c.args.machine.now) (g.M.Machine.taken c.append_entries.new.machine)) c.as_slice-texts.ensures.value (c.append_entries.ensures.taken told))
    (subst (λ (l : List (List ℕ)). TakesAtMost (134999 * length l) (g.M.Machine.taken c.append_entries.new.machine) (g.M.Machine.taken c.append_entries-2.new.machine)) c.as_slice-images.ensures.value (c.append_entries-2.ensures.taken told))

pub returns-clause-entries : goal.returns-clause-entries
returns-clause-entries g c told are_texts are_images item =
    let files = (g.M.Machine.state c.args.machine.now).files in
    let folders = c.args.folders.now in
    let texts = c.args.names.now.texts.items in
    let images = c.args.names.now.images.items in
    let first : c.append_entries.new.items.items ≡ entries_named Conf files folders.entries texts =
    c.in_ok-append_entries.ensures.entries told
    ∙ ap (λ (l : List MenuItem). l ++ entries_named Conf files folders.entries c.as_slice-texts.result.now) c.new-items.ensures.items
    ∙ ap (entries_named Conf files folders.entries) c.as_slice-texts.ensures.value in
    let items : c.append_entries-2.new.items.items ≡ entries_named Conf files folders.entries texts ++ entries_named Efi files folders.images images =
    c.in_ok-append_entries-2.ensures.entries told
    ∙ ap (λ (l : List MenuItem). l ++ entries_named Efi (g.M.Machine.state c.append_entries.new.machine).files folders.images c.as_slice-images.result.now) first
    ∙ ap (λ (s : State). entries_named Conf files folders.entries texts ++ entries_named Efi s.files folders.images c.as_slice-images.result.now) (c.append_entries.ensures.looks.reads told).same
    ∙ ap (λ (l : List (List ℕ)). entries_named Conf files folders.entries texts ++ entries_named Efi files folders.images l) c.as_slice-images.ensures.value in
    subst (λ (l : List MenuItem). Contains l item ↔ IsEntry files folders item) (sym items)
    (found_entries files folders texts images are_texts are_images item)
