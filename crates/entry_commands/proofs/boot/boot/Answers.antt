use Rattle.std.proofs.Common.{◌≡◌, true, sym, subst, rules}
use Rattle.boot_entries.specs.Entries.{IsEntry}
use Rattle.boot_machine.specs.Prelude.{State, has, seen}
use Rattle.boot_machine.proofs.Reading.{looks_none, looks_on}
use Rattle.menu_order.specs.Menu.{IsMenu}
use Rattle.entry_commands.proofs.Firsts.{first_there}
use Rattle.entry_commands.proofs.boot.boot.Goals as goal

pub returns-in_err-folders-clause-looks : goal.returns-in_err-folders-clause-looks
returns-in_err-folders-clause-looks g c = looks_none (g.met.M.Machine.only_now c.args.machine.now) (search rules)

pub boot_entry-requires : goal.boot_entry-requires
boot_entry-requires g c = record {
  there = λ told.
      let old = g.M.Machine.state c.args.machine.now in
      subst (λ (s : State). has (seen s) c.in-Some.item.now.path ≡ true) (sym (c.menu_at.ensures.looks.reads told).same)
      (first_there old.files c.in_ok-folders.folders c.deref.result.now c.in-Some.item.now
      (subst (IsMenu (IsEntry old.files c.in_ok-folders.folders)) (sym c.deref.ensures.value) (c.in_ok-menu.ensures.menu told)) c.in-Some.ensures.value);
}

pub returns-in-Some-clause-looks : goal.returns-in-Some-clause-looks
returns-in-Some-clause-looks g c = looks_on c.menu_at.ensures.looks c.boot_entry.ensures.looks (search rules)
