-- Nothing is read of a file without a path.
use Rattle.std.proofs.Common.{ap, ◌∙◌, rules}
use Rattle.menu_order.specs.Splits.{has_suffix}
use Rattle.boot_machine.proofs.Reading.{looks_none}
use Rattle.boot_entries.proofs.entry.entry_named.Goals as goal

pub returns-in-Err-BadPath-clause-looks : goal.returns-in-Err-BadPath-clause-looks
returns-in-Err-BadPath-clause-looks g c = looks_none (g.met.M.Machine.only_now c.args.machine.now) (search rules)

pub returns-in-Err-Memory-clause-looks : goal.returns-in-Err-Memory-clause-looks
returns-in-Err-Memory-clause-looks g c = looks_none (g.met.M.Machine.only_now c.args.machine.now) (search rules)

pub entry_at-requires : goal.entry_at-requires
entry_at-requires g c = ap (has_suffix c.args.suffix) c.in-Ok.ensures.name ∙ c.requires
