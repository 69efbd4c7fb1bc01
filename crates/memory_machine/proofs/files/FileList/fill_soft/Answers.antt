use Rattle.std.proofs.Common.{◌≡◌, map, subst, rules}
use Rattle.boot_machine.specs.Prelude.{Files, is_listed}
use Rattle.memory_machine.specs.Entries.{files_of, pairs_of, left_pair}
use Rattle.memory_machine.specs.Stops.{IsFilled}
use Rattle.memory_machine.proofs.RedoneLemmas.{filled_entries}
use Rattle.memory_machine.proofs.files.FileList.fill_soft.Goals as goal

pub returns : goal.returns
returns c =
    let is : pairs_of c.in_ok-left.left.items ≡ map (left_pair (is_listed c.args.soft.now) c.args.fill.now) c.self.inside.entries.items = search rules in
    subst (λ (files : Files). IsFilled (is_listed c.args.soft.now) c.args.fill.now files (files_of c.in_ok-left.left.items)) c.self.view_is (filled_entries (is_listed c.args.soft.now) c.args.fill.now c.self.inside.entries.items c.in_ok-left.left.items is)
