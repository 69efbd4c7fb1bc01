-- The closure compares paths.
use Rattle.std.proofs.Common.{rules, IsSorted}
use Rattle.std.proofs.lemmas.Result.{IfOk-weaker}
use Rattle.boot_entries.specs.Scanning.{path_order}
use Rattle.boot_entries.proofs.OncePaths.{sorted_by_paths}
use Rattle.boot_entries.proofs.once.sort_by_path.Goals as goal

pub returns-clause-sorted : goal.returns-clause-sorted
returns-clause-sorted c =
    IfOk-weaker c.sort_by.result _ (λ _. IsSorted path_order c.sort_by.new.self.items)
    (λ _ up. sorted_by_paths c.sort_by.new.self.items up (λ f a r f' k. search rules))
    c.sort_by.ensures.sorted
