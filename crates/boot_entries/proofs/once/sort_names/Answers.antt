-- The closure compares names.
use Rattle.std.proofs.Common.{rules, IsSorted}
use Rattle.std.proofs.lemmas.Result.{IfOk-weaker}
use Rattle.boot_machine.specs.Prelude.{path_cmp}
use Rattle.boot_entries.proofs.OnceNames.{sorted_names}
use Rattle.boot_entries.proofs.once.sort_names.Goals as goal

pub returns-clause-sorted : goal.returns-clause-sorted
returns-clause-sorted c =
    IfOk-weaker c.sort_by.result _ (λ _. IsSorted path_cmp c.sort_by.new.self.items)
    (λ _ up. sorted_names c.sort_by.new.self.items up (λ f a r f' k. search rules))
    c.sort_by.ensures.sorted
