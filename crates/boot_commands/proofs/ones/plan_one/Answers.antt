use Rattle.std.proofs.Common.{ℕ, List, sym, subst, All, IfOk, IsTrue}
use Rattle.boot_machine.specs.Prelude.{Files}
use Rattle.command_plans.specs.Prelude.{folders_of, Drops, own_temps}
use Rattle.entry_commands.specs.Tidying.{IsTidied, StandsAt}
use Rattle.tool_words.specs.declared.command.One.{One}
use Rattle.boot_commands.specs.Commands.{LeavesTidied, MayOwn}
use Rattle.boot_commands.proofs.ones.plan_one.Goals as goal

pub returns-in-Tidy-clause-tidies : goal.returns-in-Tidy-clause-tidies
returns-in-Tidy-clause-tidies g c =
    let files_of = (g.M.Machine.state c.args.machine.now).files in
    let tidied = λ (esp : List ℕ). IfOk c.plan_tidy.result (λ plan. IsTrue g.M.Machine.tells → (files : Files) → Drops plan.change files_of files → IsTidied esp files) in
    let leaves = λ (command : One). IfOk c.plan_tidy.result (λ plan. IsTrue g.M.Machine.tells → (files : Files) → Drops plan.change files_of files → LeavesTidied command files) in
    subst leaves (sym c.in-Tidy.is) (subst tidied c.as_str-in-Tidy.ensures c.plan_tidy.ensures.tidies)

pub returns-in-Tidy-clause-owns : goal.returns-in-Tidy-clause-owns
returns-in-Tidy-clause-owns g c =
    let within = λ (esp : List ℕ). IfOk c.plan_tidy.result (λ plan. IsTrue g.M.Machine.tells → All (StandsAt (folders_of esp)) (own_temps plan.change)) in
    let owns = λ (command : One). IfOk c.plan_tidy.result (λ plan. IsTrue g.M.Machine.tells → MayOwn command (own_temps plan.change)) in
    subst owns (sym c.in-Tidy.is) (subst within c.as_str-in-Tidy.ensures c.plan_tidy.ensures.within)
