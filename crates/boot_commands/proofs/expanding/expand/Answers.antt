use Rattle.std.proofs.Common.{ℕ, List, sym, subst}
use Rattle.std.proofs.lemmas.Result.{IfOk-weaker}
use Rattle.boot_machine.specs.Prelude.{TakesAtMost, seen}
use Rattle.boot_machine.proofs.Reading.{looks_none}
use Rattle.command_plans.specs.Prelude.{folders_of, menu_limit, Says}
use Rattle.tool_words.specs.declared.command.Several.{Several}
use Rattle.type1_install.specs.Cleaning.{cleanup_expansion}
use Rattle.boot_commands.specs.Demonstration.{demo_result}
use Rattle.boot_commands.specs.Expanding.{StandsFor, expanding_length}
use Rattle.boot_commands.proofs.Expansions.{clean_stands, demo_stands, install_stands, keep_stands}
use Rattle.boot_commands.proofs.expanding.expand.Goals as goal

pub returns-in-Type1Install-clause-stands : goal.returns-in-Type1Install-clause-stands
returns-in-Type1Install-clause-stands g c =
    let old = g.M.Machine.state c.args.machine.now in
    IfOk-weaker c.install_or_refusal.result _ _
    (λ actions are told. subst (λ (x : Several). StandsFor old x actions.items) (sym c.in-Type1Install.is)
    (install_stands old _ actions.items (are _ (c.install_expansion-actions.ensures.says told))))
    c.install_or_refusal.ensures.actions

pub returns-in-Type1Cleanup-clause-stands : goal.returns-in-Type1Cleanup-clause-stands
returns-in-Type1Cleanup-clause-stands g c =
    let old = g.M.Machine.state c.args.machine.now in
    IfOk-weaker c.clean_or_refusal.result _ _
    (λ actions are told. subst (λ (x : Several). StandsFor old x actions.items) (sym c.in-Type1Cleanup.is)
    (clean_stands old _ actions.items (are _
    (subst (λ esp. Says (λ actions. actions.items) c.cleanup_expansion-actions.result (cleanup_expansion (seen old) esp)) c.as_str.ensures (c.cleanup_expansion-actions.ensures.says told)))))
    c.clean_or_refusal.ensures.actions

pub returns-in-Keep-clause-stands : goal.returns-in-Keep-clause-stands
returns-in-Keep-clause-stands g c =
    let old = g.M.Machine.state c.args.machine.now in
    IfOk-weaker c.keep_or_refusal.result _ _
    (λ actions are told. subst (λ (x : Several). StandsFor old x actions.items) (sym c.in-Keep.is)
    (keep_stands old _ actions.items (are _ (c.keep_paths-paths.ensures.says told))))
    c.keep_or_refusal.ensures.actions

pub returns-in-Demo-clause-stands : goal.returns-in-Demo-clause-stands
returns-in-Demo-clause-stands g c =
    let old = g.M.Machine.state c.args.machine.now in
    IfOk-weaker c.text_or_refusal.result _ _
    (λ actions are told. subst (λ (x : Several). StandsFor old x actions.items) (sym c.in-Demo.is)
    (demo_stands old _ _ actions.items (are _
    (subst (λ count. Says (λ text. text.items) c.demo_result-text.result (demo_result c.in-Demo.seed count)) c.as_str-in-Demo-2.ensures
    (subst (λ seed. Says (λ text. text.items) c.demo_result-text.result (demo_result seed c.as_str-in-Demo-2.result.now)) c.as_str-in-Demo.ensures c.demo_result-text.ensures.says)))))
    c.text_or_refusal.ensures.actions

pub returns-in-Demo-clause-looks : goal.returns-in-Demo-clause-looks
returns-in-Demo-clause-looks g c =
    let now = g.M.Machine.counts c.args.machine.now in
    looks_none (g.met.M.Machine.only_now c.args.machine.now) (c.text_or_refusal.ensures.counts now now (c.demo_result-text.ensures.counts now))

pub returns-in-Type1Install-clause-taken : goal.returns-in-Type1Install-clause-taken
returns-in-Type1Install-clause-taken g c told =
    let old = g.M.Machine.state c.args.machine.now in
    subst (λ (x : Several). TakesAtMost (expanding_length old x) (g.M.Machine.taken c.args.machine.now) (g.M.Machine.taken c.install_expansion-actions.new.machine)) (sym c.in-Type1Install.is)
    (c.install_expansion-actions.ensures.taken told)

pub returns-in-Type1Cleanup-clause-taken : goal.returns-in-Type1Cleanup-clause-taken
returns-in-Type1Cleanup-clause-taken g c told =
    let old = g.M.Machine.state c.args.machine.now in
    let took : ℕ → Type 0 = λ limit. TakesAtMost limit (g.M.Machine.taken c.args.machine.now) (g.M.Machine.taken c.cleanup_expansion-actions.new.machine) in
    subst (λ (x : Several). took (expanding_length old x)) (sym c.in-Type1Cleanup.is)
    (subst (λ esp. took (menu_limit old.files (folders_of esp))) c.as_str.ensures (c.cleanup_expansion-actions.ensures.taken told))

pub returns-in-Keep-clause-taken : goal.returns-in-Keep-clause-taken
returns-in-Keep-clause-taken g c told =
    let old = g.M.Machine.state c.args.machine.now in
    subst (λ (x : Several). TakesAtMost (expanding_length old x) (g.M.Machine.taken c.args.machine.now) (g.M.Machine.taken c.keep_paths-paths.new.machine)) (sym c.in-Keep.is)
    (c.keep_paths-paths.ensures.taken told)
