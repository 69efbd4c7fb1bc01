use Rattle.std.proofs.Common.{◌≡◌, ◌∙◌, ◌∷◌, ◌++◌, [], Ok, List, ap, arith, length, map, subst, sym, rules, All, sum_by}
use Rattle.boot_base.specs.Paths.{Path}
use Rattle.boot_machine.specs.Prelude.{State, TakesAtMost, seen}
use Rattle.boot_machine.proofs.Reading.{looks_none, looks_on}
use Rattle.command_plans.specs.Prelude.{bytes_at, each, ReadErrorFor}
use Rattle.command_plans.proofs.ReadErrors.{says_read_error}
use Rattle.boot_texts.specs.EntryText.{entry_text}
use Rattle.tool_words.specs.declared.action.Action.{Action}
use Rattle.tool_words.specs.declared.action.Action.TheVariants as action
use Rattle.type1_install.specs.Installing.{digesting_length, install_plan}
use Rattle.type1_install.specs.Shown.{HasPayloadName, fields_with, payload_at, plan_shown, put_in}
use Rattle.type1_install.specs.declared.payload.Payload.{Payload}
use Rattle.type1_install.proofs.Expanding.{both_made, expansion_made, expansion_refused, first_read_error, later_read_error}
use Rattle.type1_install.proofs.Taken.{installed}
use Rattle.type1_install.proofs.installation.install_expansion.Goals as goal

pub returns-in_err-plan-clause-looks : goal.returns-in_err-plan-clause-looks
returns-in_err-plan-clause-looks g c = looks_none (g.met.M.Machine.only_now c.args.machine.now) (search rules)

pub returns-in_err-linux-clause-says : goal.returns-in_err-linux-clause-says
returns-in_err-linux-clause-says g c told =
    let view = seen (g.M.Machine.state c.args.machine.now) in
    let plan = plan_shown c.args.words.now.texts c.in_ok-plan.plan in
    let why = c.in_err-linux.field-0.0 in
    says_read_error c.from_residual-in_err-linux.result why _ _ c.from_residual-in_err-linux.ensures.0 c.from_residual-in_err-linux.ensures.1
    (expansion_refused view c.args.words.now plan c.in_ok-plan.ensures.means why (first_read_error view plan.linux plan.initrds why (c.in_err-linux.ensures.says told)))

pub returns-in_err-initrds-clause-says : goal.returns-in_err-initrds-clause-says
returns-in_err-initrds-clause-says g c told =
    let view = seen (g.M.Machine.state c.args.machine.now) in
    let plan = plan_shown c.args.words.now.texts c.in_ok-plan.plan in
    let why = c.in_err-initrds.field-0.0 in
    let same = (c.payload_at.ensures.looks.reads told).same in
    let later : ReadErrorFor why (each (payload_at view) plan.initrds) =
    subst (λ (files : List Path). ReadErrorFor why (each (payload_at view) files)) c.deref.ensures.value
    (subst (λ (s : State). ReadErrorFor why (each (payload_at (seen s)) c.deref.result.now)) same (c.in_err-initrds.ensures.says told)) in
    says_read_error c.from_residual-in_err-initrds.result why _ _ c.from_residual-in_err-initrds.ensures.0 c.from_residual-in_err-initrds.ensures.1
    (expansion_refused view c.args.words.now plan c.in_ok-plan.ensures.means why (later_read_error view plan.linux plan.initrds c.in_ok-linux.linux (c.in_ok-linux.ensures.says told) why later))

pub returns-in_err-initrds-clause-looks : goal.returns-in_err-initrds-clause-looks
returns-in_err-initrds-clause-looks g c = looks_on c.payload_at.ensures.looks c.payloads_at.ensures.looks (search rules)

pub install_commands-requires-clause-initrds : goal.install_commands-requires-clause-initrds
install_commands-requires-clause-initrds g c = subst (All HasPayloadName) (sym c.deref-2.ensures.value) c.in_ok-initrds.ensures.names

pub install_commands-requires-clause-few : goal.install_commands-requires-clause-few
install_commands-requires-clause-few g c =
    omega (arith, ap (λ (l : List Payload). length l) c.deref-2.ensures.value, c.in_ok-initrds.ensures.count, ap (λ (l : List Path). length l) c.deref.ensures.value, c.in_ok-plan.ensures.few)

pub returns-in_err-install_commands-clause-looks : goal.returns-in_err-install_commands-clause-looks
returns-in_err-install_commands-clause-looks g c = looks_on c.payload_at.ensures.looks c.payloads_at.ensures.looks (search rules)

pub returns-clause-looks : goal.returns-clause-looks
returns-clause-looks g c = looks_on c.payload_at.ensures.looks c.payloads_at.ensures.looks (search rules)

pub returns-clause-says : goal.returns-clause-says
returns-clause-says g c told =
    let made : Path → List Payload → List Action =
    λ folder initrds. put_in folder c.in_ok-linux.linux ∷ (map (put_in folder) initrds ++ action.Enter c.in_ok-plan.plan.place.entry
    (entry_text (fields_with c.args.words.now.texts c.in_ok-linux.linux initrds)) ∷ []) in
    let view = seen (g.M.Machine.state c.args.machine.now) in
    let plan = plan_shown c.args.words.now.texts c.in_ok-plan.plan in
    let same = (c.payload_at.ensures.looks.reads told).same in
    let later : each (payload_at view) plan.initrds ≡ Ok c.in_ok-initrds.initrds.items =
    subst (λ (files : List Path). each (payload_at view) files ≡ Ok c.in_ok-initrds.initrds.items) c.deref.ensures.value
    (subst (λ (s : State). each (payload_at (seen s)) c.deref.result.now ≡ Ok c.in_ok-initrds.initrds.items) same (c.in_ok-initrds.ensures.says told)) in
    expansion_made view c.args.words.now plan c.in_ok-plan.ensures.means c.in_ok-linux.linux c.in_ok-initrds.initrds.items
    (both_made view plan.linux plan.initrds c.in_ok-linux.linux (c.in_ok-linux.ensures.says told) c.in_ok-initrds.initrds.items later)
    ∙ ap (λ (l : List Action). Ok l) (sym (c.in_ok-install_commands.ensures ∙ (λ i. made (c.in_ok-plan.ensures.folder i) (c.deref-2.ensures.value i))))

pub returns-in_err-linux-clause-taken : goal.returns-in_err-linux-clause-taken
returns-in_err-linux-clause-taken g c told =
    let view = seen (g.M.Machine.state c.args.machine.now) in
    let plan = plan_shown c.args.words.now.texts c.in_ok-plan.plan in
    installed view (install_plan c.args.words.now) plan _ _ _ c.in_ok-plan.ensures.means (c.payload_at.ensures.taken told) (omega arith)

pub returns-in_err-initrds-clause-taken : goal.returns-in_err-initrds-clause-taken
returns-in_err-initrds-clause-taken g c told =
    let view = seen (g.M.Machine.state c.args.machine.now) in
    let plan = plan_shown c.args.words.now.texts c.in_ok-plan.plan in
    let took : List Path → State → Type 0 =
    λ files s. TakesAtMost (sum_by (λ file. digesting_length (bytes_at (seen s) file)) files) (g.M.Machine.taken c.payload_at.new.machine) (g.M.Machine.taken c.payloads_at.new.machine) in
    installed view (install_plan c.args.words.now) plan _ _ _ c.in_ok-plan.ensures.means (c.payload_at.ensures.taken told)
    (subst (λ (files : List Path). took files (g.M.Machine.state c.args.machine.now)) c.deref.ensures.value
    (subst (took c.deref.result.now) (c.payload_at.ensures.looks.reads told).same (c.payloads_at.ensures.taken told)))

pub returns-in_err-install_commands-clause-taken : goal.returns-in_err-install_commands-clause-taken
returns-in_err-install_commands-clause-taken g c told =
    let view = seen (g.M.Machine.state c.args.machine.now) in
    let plan = plan_shown c.args.words.now.texts c.in_ok-plan.plan in
    let took : List Path → State → Type 0 =
    λ files s. TakesAtMost (sum_by (λ file. digesting_length (bytes_at (seen s) file)) files) (g.M.Machine.taken c.payload_at.new.machine) (g.M.Machine.taken c.payloads_at.new.machine) in
    installed view (install_plan c.args.words.now) plan _ _ _ c.in_ok-plan.ensures.means (c.payload_at.ensures.taken told)
    (subst (λ (files : List Path). took files (g.M.Machine.state c.args.machine.now)) c.deref.ensures.value
    (subst (took c.deref.result.now) (c.payload_at.ensures.looks.reads told).same (c.payloads_at.ensures.taken told)))

pub returns-clause-taken : goal.returns-clause-taken
returns-clause-taken g c told =
    let view = seen (g.M.Machine.state c.args.machine.now) in
    let plan = plan_shown c.args.words.now.texts c.in_ok-plan.plan in
    let took : List Path → State → Type 0 =
    λ files s. TakesAtMost (sum_by (λ file. digesting_length (bytes_at (seen s) file)) files) (g.M.Machine.taken c.payload_at.new.machine) (g.M.Machine.taken c.payloads_at.new.machine) in
    installed view (install_plan c.args.words.now) plan _ _ _ c.in_ok-plan.ensures.means (c.payload_at.ensures.taken told)
    (subst (λ (files : List Path). took files (g.M.Machine.state c.args.machine.now)) c.deref.ensures.value
    (subst (took c.deref.result.now) (c.payload_at.ensures.looks.reads told).same (c.payloads_at.ensures.taken told)))
