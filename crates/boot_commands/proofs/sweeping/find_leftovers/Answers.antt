use Rattle.std.proofs.Common.{◌≡◌, ◌∙◌, IfOk, IsTrue, ap, bytes_eq, rules, subst, sym, true, All}
use Rattle.std.specs.List.{IsDistinct}
use Rattle.std.proofs.lemmas.Result.{IfOk-weaker}
use Rattle.boot_machine.specs.Prelude.{has}
use Rattle.boot_machine.proofs.Reading.{looks_none}
use Rattle.tool_words.specs.declared.command.Several.{Several}
use Rattle.tool_words.specs.declared.command.Several.TheVariants as several
use Rattle.type1_install.specs.Sweeping.{FindsBeside, StandsBeside, payload_esp}
use Rattle.boot_commands.specs.Sweeps.{FindsSwept, MaySweep}
use Rattle.boot_commands.proofs.Swept.{distinct_none, of_told, told_of}
use Rattle.boot_commands.proofs.sweeping.find_leftovers.Goals as goal

pub returns-in-Type1Cleanup-clause-there : goal.returns-in-Type1Cleanup-clause-there
returns-in-Type1Cleanup-clause-there g c =
    let files = (g.M.Machine.state c.args.machine.now).files in
    told_of c.temps_or_none.result (IsTrue g.M.Machine.tells) (λ temps. All (λ temp. has files temp ≡ true) temps.items)
    (λ told. c.temps_or_none.ensures.there files
    (of_told c.payload_leftovers-temps.result (IsTrue g.M.Machine.tells) (λ temps. All (λ temp. has files temp ≡ true) temps.items) c.payload_leftovers-temps.ensures.there told))

pub returns-in-Type1Cleanup-clause-all : goal.returns-in-Type1Cleanup-clause-all
returns-in-Type1Cleanup-clause-all g c =
    let files = (g.M.Machine.state c.args.machine.now).files in
    let actions = c.args.actions.now in
    let word = c.as_str.result.now in
    let is : c.args.command.now ≡ several.Type1Cleanup word = c.in-Type1Cleanup.is ∙ ap several.Type1Cleanup (sym c.as_str.ensures) in
    told_of c.temps_or_none.result (IsTrue g.M.Machine.tells) (λ temps. FindsSwept c.args.command.now actions files temps.items)
    (λ told. subst (λ (x : Several). IfOk c.temps_or_none.result (λ temps. FindsSwept x actions files temps.items)) (sym is)
    (IfOk-weaker c.temps_or_none.result (λ temps. FindsBeside (payload_esp word) files temps.items) (λ temps. FindsSwept (several.Type1Cleanup word) actions files temps.items)
    (λ temps finds unrefused. finds)
    (c.temps_or_none.ensures.all files (payload_esp word)
    (of_told c.payload_leftovers-temps.result (IsTrue g.M.Machine.tells) (λ temps. FindsBeside (payload_esp word) files temps.items) c.payload_leftovers-temps.ensures.all told)
    c.payload_leftovers-temps.ensures.refused)))

pub returns-in-Type1Cleanup-clause-within : goal.returns-in-Type1Cleanup-clause-within
returns-in-Type1Cleanup-clause-within g c =
    let word = c.as_str.result.now in
    let is : c.args.command.now ≡ several.Type1Cleanup word = c.in-Type1Cleanup.is ∙ ap several.Type1Cleanup (sym c.as_str.ensures) in
    subst (λ (x : Several). IfOk c.temps_or_none.result (λ temps. All (MaySweep x) temps.items)) (sym is)
    (c.temps_or_none.ensures.within (several.Type1Cleanup word) c.payload_leftovers-temps.ensures.within)

pub returns-in_default-clause-distinct : goal.returns-in_default-clause-distinct
returns-in_default-clause-distinct g c = subst (IsDistinct bytes_eq) (sym c.new.ensures.items) distinct_none

pub returns-in_default-clause-looks : goal.returns-in_default-clause-looks
returns-in_default-clause-looks g c = looks_none (g.met.M.Machine.only_now c.args.machine.now) (search rules)
