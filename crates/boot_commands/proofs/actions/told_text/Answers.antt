use Rattle.std.proofs.Common.{List, ℕ, ap, length, sym, ◌∙◌}
use Rattle.std.proofs.lemmas.Bool.{eqb-false, eqb-true}
use Rattle.std.proofs.lemmas.Result.{IfOk-weaker}
use Rattle.boot_commands.proofs.Expansions.{told_empty, told_some}
use Rattle.boot_commands.proofs.actions.told_text.Goals as goal

pub returns-then-is_empty : goal.returns-then-is_empty
returns-then-is_empty c =
    IfOk-weaker c.of.result _ _
    (λ told is. is ∙ sym (told_empty c.args.text.now (ap (λ (l : List ℕ). length l) (sym c.as_slice-text.ensures) ∙ eqb-true _ 0 (sym c.is_empty.ensures ∙ c.if-is_empty.true)))) c.of.ensures

pub returns : goal.returns
returns c =
    IfOk-weaker c.of-2.result _ _
    (λ told is. is ∙ c.as_slice-text.ensures ∙ sym (told_some c.args.text.now
    (λ none. eqb-false _ 0 (sym c.is_empty.ensures ∙ c.if-is_empty.false) (ap (λ (l : List ℕ). length l) c.as_slice-text.ensures ∙ none)))) c.of-2.ensures
