use Rattle.std.proofs.Common.{ap, sym, ◌∙◌, ◌++◌, ◌∷◌, [], append-nil, option_copied, option_to_list}
use Rattle.boot_texts.specs.KeyValues.{given_value}
use Rattle.boot_texts.proofs.LastValue.{values_of_more}
use Rattle.boot_texts.specs.EntryLines.{entry_reading}
use Rattle.boot_texts.proofs.entry_values.all_copies.Goals as goal

pub loop-line-preserved-in_ok-push : goal.loop-line-preserved-in_ok-push
loop-line-preserved-in_ok-push c =
    c.in_ok-push.ensures.ok
    ∙ ap (λ value. c.loop-line.values ++ value ∷ []) c.in_ok-of.ensures
    ∙ ap (λ given. c.loop-line.values ++ option_to_list given) c.in-Some-value_in.ensures
    ∙ ap (λ values. values ++ option_to_list (given_value c.args.key.now (entry_reading c.in-Some.line.now))) c.loop-line.invariant
    ∙ sym (values_of_more entry_reading c.args.key.now (λ line. line.now) c.loop-line.yielded c.in-Some.line)

pub loop-line-preserved : goal.loop-line-preserved
loop-line-preserved c =
    sym (append-nil c.loop-line.values)
    ∙ ap (λ given. c.loop-line.values ++ option_to_list given) (sym (ap option_copied c.in_default.is) ∙ c.value_in.ensures)
    ∙ ap (λ values. values ++ option_to_list (given_value c.args.key.now (entry_reading c.in-Some.line.now))) c.loop-line.invariant
    ∙ sym (values_of_more entry_reading c.args.key.now (λ line. line.now) c.loop-line.yielded c.in-Some.line)
