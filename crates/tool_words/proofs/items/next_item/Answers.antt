use Rattle.std.proofs.Common.{Ok, ap, ◌∙◌}
use Rattle.std.proofs.lemmas.Result.{err_from_is_err_and}
use Rattle.word_grammar.specs.Shown.{option_shown}
use Rattle.tool_words.specs.Shown.{said_shown}
use Rattle.tool_words.proofs.ItemSteps.{items-ends, items-plain, items-whole, items-said_err, items-with_next_word, items-opened_err}
use Rattle.tool_words.proofs.items.next_item.Goals as goal

pub returns-in_err-read_word-clause-step : goal.returns-in_err-read_word-clause-step
returns-in_err-read_word-clause-step c =
    let p = err_from_is_err_and c.from_residual.result c.from_residual.ensures.1 in
    rw (p.1, p.2) (items-said_err _ _ _ _ c.in_err-read_word.ensures)

pub returns-in_err-next-in-Open-clause-step : goal.returns-in_err-next-in-Open-clause-step
returns-in_err-next-in-Open-clause-step c =
    let p = err_from_is_err_and c.from_residual-in_err-next-in-Open.result c.from_residual-in_err-next-in-Open.ensures.1 in
    rw (p.1, p.2) (items-opened_err _ _ (option_shown c.in-Open.option) _ _ (c.in_ok-read_word.ensures ∙ ap (λ s. Ok (said_shown s)) c.in-Open.is) c.in_err-next-in-Open.ensures.value)

pub returns-in-Ends-clause-step : goal.returns-in-Ends-clause-step
returns-in-Ends-clause-step c = items-ends _ _ _ (c.in_ok-read_word.ensures ∙ ap (λ s. Ok (said_shown s)) c.in-Ends.is)

pub returns-in-Plain-clause-step : goal.returns-in-Plain-clause-step
returns-in-Plain-clause-step c = items-plain _ _ _ (c.in_ok-read_word.ensures ∙ ap (λ s. Ok (said_shown s)) c.in-Plain.is)

pub returns-in-Whole-clause-step : goal.returns-in-Whole-clause-step
returns-in-Whole-clause-step c = items-whole _ _ _ _ _ (c.in_ok-read_word.ensures ∙ ap (λ s. Ok (said_shown s)) c.in-Whole.is)

pub returns-in_ok-next-in-Open-clause-step : goal.returns-in_ok-next-in-Open-clause-step
returns-in_ok-next-in-Open-clause-step c =
    items-with_next_word _ _ (option_shown c.in-Open.option) _ _ _ (c.in_ok-read_word.ensures ∙ ap (λ s. Ok (said_shown s)) c.in-Open.is) c.in_ok-next-in-Open.ensures.value
