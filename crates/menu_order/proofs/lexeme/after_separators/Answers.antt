-- What is cut off has no token, and the cut stands before the first byte of one.
use Rattle.std.proofs.Common.{drop, ap, ◌∙◌}
use Rattle.std.proofs.lemmas.List.{take_rest}
use Rattle.menu_order.specs.VersionTokens.{tokens_of}
use Rattle.menu_order.proofs.LexemeRuns.{tokens_of-separators, first_of_token}
use Rattle.menu_order.proofs.lexeme.after_separators.Goals as goal

pub returns-clause-same : goal.returns-clause-same
returns-clause-same c =
    ap tokens_of (take_rest c.args.text.now c.separators_len.result ∙ ap (λ n. drop n c.args.text.now) c.separators_len.ensures.value)
    ∙ tokens_of-separators c.args.text.now

pub returns-clause-first : goal.returns-clause-first
returns-clause-first c =
    first_of_token c.args.text.now _
    (take_rest c.args.text.now c.separators_len.result ∙ ap (λ n. drop n c.args.text.now) c.separators_len.ensures.value)
