use Rattle.std.proofs.Common.{ap, sym, ◌∙◌}
use Rattle.std.specs.Option.{option_copied, option_or}
use Rattle.boot_texts.specs.KeyValues.{given_value}
use Rattle.boot_texts.proofs.LastValue.{last_value_more, option_copied-or}
use Rattle.boot_texts.specs.EntryLines.{entry_reading}
use Rattle.boot_texts.proofs.entry_line.last_value.Goals as goal

pub loop-line-preserved : goal.loop-line-preserved
loop-line-preserved c =
    let more = last_value_more entry_reading c.args.key.now (λ line. line.now) c.loop-line.yielded c.in-Some.line in
    let or = option_copied-or c.value_in.result c.loop-line.found in
    ap option_copied c.or-found.ensures
    ∙ or
    ∙ ap (λ given. option_or given (option_copied c.loop-line.found)) c.value_in.ensures
    ∙ ap (option_or (given_value c.args.key.now (entry_reading c.in-Some.line.now))) c.loop-line.invariant
    ∙ sym more
