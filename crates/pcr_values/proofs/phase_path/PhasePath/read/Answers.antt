use Rattle.std.proofs.Common.{◌∙◌, ap, filter, lit<, rules}
use Rattle.std.proofs.lemmas.Iterator.Consumers.{YieldsList-end}
use Rattle.std.proofs.lemmas.Iterator.Splits.{YieldsList-from_str_split}
use Rattle.pcr_values.specs.Prelude.{colon, is_phase_word}
use Rattle.pcr_values.proofs.phase_path.PhasePath.read.Goals as goal

pub returns : goal.returns
returns c =
    let cut = YieldsList-from_str_split colon c.args.text.now (lit< tt) (search rules) (search rules) (search rules) in
    c.loop-word.invariant
    ∙ ap (filter is_phase_word) (YieldsList-end cut c.loop-word.yielded _ c.loop-word.yielded_by _ c.next.new.self c.in-None.is c.next.ensures.steps).0
