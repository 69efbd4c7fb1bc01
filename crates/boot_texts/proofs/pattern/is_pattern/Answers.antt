use Rattle.std.proofs.Common.{◌∙◌, sym}
use Rattle.boot_texts.specs.PatternItems.{item_of}
use Rattle.boot_texts.proofs.PatternSearch.{items_behind, items_end}
use Rattle.boot_texts.proofs.pattern.is_pattern.Goals as goal

pub loop-behind-preserved : goal.loop-behind-preserved
loop-behind-preserved c =
    let same = items_behind c.loop-behind.rest.now (item_of c.in-Some.field-0-0) c.in-Some.behind.now (sym c.in-Some.ensures.value) in
    (λ is. same.0 (c.loop-behind.invariant.0 is), λ is. c.loop-behind.invariant.1 (same.1 is))

pub returns : goal.returns
returns c =
    let end = items_end c.loop-behind.rest.now (sym c.in_default.ensures.value) in
    (λ is. c.loop-behind.invariant.1 (end.0 (sym c.is_empty.ensures ∙ is)), λ is. c.is_empty.ensures ∙ end.1 (c.loop-behind.invariant.0 is))
