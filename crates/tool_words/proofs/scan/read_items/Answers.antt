use Rattle.tool_words.proofs.Scans.{Reads-all}
use Rattle.tool_words.proofs.scan.read_items.Goals as goal

pub returns : goal.returns
returns c = Reads-all _ _ _ c.loop-word.rest.now c.in_default.ensures.cases c.loop-word.invariant
