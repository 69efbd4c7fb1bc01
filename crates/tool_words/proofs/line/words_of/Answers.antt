use Rattle.std.proofs.Common.{length, arith, sym, ◌∙◌, chars}
use Rattle.std.proofs.lemmas.Iterator.{YieldsList-from_chars}
use Rattle.std.proofs.lemmas.Iterator.Consumers.{YieldsList-turn, YieldsList-end}
use Rattle.std.proofs.lemmas.List.{at_drop_all, length_push}
use Rattle.std.proofs.lemmas.Result.{IfOk-weaker}
use Rattle.tool_words.specs.Line.{line_words}
use Rattle.tool_words.specs.LineSteps.{all_words}
use Rattle.tool_words.proofs.LineLemmas.{at_next}
use Rattle.tool_words.proofs.line.words_of.Goals as goal

pub loop-c-preserved : goal.loop-c-preserved
loop-c-preserved c =
    let line = chars c.args.line.now in
    let turn = YieldsList-turn (YieldsList-from_chars c.args.line.now c.utf8.line cc) c.loop-c.yielded _ c.loop-c.yielded_by _ _ c.in-Some.c c.in-Some.is c.next.ensures.steps in
    rw length_push (at_next (all_words c.loop-c.words) (all_words c.in_ok-words.words) line (length c.loop-c.yielded) c.in-Some.c (line_words line) turn c.in_ok-words.ensures c.loop-c.invariant)

pub returns : goal.returns
returns c =
    let line = chars c.args.line.now in
    let end = YieldsList-end (YieldsList-from_chars c.args.line.now c.utf8.line cc) c.loop-c.yielded _ c.loop-c.yielded_by _ _ c.in-None.is c.next.ensures.steps in
    let read = at_drop_all (all_words c.loop-c.words) line (length c.loop-c.yielded) (omega (arith, end.1)) in
    IfOk-weaker c.finish.result _ _ (λ words is. is ∙ sym read ∙ c.loop-c.invariant) c.finish.ensures
