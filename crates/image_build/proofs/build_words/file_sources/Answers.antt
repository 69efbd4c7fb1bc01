use Rattle.std.proofs.Common.{◌∙◌, ap, sym, Ok}
use Rattle.command_plans.proofs.WordErrors.{means_word_error}
use Rattle.tool_words.specs.declared.command.Given.TheVariants.{File}
use Rattle.image_build.specs.Building.{source_of}
use Rattle.command_plans.proofs.Each.{each_none, each_taken, taken_word_error}
use Rattle.image_build.proofs.build_words.file_sources.Goals as goal

pub loop-word-init : goal.loop-word-init
loop-word-init c = each_none _ ∙ ap Ok (sym c.new-sources.ensures.items)

pub returns-in_err-source : goal.returns-in_err-source
returns-in_err-source c =
    means_word_error _ c.in_err-source.field-0.0 _ _ c.from_residual.ensures.0 c.from_residual.ensures.1
    (taken_word_error (λ word. source_of (File word)) c.args.words.now c.loop-word.word-index c.loop-word.sources.items c.as_str.result.now
    c.word-item.result c.in_err-source.field-0.0 c.loop-word-test.true c.loop-word.invariant
    (c.as_str.ensures ∙ c.word-item.is) c.in_err-source.ensures)

pub loop-word-preserved : goal.loop-word-preserved
loop-word-preserved c =
    each_taken (λ word. source_of (File word)) c.args.words.now c.loop-word.word-index c.loop-word.sources.items c.push.new.items.items
    c.as_str.result.now c.word-item.result c.in_ok-source.source c.loop-word-test.true c.loop-word.invariant
    (c.as_str.ensures ∙ c.word-item.is) c.in_ok-source.ensures c.in_ok-push.ensures
