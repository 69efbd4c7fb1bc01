use Rattle.std.proofs.Common.{◌∙◌, ap, sym, Ok}
use Rattle.command_plans.specs.Prelude.{path_in}
use Rattle.command_plans.proofs.WordErrors.{means_word_error}
use Rattle.command_plans.proofs.Each.{each_none, each_taken, taken_word_error}
use Rattle.type1_install.proofs.install_words.paths_in.Goals as goal

pub loop-word-init : goal.loop-word-init
loop-word-init c = each_none _ ∙ ap Ok (sym c.new-paths.ensures.items)

pub returns-in_err-path : goal.returns-in_err-path
returns-in_err-path c =
    means_word_error _ c.in_err-path.field-0.0 _ _ c.from_residual.ensures.0 c.from_residual.ensures.1
    (taken_word_error path_in c.args.words.now c.loop-word.word-index c.loop-word.paths.items c.as_str.result.now c.word-item.result c.in_err-path.field-0.0 c.loop-word-test.true c.loop-word.invariant
    (c.as_str.ensures ∙ c.word-item.is) c.in_err-path.ensures)

pub loop-word-preserved : goal.loop-word-preserved
loop-word-preserved c =
    each_taken path_in c.args.words.now c.loop-word.word-index c.loop-word.paths.items c.push.new.items.items c.as_str.result.now c.word-item.result c.in_ok-path.path c.loop-word-test.true c.loop-word.invariant
    (c.as_str.ensures ∙ c.word-item.is) c.in_ok-path.ensures c.in_ok-push.ensures
