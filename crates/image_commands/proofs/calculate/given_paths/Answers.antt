use Rattle.std.proofs.Common.{arith}
use Rattle.command_plans.proofs.Each.{each_none}
use Rattle.image_commands.proofs.Parts.{word_more, word_error_of, words_all}
use Rattle.image_commands.proofs.calculate.given_paths.Goals as goal

pub loop-name-init : goal.loop-name-init
loop-name-init c = rw c.new-paths.ensures.items (each_none _)

pub returns : goal.returns
returns c = words_all c.args.words.now c.loop-name.name-index _ (omega (arith, c.loop-name-test.false)) c.loop-name.invariant

pub returns-in_err-path : goal.returns-in_err-path
returns-in_err-path c =
    word_error_of _ c.args.words.now c.loop-name.name-index _ c.in-Some.word _ c.in_err-path.field-0.0 c.from_residual.result c.loop-name-test.true
    c.in-Some.is c.in_err-path.ensures c.loop-name.invariant c.from_residual.ensures.0 c.from_residual.ensures.1

pub loop-name-preserved : goal.loop-name-preserved
loop-name-preserved c =
    word_more c.args.words.now c.loop-name.name-index _ c.in-Some.word c.in_ok-path.path c.loop-name.paths.items c.push.new.items.items
    c.loop-name-test.true c.in-Some.is c.in_ok-path.ensures c.in_ok-push.ensures c.loop-name.invariant
