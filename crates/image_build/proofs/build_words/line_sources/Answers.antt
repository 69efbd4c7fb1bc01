use Rattle.std.proofs.Common.{ap, option_map}
use Rattle.command_plans.proofs.WordErrors.{means_word_error}
use Rattle.image_build.specs.Building.{clean}
use Rattle.image_build.proofs.Wants.{given_word_error, given_none, given_some}
use Rattle.image_build.proofs.build_words.line_sources.Goals as goal

pub returns-in_err-source-in-Some : goal.returns-in_err-source-in-Some
returns-in_err-source-in-Some c =
    means_word_error _ c.in_err-source-in-Some.field-0.0 _ _ c.from_residual.ensures.0 c.from_residual.ensures.1
    (given_word_error c.in_err-source-in-Some.field-0.0 (option_map clean c.args.given.now) (clean c.in-Some.given) (ap (option_map clean) c.in-Some.is) c.in_err-source-in-Some.ensures)

pub returns-in-None : goal.returns-in-None
returns-in-None c = given_none (option_map clean c.args.given.now) _ (ap (option_map clean) c.in-None.is) c.new.ensures.items

pub returns-in_ok-one_source-in-Some : goal.returns-in_ok-one_source-in-Some
returns-in_ok-one_source-in-Some c =
    given_some (option_map clean c.args.given.now) (clean c.in-Some.given) c.in_ok-source-in-Some.source _ (ap (option_map clean) c.in-Some.is) c.in_ok-source-in-Some.ensures
    c.in_ok-one_source-in-Some.ensures
