use Rattle.command_plans.proofs.WordErrors.{means_word_error}
use Rattle.image_build.specs.Building.{extra_part, source_of}
use Rattle.command_plans.proofs.Each.{each_one, each_one_fails}
use Rattle.image_build.proofs.Wants.{part_put, with_one, with_one_word_error}
use Rattle.image_build.proofs.build_words.append_section.Goals as goal

pub returns-in_err-source : goal.returns-in_err-source
returns-in_err-source c =
    means_word_error _ c.in_err-source.field-0.0 _ _ c.from_residual.ensures.0 c.from_residual.ensures.1
    (with_one_word_error c.in_err-source.field-0.0 (extra_part c.args.section.now) _ (each_one_fails source_of c.args.section.now.1 c.in_err-source.field-0.0 c.in_err-source.ensures))

pub returns : goal.returns
returns c =
    with_one (extra_part c.args.section.now) _ _ _ (each_one source_of c.args.section.now.1 c.in_ok-source.source c.in_ok-source.ensures)
    (part_put _ _ _ _ c.in_ok-push.ensures c.in_ok-sources.ensures)
