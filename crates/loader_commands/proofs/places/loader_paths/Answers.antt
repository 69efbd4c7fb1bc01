use Rattle.std.proofs.Common.{◌∙◌}
use Rattle.command_plans.specs.Prelude.{folders_of}
use Rattle.command_plans.proofs.WordErrors.{word_error_first, word_error_next, done_next, means_word_error}
use Rattle.loader_commands.specs.Places.{conf_path}
use Rattle.loader_commands.proofs.places.loader_paths.Goals as goal

pub returns-in_err-conf : goal.returns-in_err-conf
returns-in_err-conf c =
    means_word_error _ c.in_err-conf.field-0.0 _ _ c.from_residual-in_err-conf.ensures.0 c.from_residual-in_err-conf.ensures.1
    (word_error_next c.in_err-conf.field-0.0 (folders_of c.args.esp.now) c.in_ok-folders.folders _ c.in_ok-folders.ensures
    (word_error_first c.in_err-conf.field-0.0 (conf_path c.args.esp.now) _ c.in_err-conf.ensures.means))

pub returns : goal.returns
returns c =
    done_next (folders_of c.args.esp.now) c.in_ok-folders.folders _ c.in_ok-folders.ensures
    ∙ done_next (conf_path c.args.esp.now) c.in_ok-conf.conf _ c.in_ok-conf.ensures.means
