use Rattle.std.proofs.Common.{◌∙◌}
use Rattle.boot_base.specs.Layout.{entries_below, images_below}
use Rattle.command_plans.specs.Prelude.{path_under}
use Rattle.command_plans.proofs.WordErrors.{word_error_first, word_error_next, done_next, means_word_error}
use Rattle.command_plans.proofs.menus.folders_in.Goals as goal

pub returns-in_err-entries : goal.returns-in_err-entries
returns-in_err-entries c =
    means_word_error _ c.in_err-entries.field-0.0 _ _ c.from_residual-in_err-entries.ensures.0 c.from_residual-in_err-entries.ensures.1
    (word_error_next c.in_err-entries.field-0.0 _ c.in_ok-esp.esp _ c.in_ok-esp.ensures
    (word_error_first c.in_err-entries.field-0.0 (path_under c.in_ok-esp.esp entries_below) _ c.in_err-entries.ensures))

pub returns-in_err-images : goal.returns-in_err-images
returns-in_err-images c =
    means_word_error _ c.in_err-images.field-0.0 _ _ c.from_residual-in_err-images.ensures.0 c.from_residual-in_err-images.ensures.1
    (word_error_next c.in_err-images.field-0.0 _ c.in_ok-esp.esp _ c.in_ok-esp.ensures
    (word_error_next c.in_err-images.field-0.0 (path_under c.in_ok-esp.esp entries_below) c.in_ok-entries.entries _ c.in_ok-entries.ensures
    (word_error_first c.in_err-images.field-0.0 (path_under c.in_ok-esp.esp images_below) _ c.in_err-images.ensures)))

pub returns : goal.returns
returns c =
    done_next _ c.in_ok-esp.esp _ c.in_ok-esp.ensures
    ∙ done_next (path_under c.in_ok-esp.esp entries_below) c.in_ok-entries.entries _ c.in_ok-entries.ensures
    ∙ done_next (path_under c.in_ok-esp.esp images_below) c.in_ok-images.images _ c.in_ok-images.ensures
