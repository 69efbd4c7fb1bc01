use Rattle.std.proofs.Common.{◌∙◌}
use Rattle.boot_base.specs.Layout.{entries_below}
use Rattle.boot_base.specs.Paths.{under}
use Rattle.command_plans.specs.Prelude.{path_in, path_under}
use Rattle.command_plans.proofs.WordErrors.{word_error_first, word_error_next, done_next, means_word_error}
use Rattle.type1_install.specs.Installing.{payload_probe}
use Rattle.type1_install.proofs.install_words.place_in.Goals as goal

pub returns-in_err-entry-clause-means : goal.returns-in_err-entry-clause-means
returns-in_err-entry-clause-means c =
    let why = c.in_err-entry.field-0.0 in
    let esp = c.in_ok-esp.esp in
    means_word_error _ why _ _ c.from_residual-in_err-entry.ensures.0 c.from_residual-in_err-entry.ensures.1
    (word_error_next why (path_in c.args.word.now) esp _ c.in_ok-esp.ensures
    (word_error_next why (path_under esp payload_probe) _ _ c.in_ok-folder.ensures.means
    (word_error_first why (path_under esp (under entries_below c.args.name.now)) _ c.in_err-entry.ensures)))

pub returns-clause-means : goal.returns-clause-means
returns-clause-means c =
    let esp = c.in_ok-esp.esp in
    done_next (path_in c.args.word.now) esp _ c.in_ok-esp.ensures
    ∙ done_next (path_under esp payload_probe) _ _ c.in_ok-folder.ensures.means
    ∙ done_next (path_under esp (under entries_below c.args.name.now)) c.in_ok-entry.entry _ c.in_ok-entry.ensures
