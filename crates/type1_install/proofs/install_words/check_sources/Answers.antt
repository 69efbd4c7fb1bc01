use Rattle.std.proofs.Common.{List, subst}
use Rattle.boot_base.specs.Paths.{Path}
use Rattle.command_plans.specs.Prelude.{Means, each}
use Rattle.command_plans.proofs.WordErrors.{means_word_error}
use Rattle.type1_install.specs.Installing.{install_source}
use Rattle.type1_install.proofs.Words.{also_first, first_word_error}
use Rattle.type1_install.proofs.install_words.check_sources.Goals as goal

pub returns-in_err-check_source : goal.returns-in_err-check_source
returns-in_err-check_source c =
    means_word_error _ c.in_err-check_source.field-0.0 _ _ c.from_residual.ensures.0 c.from_residual.ensures.1
    (first_word_error (install_source c.args.place.now.esp) c.args.files.now.linux c.args.files.now.initrds.items c.in_err-check_source.field-0.0 c.in_err-check_source.ensures)

pub returns : goal.returns
returns c =
    let source = install_source c.args.place.now.esp in
    let initrds = c.args.files.now.initrds.items in
    also_first source c.args.files.now.linux initrds c.check_initrds.result c.in_ok-check_source.ensures
    (subst (λ (l : List Path). Means (λ _. l) c.check_initrds.result (each source l)) c.deref.ensures.value c.check_initrds.ensures)
