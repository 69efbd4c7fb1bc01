use Rattle.std.proofs.Common.{◌∙◌, ◌++◌, ◌∷◌, [], ap, sym, take}
use Rattle.std.proofs.lemmas.List.{take_more}
use Rattle.boot_base.specs.Paths.{Path}
use Rattle.command_plans.proofs.WordErrors.{means_word_error}
use Rattle.command_plans.proofs.Each.{each_none, each_taken, taken_word_error}
use Rattle.type1_install.specs.Installing.{install_source}
use Rattle.type1_install.proofs.install_words.check_initrds.Goals as goal

pub loop-path-init : goal.loop-path-init
loop-path-init c = each_none _

pub returns-in_err-check_source : goal.returns-in_err-check_source
returns-in_err-check_source c =
    means_word_error _ c.in_err-check_source.field-0.0 _ _ c.from_residual.ensures.0 c.from_residual.ensures.1
    (taken_word_error (install_source c.args.place.now.esp) c.args.paths.now c.loop-path.path-index
    (take c.loop-path.path-index c.args.paths.now) c.path-item.result c.path-item.result c.in_err-check_source.field-0.0
    c.loop-path-test.true c.loop-path.invariant c.path-item.is c.in_err-check_source.ensures)

pub loop-path-preserved : goal.loop-path-preserved
loop-path-preserved c =
    let i = c.loop-path.path-index in
    let paths = c.args.paths.now in
    each_taken (install_source c.args.place.now.esp) paths i
    (take i paths) _ c.path-item.result c.path-item.result c.path-item.result c.loop-path-test.true c.loop-path.invariant c.path-item.is c.in_ok-check_source.ensures
    (take_more paths i c.path-item.result c.loop-path-test.true ∙ ap (λ (y : Path). take i paths ++ y ∷ []) (sym c.path-item.is))
