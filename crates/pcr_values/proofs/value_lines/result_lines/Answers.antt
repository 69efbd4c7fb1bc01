use Rattle.std.proofs.Common.{◌∙◌, ◌++◌, List, [], ℕ, ap, sym, take, ◌∷◌, flat_map}
use Rattle.std.proofs.lemmas.List.{flat_map_more, take_all, take_more}
use Rattle.pcr_values.proofs.ItemLines.{lines_of, lines_of-items}
use Rattle.pcr_values.proofs.value_lines.result_lines.Goals as goal

pub loop-path-preserved : goal.loop-path-preserved
loop-path-preserved c =
    c.in_ok-append_lines.ensures
    ∙ ap (λ (text : List ℕ). text ++ lines_of c.args.starts.now c.path-item.result) c.loop-path.invariant
    ∙ flat_map_more (lines_of c.args.starts.now) [] (take c.loop-path.path-index c.args.paths.now) c.path-item.result
    ∙ sym (ap (flat_map (lines_of c.args.starts.now)) (take_more c.args.paths.now c.loop-path.path-index c.path-item.result c.loop-path-test.true
    ∙ ap (λ (path : List (List ℕ)). take c.loop-path.path-index c.args.paths.now ++ path ∷ []) (sym c.path-item.is)))

pub returns-clause-lines : goal.returns-clause-lines
returns-clause-lines c =
    c.loop-path.invariant
    ∙ ap (flat_map (lines_of c.args.starts.now)) (take_all c.loop-path.path-index c.args.paths.now c.loop-path-test.false)

pub returns-clause-folds : goal.returns-clause-folds
returns-clause-folds c items banks are =
    c.loop-path.invariant
    ∙ ap (flat_map (lines_of c.args.starts.now)) (take_all c.loop-path.path-index c.args.paths.now c.loop-path-test.false)
    ∙ lines_of-items c.args.starts.now items banks are c.args.paths.now
