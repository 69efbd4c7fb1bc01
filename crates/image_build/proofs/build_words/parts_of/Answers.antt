use Rattle.std.proofs.Common.{◌≡◌, Ok, map, rules, sym, subst, ◌∙◌}
use Rattle.command_plans.specs.Prelude.{WordErrorFor}
use Rattle.command_plans.proofs.WordErrors.{means_word_error}
use Rattle.image_build.specs.Building.{part_named, with_parts}
use Rattle.image_build.specs.Offers.{offered_part}
use Rattle.image_build.proofs.Wants.{row_word_error, row_next}
use Rattle.image_build.proofs.build_words.parts_of.Goals as goal

pub returns-in_err-append_offered : goal.returns-in_err-append_offered
returns-in_err-append_offered c =
    let word_error = c.in_err-append_offered.field-0.0 in
    let why : WordErrorFor word_error (with_parts (map part_named c.loop-row.parts.items) (offered_part c.row-item.result)) = search (rules, c.in_err-append_offered.ensures) in
    means_word_error _ word_error _ _ c.from_residual.ensures.0 c.from_residual.ensures.1
    (subst (WordErrorFor word_error) c.loop-row.invariant
    (row_word_error (map part_named c.loop-row.parts.items) _ c.loop-row.row-index c.loop-row-test.true c.row-item.result c.row-item.result c.row-item.is _ word_error why))

pub loop-row-preserved : goal.loop-row-preserved
loop-row-preserved c =
    let done : with_parts (map part_named c.loop-row.parts.items) (offered_part c.row-item.result) ≡ Ok
    (map part_named c.append_offered.new.parts.items) = search (rules, c.in_ok-append_offered.ensures) in
    sym (row_next (map part_named c.loop-row.parts.items) _ c.loop-row.row-index c.loop-row-test.true c.row-item.result c.row-item.result c.row-item.is _
    (map part_named c.append_offered.new.parts.items) done)
    ∙ c.loop-row.invariant
