use Rattle.std.proofs.Common.{◌∙◌, ap, sym, Ok}
use Rattle.command_plans.proofs.WordErrors.{means_word_error}
use Rattle.image_build.specs.Building.{section_of}
use Rattle.command_plans.proofs.Each.{each_none, each_taken, taken_word_error}
use Rattle.image_build.proofs.build_words.sections_of.Goals as goal

pub loop-value-init : goal.loop-value-init
loop-value-init c = each_none _ ∙ ap Ok (sym c.new-sections.ensures.items)

pub returns-in_err-section : goal.returns-in_err-section
returns-in_err-section c =
    means_word_error _ c.in_err-section.field-0.0 _ _ c.from_residual.ensures.0 c.from_residual.ensures.1
    (taken_word_error section_of c.args.values.now c.loop-value.value-index c.loop-value.sections.items c.as_str.result.now c.value-item.result
    c.in_err-section.field-0.0 c.loop-value-test.true c.loop-value.invariant
    (c.as_str.ensures ∙ c.value-item.is) c.in_err-section.ensures)

pub loop-value-preserved : goal.loop-value-preserved
loop-value-preserved c =
    each_taken section_of c.args.values.now c.loop-value.value-index c.loop-value.sections.items c.push.new.items.items c.as_str.result.now
    c.value-item.result c.in_ok-section.section c.loop-value-test.true c.loop-value.invariant
    (c.as_str.ensures ∙ c.value-item.is) c.in_ok-section.ensures c.in_ok-push.ensures
