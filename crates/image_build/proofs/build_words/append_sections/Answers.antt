use Rattle.command_plans.proofs.WordErrors.{means_word_error}
use Rattle.image_build.proofs.Wants.{section_word_error, section_more, with_none}
use Rattle.image_build.proofs.build_words.append_sections.Goals as goal

pub loop-section-init : goal.loop-section-init
loop-section-init c = with_none _

pub returns-in_err-append_section : goal.returns-in_err-append_section
returns-in_err-append_section c =
    means_word_error _ c.in_err-append_section.field-0.0 _ _ c.from_residual.ensures.0 c.from_residual.ensures.1
    (section_word_error _ _ c.args.sections.now c.loop-section.section-index c.loop-section-test.true c.loop-section.invariant c.section-item.result
    c.section-item.result c.section-item.is c.in_err-append_section.field-0.0 c.in_err-append_section.ensures)

pub loop-section-preserved : goal.loop-section-preserved
loop-section-preserved c =
    section_more _ _ c.args.sections.now c.loop-section.section-index c.loop-section-test.true c.loop-section.invariant c.section-item.result
    c.section-item.result c.section-item.is _ c.in_ok-append_section.ensures
