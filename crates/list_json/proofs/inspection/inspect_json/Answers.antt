use Rattle.std.proofs.Common.{◌≡◌, ◌∙◌, map, ap, subst, arith, IfOk, take_all}
use Rattle.serde_json.specs.Data.{array}
use Rattle.serde_json.specs.View.{items_of}
use Rattle.serde_json.proofs.Views.{view-Array}
use Rattle.list_json.specs.Lines.{ReadsAs, json_line}
use Rattle.list_json.specs.Sections.{facts_of, section_data, sections_data}
use Rattle.list_json.proofs.Answers.{plain_sections}
use Rattle.list_json.proofs.Known.{shallow_of, whole_of}
use Rattle.list_json.proofs.inspection.inspect_json.Goals as goal

pub json_line-requires-clause-whole : goal.json_line-requires-clause-whole
json_line-requires-clause-whole c =
    let made = view-Array c.loop-section.values ∙ ap (λ values. array (items_of values)) (c.loop-section.invariant ∙ ap (λ sections. map section_data (map facts_of sections)) (take_all c.loop-section.section-index c.args.sections.now c.loop-section-test.false)) in
    whole_of 2 _ (sections_data (map facts_of c.args.sections.now)) made (plain_sections (map facts_of c.args.sections.now))

pub json_line-requires-clause-shallow : goal.json_line-requires-clause-shallow
json_line-requires-clause-shallow c =
    let made = view-Array c.loop-section.values ∙ ap (λ values. array (items_of values)) (c.loop-section.invariant ∙ ap (λ sections. map section_data (map facts_of sections)) (take_all c.loop-section.section-index c.args.sections.now c.loop-section-test.false)) in
    shallow_of 2 _ (sections_data (map facts_of c.args.sections.now)) made (plain_sections (map facts_of c.args.sections.now)) (omega arith)

pub returns-clause-line : goal.returns-clause-line
returns-clause-line c =
    let made = view-Array c.loop-section.values ∙ ap (λ values. array (items_of values)) (c.loop-section.invariant ∙ ap (λ sections. map section_data (map facts_of sections)) (take_all c.loop-section.section-index c.args.sections.now c.loop-section-test.false)) in
    subst (λ value. IfOk c.json_line.result (λ line. line.items ≡ json_line value)) made c.json_line.ensures.line

pub returns-clause-reads : goal.returns-clause-reads
returns-clause-reads c =
    let made = view-Array c.loop-section.values ∙ ap (λ values. array (items_of values)) (c.loop-section.invariant ∙ ap (λ sections. map section_data (map facts_of sections)) (take_all c.loop-section.section-index c.args.sections.now c.loop-section-test.false)) in
    subst (λ value. IfOk c.json_line.result (λ line. ReadsAs line.items value)) made c.json_line.ensures.reads
