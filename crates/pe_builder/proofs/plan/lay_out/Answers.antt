use Rattle.std.proofs.Common.{refl, ap, ◌∙◌, arith}
use Rattle.pe_reader.specs.declared.head.Head.{Head}
use Rattle.pe_reader.specs.Prelude.{headers_of}
use Rattle.pe_builder.specs.Layout.{sections_for, length_after}
use Rattle.pe_builder.specs.Planned.{head_after}
use Rattle.pe_reader.proofs.Bounds.{bounds}
use Rattle.pe_builder.proofs.Totals.{plan_numbers, table_inside}
use Rattle.pe_builder.proofs.PlannedIs.{plans}
use Rattle.pe_builder.proofs.plan.lay_out.Goals as goal

pub overflow_cast-start : goal.overflow_cast-start
overflow_cast-start c = omega (arith, (plan_numbers c.args.stub.now c.args.stub_length c.stub_end-start.result c.args.sizes.now c.args.sbat_in_place c.stub_end-start.ensures.exact c.requires.none).begin)

pub sections_for-requires-clause-file_unit : goal.sections_for-requires-clause-file_unit
sections_for-requires-clause-file_unit c = rw c.head-head.ensures (bounds c.args.stub.now c.args.stub_length c.requires.read).file_unit

pub sections_for-requires-clause-memory_unit : goal.sections_for-requires-clause-memory_unit
sections_for-requires-clause-memory_unit c = rw c.head-head.ensures
    (omega (arith, (bounds c.args.stub.now c.args.stub_length c.requires.read).file_unit, (bounds c.args.stub.now c.args.stub_length c.requires.read).units))

pub sections_for-requires-clause-file : goal.sections_for-requires-clause-file
sections_for-requires-clause-file c = rw c.head-head.ensures
    (plan_numbers c.args.stub.now c.args.stub_length c.stub_end-start.result c.args.sizes.now c.args.sbat_in_place c.stub_end-start.ensures.exact c.requires.none).file

pub sections_for-requires-clause-memory : goal.sections_for-requires-clause-memory
sections_for-requires-clause-memory c = rw c.head-head.ensures
    (plan_numbers c.args.stub.now c.args.stub_length c.stub_end-start.result c.args.sizes.now c.args.sbat_in_place c.stub_end-start.ensures.exact c.requires.none).memory

pub head_after-requires-clause-memory_unit : goal.head_after-requires-clause-memory_unit
head_after-requires-clause-memory_unit c = rw c.head-head.ensures
    (omega (arith, (bounds c.args.stub.now c.args.stub_length c.requires.read).file_unit, (bounds c.args.stub.now c.args.stub_length c.requires.read).units))

pub head_after-requires-clause-small_unit : goal.head_after-requires-clause-small_unit
head_after-requires-clause-small_unit c = rw c.head-head.ensures (bounds c.args.stub.now c.args.stub_length c.requires.read).memory_unit

pub head_after-requires-clause-few : goal.head_after-requires-clause-few
head_after-requires-clause-few c = rw c.head-head.ensures (plan_numbers c.args.stub.now c.args.stub_length c.stub_end-start.result c.args.sizes.now c.args.sbat_in_place c.stub_end-start.ensures.exact c.requires.none).few

pub head_after-requires-clause-image : goal.head_after-requires-clause-image
head_after-requires-clause-image c = rw c.head-head.ensures
    (plan_numbers c.args.stub.now c.args.stub_length c.stub_end-start.result c.args.sizes.now c.args.sbat_in_place c.stub_end-start.ensures.exact c.requires.none).image

pub head_after-requires-clause-initialized : goal.head_after-requires-clause-initialized
head_after-requires-clause-initialized c = rw c.head-head.ensures
    (plan_numbers c.args.stub.now c.args.stub_length c.stub_end-start.result c.args.sizes.now c.args.sbat_in_place c.stub_end-start.ensures.exact c.requires.none).initialized

pub sbat_place-requires-clause-small : goal.sbat_place-requires-clause-small
sbat_place-requires-clause-small c = omega (arith, table_inside c.args.stub.now c.args.stub_length c.requires.read, c.requires.read.small)

pub length_after-requires-clause-unit : goal.length_after-requires-clause-unit
length_after-requires-clause-unit c = rw c.head-head.ensures (bounds c.args.stub.now c.args.stub_length c.requires.read).file_unit

pub length_after-requires-clause-small_unit : goal.length_after-requires-clause-small_unit
length_after-requires-clause-small_unit c = rw c.head-head.ensures
    (omega (arith, (bounds c.args.stub.now c.args.stub_length c.requires.read).units, (bounds c.args.stub.now c.args.stub_length c.requires.read).memory_unit))

pub returns : goal.returns
returns c =
    plans _ (headers_of c.args.stub.now) c.args.stub_length c.stub_end-start.result c.args.sizes.now c.args.sbat_in_place
    c.stub_end-start.ensures.exact refl c.head-head.ensures
    (c.in_ok-sections.ensures ∙ ap (λ (h : Head). sections_for h c.args.stub_length c.stub_end-start.result c.args.sizes.now) c.head-head.ensures)
    (c.head_after.ensures ∙ ap (λ (h : Head). head_after h c.stub_end-start.result c.args.sizes.now) c.head-head.ensures)
    c.sbat_place.ensures
    (c.length_after.ensures ∙ ap (λ (h : Head). length_after h c.args.stub_length c.args.sizes.now) c.head-head.ensures)
    c.requires.fit c.requires.sbat c.requires.none
