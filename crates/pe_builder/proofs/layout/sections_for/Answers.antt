use Rattle.std.proofs.Common.{refl}
use Rattle.pe_builder.proofs.Placing.{room_at, next_at, all_placed}
use Rattle.pe_builder.proofs.layout.sections_for.Goals as goal

pub loop-part-init : goal.loop-part-init
loop-part-init c = record { sections = rw c.new-sections.ensures.items refl; file = c.requires.file; memory = c.requires.memory }

pub section_for-section-requires-clause-file : goal.section_for-section-requires-clause-file
section_for-section-requires-clause-file c =
    (room_at c.args.head.now c.args.stub_length c.args.start c.args.parts.now c.loop-part.sections.items c.loop-part.file_length c.loop-part.address c.loop-part.part-index _ c.loop-part-test.true c.loop-part.invariant).file

pub section_for-section-requires-clause-memory : goal.section_for-section-requires-clause-memory
section_for-section-requires-clause-memory c =
    (room_at c.args.head.now c.args.stub_length c.args.start c.args.parts.now c.loop-part.sections.items c.loop-part.file_length c.loop-part.address c.loop-part.part-index _ c.loop-part-test.true c.loop-part.invariant).memory

pub loop-part-preserved : goal.loop-part-preserved
loop-part-preserved c =
    rw (c.in_ok-push.ensures.items, c.section_for-section.ensures.exact)
    (next_at c.args.head.now c.args.stub_length c.args.start c.args.parts.now c.loop-part.sections.items c.loop-part.file_length c.loop-part.address c.loop-part.part-index _ c.loop-part-test.true c.loop-part.invariant)

pub returns : goal.returns
returns c = all_placed c.args.head.now c.args.stub_length c.args.start c.args.parts.now c.loop-part.sections.items c.loop-part.file_length c.loop-part.address c.loop-part.part-index c.loop-part-test.false c.loop-part.invariant
