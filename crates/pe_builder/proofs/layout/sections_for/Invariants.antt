use Rattle.std.proofs.Common.{drop}
use Rattle.pe_builder.proofs.Placing.{ArePlaced}
use Rattle.pe_builder.proofs.layout.sections_for.Given as goal

abbrev pub invariant-loop-part : goal.invariant-loop-part
invariant-loop-part l = ArePlaced l.head l.stub_length l.start l.parts l.sections.items l.file_length l.address (drop l.part-index l.parts)
