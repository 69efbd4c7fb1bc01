use Rattle.std.proofs.Common.{◌≡◌, [], take, drop}
use Rattle.pe_builder.specs.Refusals.{first_taken}
use Rattle.pe_builder.proofs.Taking.{HasNames}
use Rattle.pe_builder.proofs.taken.find_taken.Given as goal

abbrev pub invariant-loop-part : goal.invariant-loop-part
invariant-loop-part l = record {
  search : first_taken l.sections (take l.part-index l.parts) (drop l.part-index l.parts) ≡ first_taken l.sections [] l.parts;
  names : HasNames l.names (take l.part-index l.parts);
}
