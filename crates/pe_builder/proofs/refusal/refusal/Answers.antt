use Rattle.std.proofs.Common.{arith}
use Rattle.pe_reader.proofs.Bounds.{bounds}
use Rattle.pe_builder.proofs.refusal.refusal.Goals as goal

pub size_refusal-requires-clause-file_unit : goal.size_refusal-requires-clause-file_unit
size_refusal-requires-clause-file_unit c = (bounds c.args.stub.now c.args.stub_length c.requires.read).file_unit

pub size_refusal-requires-clause-memory_unit : goal.size_refusal-requires-clause-memory_unit
size_refusal-requires-clause-memory_unit c = omega (arith, (bounds c.args.stub.now c.args.stub_length c.requires.read).file_unit, (bounds c.args.stub.now c.args.stub_length c.requires.read).units)

pub size_refusal-requires-clause-units : goal.size_refusal-requires-clause-units
size_refusal-requires-clause-units c = (bounds c.args.stub.now c.args.stub_length c.requires.read).units

pub size_refusal-requires-clause-small_unit : goal.size_refusal-requires-clause-small_unit
size_refusal-requires-clause-small_unit c = (bounds c.args.stub.now c.args.stub_length c.requires.read).memory_unit

pub size_refusal-requires-clause-table : goal.size_refusal-requires-clause-table
size_refusal-requires-clause-table c = omega (arith, (bounds c.args.stub.now c.args.stub_length c.requires.read).table, c.requires.read.small)
