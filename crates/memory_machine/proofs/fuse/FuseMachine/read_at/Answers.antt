-- Field by field, so that a refusal names the field.
use Rattle.std.proofs.Common.{rules}
use Rattle.memory_machine.proofs.fuse.FuseMachine.read_at.Goals as goal

pub returns-clause-call : goal.returns-clause-call
returns-clause-call g c = record {
  moments = search rules;
  counts = search rules;
  taken = search rules;
  spent = search rules;
  passes = search rules;
}
