use Rattle.std.proofs.Common.{arith, rules}
use Rattle.std.proofs.lemmas.Grind.{common_steps}
use Rattle.memory_machine.proofs.memory.MemMachineMachine.read_at.Goals as goal

pub returns-clause-call : goal.returns-clause-call
returns-clause-call c = record {
  told = search rules;
  moments = search rules;
  counts = search rules;
  once = search rules;
  records = search rules;
  taken = grind (arith, common_steps);
  reads = search rules;
}
