-- No action of a command of several is refused, unless the command is.
use Rattle.boot_commands.specs.Expansions.{expansion}
use Rattle.boot_commands.proofs.Unrefused.{expansion_unrefused}
use Rattle.boot_run.proofs.UpToRefused.{all_run, alone_or_none}
use Rattle.boot_history.proofs.expansion_law.Goals as goal

pub returns : goal.returns
returns c = record {
  unrefused = λ view command. alone_or_none view (expansion view command) (expansion_unrefused view command);
  whole = λ view command. all_run view (expansion view command) (expansion_unrefused view command);
}
