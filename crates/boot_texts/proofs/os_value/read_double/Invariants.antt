use Rattle.std.proofs.Common.{◌≡◌, length}
use Rattle.boot_texts.specs.OsLines.{behind, double_reading}
use Rattle.boot_texts.proofs.os_value.read_double.Given as goal

abbrev pub invariant-loop-rest : goal.invariant-loop-rest
invariant-loop-rest l = behind l.value.items (double_reading l.rest) ≡ double_reading l.text

abbrev pub decreases-loop-rest : goal.decreases-loop-rest
decreases-loop-rest l = length l.rest
