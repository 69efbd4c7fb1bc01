use Rattle.std.proofs.Common.{◌≤◌, ◌-◌, replicate}
use Rattle.std.specs.List.{AllZip}
use Rattle.stub_replay.specs.Registers.{Takes}
use Rattle.stub_replay.proofs.pieces.take_from_zeros.Given as goal

abbrev pub invariant-loop-done : goal.invariant-loop-done
invariant-loop-done l = record {
  within : l.done ≤ l.count;
  zeros : AllZip (Takes (replicate l.done 0)) l.initial.registers l.registers;
}

abbrev pub decreases-loop-done : goal.decreases-loop-done
decreases-loop-done l = l.count - l.done
