use Rattle.std.proofs.Common.{◌≡◌, length, IsTrue, map, string_bytes, take}
use Rattle.boot_machine.specs.Prelude.{IsFirm, Adds}
use Rattle.boot_history.specs.Histories.{HasHistory, HaveCauses}
use Rattle.boot_history.proofs.each.run_each.Given as goal

abbrev pub invariant-loop-index : goal.invariant-loop-index
invariant-loop-index g l =
    (length l.statuses ≡ length l.calls)
    × HaveCauses (take l.index l.statuses) (g.M.Machine.counts l.fn.machine) (g.M.Machine.counts l.machine)
    × (IsTrue g.M.Machine.tells → IsFirm (g.M.Machine.state l.fn.machine)
    → IsFirm (g.M.Machine.state l.machine)
    × Adds (g.M.Machine.state l.fn.machine).printed (g.M.Machine.state l.machine).printed
    (HasHistory (map (λ words. map string_bytes words.items) (take l.index l.calls)) (take l.index l.statuses)
    (g.M.Machine.state l.fn.machine) (g.M.Machine.state l.machine)))
