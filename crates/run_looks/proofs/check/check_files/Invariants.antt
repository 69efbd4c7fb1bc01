use Rattle.std.proofs.Common.{◌≡◌, IsTrue}
use Rattle.run_looks.proofs.Checks.{AreLeft}
use Rattle.run_looks.proofs.check.check_files.Given as goal

-- all stand exactly if those that are left stand
abbrev pub invariant-loop-path : goal.invariant-loop-path
invariant-loop-path g l =
    IsTrue g.D.LiveDisk.tells
    → AreLeft (λ path look. (g.D.LiveDisk.stands l.disk).files path ≡ look.found) l.initial.path-iterator l.path-iterator
