use Rattle.std.proofs.Common.{IsTrue, take, All}
use Rattle.run_looks.specs.Standing.{FileStands}
use Rattle.run_looks.proofs.check.check_paths.Given as goal

-- what was found first at the paths so far stands there
abbrev pub invariant-loop-path : goal.invariant-loop-path
invariant-loop-path g l =
    IsTrue g.D.LiveDisk.tells → All (FileStands (g.D.LiveDisk.stands l.disk) l.files) (take l.path-index l.paths)
