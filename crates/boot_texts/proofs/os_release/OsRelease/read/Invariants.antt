use Rattle.std.proofs.Common.{◌≡◌, map, filter_map}
use Rattle.boot_texts.specs.OsLines.{os_reading}
use Rattle.boot_texts.proofs.os_release.OsRelease.read.Given as goal

abbrev pub invariant-loop-line : goal.invariant-loop-line
invariant-loop-line l = l.assignments.items ≡ filter_map os_reading (map (λ line. line.now) l.yielded)
