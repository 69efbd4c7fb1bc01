use Rattle.std.proofs.Common.{◌≡◌, ◌<◌, ◌^◌, map, length}
use Rattle.boot_run.specs.AskedLines.{lines_from}
use Rattle.boot_run.proofs.script.script_lines.Given as goal

abbrev pub invariant-loop-piece : goal.invariant-loop-piece
invariant-loop-piece l = length l.yielded < 2 ^ 64 → (l.number ≡ length l.yielded) × (l.lines.items ≡ lines_from 1 (map (λ piece. piece.now) l.yielded))
