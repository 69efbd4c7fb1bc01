use Rattle.std.proofs.Common.{◌≡◌, take, flat_map}
use Rattle.entry_commands.specs.Keeping.{would_line}
use Rattle.entry_commands.proofs.keep.would_text.Given as goal

abbrev pub invariant-loop-path : goal.invariant-loop-path
invariant-loop-path l = l.text.items ≡ flat_map would_line (take l.path-index l.paths)
