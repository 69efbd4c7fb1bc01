use Rattle.std.proofs.Common.{◌≡◌, map, filter_map, option_copied}
use Rattle.boot_texts.specs.KeyValues.{last_value}
use Rattle.boot_texts.specs.EntryLines.{entry_reading}
use Rattle.boot_texts.proofs.entry_line.last_value.Given as goal

abbrev pub invariant-loop-line : goal.invariant-loop-line
invariant-loop-line l = option_copied l.found ≡ last_value l.key (filter_map entry_reading (map (λ line. line.now) l.yielded))
