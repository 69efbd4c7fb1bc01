use Rattle.std.proofs.Common.{◌≡◌, map, filter_map}
use Rattle.boot_texts.specs.KeyValues.{values_of}
use Rattle.boot_texts.specs.EntryLines.{entry_reading}
use Rattle.boot_texts.proofs.entry_values.all_copies.Given as goal

abbrev pub invariant-loop-line : goal.invariant-loop-line
invariant-loop-line l = l.values ≡ values_of l.key (filter_map entry_reading (map (λ line. line.now) l.yielded))
