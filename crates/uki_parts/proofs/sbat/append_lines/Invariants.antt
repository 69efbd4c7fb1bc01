use Rattle.std.proofs.Common.{◌≡◌, ◌++◌, map, filter}
use Rattle.uki_parts.specs.Sbat.{lines_text}
use Rattle.uki_parts.specs.Texts.{is_nonempty_text}
use Rattle.uki_parts.proofs.sbat.append_lines.Given as goal

abbrev pub invariant-loop-line : goal.invariant-loop-line
invariant-loop-line l =
    l.entries.items ≡ l.fn.entries.items ++ lines_text (filter is_nonempty_text (map (λ x. x.now) l.yielded))
