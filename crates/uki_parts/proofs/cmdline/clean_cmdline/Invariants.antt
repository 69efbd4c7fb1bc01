use Rattle.std.proofs.Common.{◌≡◌, map}
use Rattle.boot_base.proofs.Joined.{join_filtered}
use Rattle.uki_parts.specs.Texts.{is_nonempty_text}
use Rattle.uki_parts.proofs.cmdline.clean_cmdline.Given as goal

abbrev pub invariant-loop-word : goal.invariant-loop-word
invariant-loop-word l = l.line.items ≡ join_filtered 32 is_nonempty_text (map (λ x. x.now) l.yielded)
