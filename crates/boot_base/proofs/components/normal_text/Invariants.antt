use Rattle.std.proofs.Common.{◌≡◌, map, string_bytes}
use Rattle.boot_base.specs.Paths.{is_kept}
use Rattle.boot_base.proofs.Joined.{join_filtered}
use Rattle.boot_base.proofs.components.normal_text.Given as goal

abbrev pub invariant-loop-component : goal.invariant-loop-component
invariant-loop-component l = string_bytes l.normal ≡ join_filtered 47 is_kept (map (λ x. x.now) l.yielded)
