use Rattle.std.proofs.Common.{◌≡◌, ℕ, List, subst, IfOk}
use Rattle.boot_base.specs.Refusals.{line_of}
use Rattle.boot_base.specs.declared.refusal.Refusal.TheVariants as refusals
use Rattle.boot_run.proofs.lines.too_long_refusal.Goals as goal

pub returns : goal.returns
returns c = subst (λ (path : List ℕ). IfOk c.refusal_line.result (λ text. text ≡ line_of (refusals.TooLarge path 1048577))) c.in_ok-path.ensures c.refusal_line.ensures
