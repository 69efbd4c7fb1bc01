use Rattle.std.proofs.Common.{◌≡◌, ap, sym, ◌∙◌, Some, bytes_eq, option_copied}
use Rattle.std.proofs.lemmas.Bool.{cond-false, cond-true}
use Rattle.boot_texts.proofs.LastValue.{last_value-take}
use Rattle.boot_texts.proofs.os_release.last_assigned.Goals as goal
use Rattle.boot_texts.proofs.os_release.last_assigned.Goals.{then-eq, else-eq}

pub loop-assigned-preserved : goal.loop-assigned-preserved
loop-assigned-preserved c =
    let pair = c.loop-assigned-item.result in
    let more = last_value-take c.args.key.now c.args.assignments.now c.loop-assigned.assigned-index pair c.loop-assigned-test.true c.loop-assigned-item.is in
    let tested : bytes_eq pair.0 c.args.key.now ≡ c.eq.result =
    sym (c.eq.ensures ∙ ap (λ key. bytes_eq key c.as_bytes.result.now) c.as_slice.ensures ∙ ap (bytes_eq pair.0) c.as_bytes.ensures.value) in
    elim c.if-eq.branch [
      | then-eq w ↦ ap option_copied w.found-is ∙ ap Some w.as_slice-then-eq.ensures ∙ sym (more ∙ cond-true _ _ _ (tested ∙ w.if-eq.true))
      | else-eq w ↦ ap option_copied w.found-is ∙ c.loop-assigned.invariant ∙ sym (more ∙ cond-false _ _ _ (tested ∙ w.if-eq.false))
    ]
