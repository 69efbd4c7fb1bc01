use Rattle.std.proofs.Common.{ap, sym, ◌∙◌}
use Rattle.boot_texts.specs.OsLines.{behind, double_reading}
use Rattle.boot_texts.proofs.OsDoubles.{behind-behind}
use Rattle.boot_texts.proofs.os_value.read_double.Goals as goal

pub loop-rest-preserved : goal.loop-rest-preserved
loop-rest-preserved c =
    ap (λ items. behind items (double_reading c.in-Some.after.now)) c.in_ok-extend_from_slice.ensures.items
    ∙ sym (behind-behind c.loop-rest.value.items c.in-Some.meant.now (double_reading c.in-Some.after.now))
    ∙ ap (behind c.loop-rest.value.items) (sym c.in-Some.ensures.value)
    ∙ c.loop-rest.invariant
