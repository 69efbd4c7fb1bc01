use Rattle.std.proofs.Common.{ap, sym, ◌∙◌, ◌++◌, [], append-nil}
use Rattle.std.specs.List.{cons_option}
use Rattle.boot_texts.proofs.LastValue.{pairs_of_more}
use Rattle.boot_texts.specs.OsLines.{os_reading}
use Rattle.boot_texts.proofs.os_release.OsRelease.read.Goals as goal

pub loop-line-preserved-in-Continue-branch-3 : goal.loop-line-preserved-in-Continue-branch-3
loop-line-preserved-in-Continue-branch-3 c =
    c.in_ok-push.ensures.items
    ∙ ap (λ pair. c.loop-line.assignments.items ++ cons_option pair []) (sym c.in-Some-2.is ∙ c.in_ok-assignment.ensures)
    ∙ ap (λ pairs. pairs ++ cons_option (os_reading c.in-Some.line.now) []) c.loop-line.invariant
    ∙ sym (pairs_of_more os_reading (λ line. line.now) c.loop-line.yielded c.in-Some.line)

pub loop-line-preserved : goal.loop-line-preserved
loop-line-preserved c =
    sym (append-nil c.loop-line.assignments.items)
    ∙ ap (λ pair. c.loop-line.assignments.items ++ cons_option pair []) (sym c.in_default.is ∙ c.in_ok-assignment.ensures)
    ∙ ap (λ pairs. pairs ++ cons_option (os_reading c.in-Some.line.now) []) c.loop-line.invariant
    ∙ sym (pairs_of_more os_reading (λ line. line.now) c.loop-line.yielded c.in-Some.line)
