use Rattle.std.proofs.Common.{◌≡◌, map, string_bytes, Ok, refl}
use Rattle.boot_machine.specs.Prelude.{recovered_view, IsFirm, IsSettled, Adds, recovered_now}
use Rattle.memory_machine.specs.Memory.{mem_state}
use Rattle.boot_run.specs.AskedLines.{asked_lines_of}
use Rattle.boot_run.specs.Step.{Leaves}
use Rattle.boot_history.specs.Histories.{StopsBy}
use Rattle.boot_history.proofs.Stopping.{made_by_two, prints_front, stopped}
use Rattle.boot_history.proofs.stop.run_and_stop.Goals as goal

pub returns-clause-stops : goal.returns-clause-stops
returns-clause-stops c =
    made_by_two _ _ _ c.crash.result
    (λ left image state firm.
    stopped IsFirm (StopsBy (map string_bytes c.args.words.now.items)) c.args.machine c.into_inner.result
    c.new-fuse.result c.run.new.machine c.new-fuse.ensures.inner c.into_inner.ensures (c.run.ensures.stops refl) firm left image state)
    c.crash.ensures.image c.crash.ensures.state

pub returns-clause-printed : goal.returns-clause-printed
returns-clause-printed c =
    made_by_two _ _ _ c.crash.result
    (λ left image state firm lines asks.
    let words = map string_bytes c.args.words.now.items in
    prints_front words (mem_state c.args.machine) (mem_state left).files (mem_state left).printed lines asks
    (stopped IsFirm (StopsBy words) c.args.machine c.into_inner.result
    c.new-fuse.result c.run.new.machine c.new-fuse.ensures.inner c.into_inner.ensures (c.run.ensures.stops refl) firm left image state))
    c.crash.ensures.image c.crash.ensures.state

pub returns-clause-seen : goal.returns-clause-seen
returns-clause-seen c =
    made_by_two _ _ _ c.crash.result
    (λ left image state settled lines asks.
    stopped (λ s. IsSettled s × (asked_lines_of (map string_bytes c.args.words.now.items) s ≡ Ok lines))
    (λ s files printed. Adds s.printed printed (Leaves (recovered_now s) lines (recovered_view files)))
    c.args.machine c.into_inner.result c.new-fuse.result c.run.new.machine c.new-fuse.ensures.inner c.into_inner.ensures
    (λ begins. c.run.ensures.headline refl begins.0 lines begins.1) (settled, asks) left image state)
    c.crash.ensures.image c.crash.ensures.state
