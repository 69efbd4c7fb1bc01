-- A stop behind a run over a fuse leaves what a stop at the last moment of the run would.
use Rattle.std.proofs.Common.{◌≡◌, List, [], ◌∷◌, Result, Ok, Err, sym, ap, ◌∙◌, subst, IfOk}
use Rattle.word_grammar.specs.Grammar.{Word}
use Rattle.boot_machine.specs.Prelude.{Files, State, recovered_view, IsImage, EachSince, Adds, IsPrefix, recovered_now, recovered_views}
use Rattle.boot_machine.specs.declared.machine.Printed.{Printed}
use Rattle.boot_machine.proofs.Seeing.{latest_view-recovered_views}
use Rattle.memory_machine.specs.Fuse.{fuse_time, inner_of}
use Rattle.memory_machine.specs.declared.fuse.Fuse.{Fuse}
use Rattle.memory_machine.specs.proofs.EventLaws.{image_input, now_counts}
use Rattle.memory_machine.specs.Events.{after_stop}
use Rattle.memory_machine.specs.Memory.{mem_clock, mem_events, mem_input, mem_start, mem_state, mem_time}
use Rattle.memory_machine.specs.declared.memory.MemMachine.{MemMachine}
use Rattle.command_plans.specs.Prelude.{Stopped}
use Rattle.boot_run.specs.AskedLines.{asked_lines_of}
use Rattle.boot_run.specs.Step.{StepBy, join_replies, replies}
use Rattle.boot_run.specs.declared.line.Line.{Line}
use Rattle.boot_history.specs.Histories.{StopsBy}

-- P is so of a machine that a run began on, of the files that a stop leaves and of what is printed by then. Where it is
-- so of each moment of the run, it is so of the stop behind it.
module _ (Begins : State → Type 0) (P : State → Files → List Printed → Type 0) (machine inner : MemMachine)
    (old new : Fuse MemMachine) (from : inner_of old ≡ machine) (is : inner ≡ inner_of new)
    (each : Begins (mem_state (inner_of old)) → EachSince (fuse_time mem_time) old new (P (mem_state (inner_of old))))
    (begins : Begins (mem_state machine)) where
  at_last : (files : Files) → IsImage (mem_state (inner_of new)) files
      → P (mem_state machine) files (mem_state (inner_of new)).printed
  at_last files image =
      let last = inner_of new in
      let own = image_input _ (mem_input last) files image in
      let moments = each (subst (λ (m : MemMachine). Begins (mem_state m)) (sym from) begins) in
      subst (λ (m : MemMachine). P (mem_state m) files (mem_state last).printed) from
      (moments.each files (mem_state last).printed
      (now_counts (mem_start last) (mem_events last) (mem_clock (inner_of old)) files own))

  pub stopped : (left : MemMachine) → IsImage (mem_state inner) (mem_state left).files
      → mem_state left ≡ after_stop (mem_state left).files (mem_state inner)
      → P (mem_state machine) (mem_state left).files (mem_state left).printed
  stopped left image state =
      let said : (mem_state left).printed ≡ (mem_state (inner_of new)).printed =
      ap (λ (s : State). s.printed) state ∙ ap (λ (m : MemMachine). (mem_state m).printed) is in
      subst (P (mem_state machine) (mem_state left).files) (sym said)
      (at_last (mem_state left).files (subst (λ (m : MemMachine). IsImage (mem_state m) (mem_state left).files) is image))

-- a run that is stopped has printed a first part of its replies
pub prints_front : (words : List Word) (s : State) (files : Files) (printed : List Printed) (lines : List Line)
    → asked_lines_of words s ≡ Ok lines → StopsBy words s files printed
    → Adds s.printed printed (λ sent. IsPrefix sent (join_replies (replies (recovered_now s) lines)))
prints_front words s files printed lines asks by =
    let step = subst (λ asked. StepBy (recovered_views s) asked (recovered_view files ∷ []) by.0 Stopped) asks by.2.step in (
      by.0,
      by.1,
      subst (λ (view : Files). IsPrefix by.0 (join_replies (replies view lines))) (latest_view-recovered_views s) step.front,
    )

-- what holds by two facts of a machine that was made, holds of it if it was made
pub made_by_two : {E : Type 0} (A B Q : MemMachine → Type 0) (made : Result MemMachine E)
    → ((left : MemMachine) → A left → B left → Q left) → IfOk made A → IfOk made B → IfOk made Q
made_by_two A B Q (Ok left) by a b = by left a b
made_by_two A B Q (Err why) by a b = tt
