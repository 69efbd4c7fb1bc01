-- What each run keeps stays along a history.
use Rattle.std.proofs.Common.{◌≢◌, ⊎_elim, ◌+◌, List, [], ◌∷◌, ◌++◌, sym, subst, Result, Ok, Err}
use Rattle.tool_words.specs.declared.fault.UsageReason.{UsageReason}
use Rattle.boot_machine.specs.Prelude.{Files, Sent, latest_view}
use Rattle.command_plans.specs.Prelude.{End}
use Rattle.boot_run.specs.Step.{IsEarly, IsLate, StepBy}
use Rattle.boot_run.specs.declared.line.Line.{Line}
use Rattle.boot_history.specs.Histories.{Run, IsHistory, IsStart, AllAlong, AllViews, asked_at, state_after}
use Rattle.boot_history.specs.Keeping.{KeptBy, KeptFrom, KeptLaw, Meets}
use Rattle.boot_history.proofs.Counting.{latest_in, was_there}

-- the later runs of a history are one
later_history : (first : List Files) (before later : List Run) → first ≢ [] → IsHistory first (before ++ later)
    → (state_after first before ≢ []) × IsHistory (state_after first before) later
later_history first [] later some history = (some, history)
later_history first (run ∷ before) later some history = later_history run.left before later history.0.some history.1

module _ (P : Files → Type 0) where
  kept_by_run : (old new : List Files) (sent : Sent) (end : End) → (asks : Result (List Line) UsageReason)
      → StepBy old asks new sent end → KeptBy P (latest_view old) asks → AllViews P old → AllViews P new
  kept_by_run old new sent end (Ok lines) step kept all view there = ⊎_elim
      (λ (early : IsEarly old lines new sent end step.acked). all view (was_there old new end early.kept view there))
      (λ (late : IsLate old lines new end step.acked). ⊎_elim
      (λ at. subst P (sym at) (kept step.acked))
      (λ next. subst P (sym next.1) (kept (step.acked + 1)))
      (late.views view there))
      step.case
  kept_by_run old new sent end (Err reason) step kept all view there =
      all view (was_there old new end step.kept view there)

  kept_along : (state : List Files) (runs : List Run) → state ≢ [] → IsHistory state runs → KeptFrom P state runs
      → AllViews P state → AllAlong P state runs
  kept_along state [] some history kept all = all
  kept_along state (run ∷ runs) some history kept all =
      let now = kept.0 (all (latest_view state) (latest_in state some)) in (
        all,
        kept_along run.left runs history.0.some history.1 kept.1
            (kept_by_run state run.left run.sent run.end (asked_at (latest_view state) run) history.0.step now all),
      )

  -- what each later run keeps stays from there on
  pub kept_later : (first : List Files) (before later : List Run) → IsStart first → IsHistory first (before ++ later)
      → AllViews P (state_after first before) → KeptFrom P (state_after first before) later
      → AllAlong P (state_after first before) later
  kept_later first before later start history all kept =
      let rest = later_history first before later start.some history in
      kept_along (state_after first before) later rest.0 rest.1 kept all

pub kept_law : KeptLaw
kept_law test first before later start history all kept =
    kept_later (Meets test) first before later start history all kept
