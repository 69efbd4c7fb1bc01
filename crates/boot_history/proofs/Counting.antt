-- Each view at the end of a history is due to whole commands of its runs.
use Rattle.std.proofs.Common.{◌≡◌, ◌≢◌, ◌⊎◌, inl, inr, ⊎_elim, ℕ, ◌+◌, ◌≤◌, List, [], ◌∷◌, length, take, refl, sym, ap, ◌∙◌, subst, arith, Result, Ok, Err}
use Rattle.tool_words.specs.declared.fault.UsageReason.{UsageReason}
use Rattle.boot_machine.specs.Prelude.{Files, IsIn, on_channel, Sent, IsPrefix, latest_view}
use Rattle.boot_machine.specs.declared.machine.Channel.TheVariants.{Err as ErrChannel}
use Rattle.command_plans.specs.Prelude.{End, Stopped, Finished, NoMemory, DiskFails, PipeFails}
use Rattle.boot_run.specs.AskedLines.{usage_line}
use Rattle.boot_run.specs.Step.{Acknowledges, AllUnread, IsEarly, KeepsViews, IsLate, Step, StepBy, join_replies, replies, view_after}
use Rattle.boot_run.specs.declared.line.Line.{Line}
use Rattle.boot_run.proofs.Stepping.{unread_after}
use Rattle.boot_history.specs.Histories.{Run, IsHistory, asked_at, state_after}
use Rattle.boot_history.specs.Numbers.{FitRuns, HistoryLaw, IsDueTo, MayDoBy, after_runs, after_some}
use Rattle.boot_history.proofs.Alike.{AreAlike, acked_again, asked_alike, front_again, length-replies, shorter_back, still_unread}

pub latest_in : (state : List Files) → state ≢ [] → IsIn (latest_view state) state
latest_in [] some = absurd (some refl)
latest_in (view ∷ []) some = inl refl
latest_in (view ∷ next ∷ later) some = inr (latest_in (next ∷ later) (λ is. cc))

-- where a run keeps the state, each view that it leaves was there
pub was_there : (old new : List Files) (end : End) → KeepsViews old new end → (view : Files) → IsIn view new
    → IsIn view old
was_there old new Stopped kept view is =
    let here : view ≡ kept.0 = ⊎_elim (λ here. here) (λ none. absurd none) (subst (IsIn view) kept.1 is) in
    subst (λ v. IsIn v old) (sym here) kept.2
was_there old new Finished kept view is = subst (IsIn view) kept is
was_there old new NoMemory kept view is = subst (IsIn view) kept is
was_there old new DiskFails kept view is = subst (IsIn view) kept is
was_there old new PipeFails kept view is = subst (IsIn view) kept is

-- a view that a run leaves is that after n of its lines, from a view that was there
pub record ComesFrom (old : List Files) (asks : Files → Result (List Line) UsageReason) (sent : Sent) (view : Files)
    : Type 0 where
  pub start : Files
  pub there : IsIn start old
  pub n : ℕ
  pub may : MayDoBy start (asks start) sent n
  pub is : view ≡ after_some start (asks start) n

-- a run that came to no command leaves each view as it was
early_does : (first view : Files) (lines : List Line) (asks : Result (List Line) UsageReason) → AreAlike (Ok lines) asks
    → (sent : Sent) (k leading : ℕ) → AllUnread (take leading lines) → k ≤ leading
    → IsPrefix sent (join_replies (take leading (replies first lines))) → Acknowledges (replies first lines) sent k
    → MayDoBy view asks sent k × (view ≡ after_some view asks k)
early_does first view lines (Ok others) alike sent k leading unread enough front acked =
    let same = alike leading unread in (
      record {
        acked = k;
        is_acked = acked_again first view lines others leading unread same sent k enough front acked;
        one_more = inl refl;
        within = shorter_back first view lines others leading unread same k enough
            (omega (arith, acked.within, length-replies first lines));
        front = front_again first view lines others leading unread same sent front;
      },
      sym (unread_after view others k leading enough (still_unread first view lines others leading unread same)),
    )
early_does first view lines (Err reason) alike sent k leading unread enough front acked = absurd alike

usage_does : (view : Files) (reason : UsageReason) (asks : Result (List Line) UsageReason) → AreAlike (Err reason) asks
    → (sent : Sent) → IsPrefix sent (on_channel ErrChannel (usage_line reason))
    → MayDoBy view asks sent 0 × (view ≡ after_some view asks 0)
usage_does view reason (Ok others) alike sent front = absurd alike
usage_does view reason (Err other) alike sent front =
    let front = subst (λ r. IsPrefix sent (on_channel ErrChannel (usage_line r))) (sym alike) front in
    (record { none = refl; front = front }, refl)

module _ (old new : List Files) (sent : Sent) (end : End) (some : old ≢ [])
    (asks : Files → Result (List Line) UsageReason) where
  -- a view that is that after n lines from the last one
  late_from : (lines : List Line) → asks (latest_view old) ≡ Ok lines → (step : Step old lines new sent end) → (n : ℕ)
      → (n ≡ step.acked) ⊎ (n ≡ step.acked + 1) → n ≤ length lines
      → (view : Files) → view ≡ view_after (latest_view old) (take n lines) → ComesFrom old asks sent view
  late_from lines is step n one_more within view at = record {
    start = latest_view old;
    there = latest_in old some;
    n = n;
    may = subst (λ s. MayDoBy (latest_view old) s sent n) (sym is) (record {
      acked = step.acked;
      is_acked = step.is_acked;
      one_more = one_more;
      within = within;
      front = step.front;
    });
    is = at ∙ ap (λ s. after_some (latest_view old) s n) (sym is);
  }

  pub one_run : (r : Result (List Line) UsageReason) → asks (latest_view old) ≡ r → ((view : Files) → AreAlike r (asks view))
      → StepBy old r new sent end → (view : Files) → IsIn view new → ComesFrom old asks sent view
  one_run (Ok lines) is alike step view there = ⊎_elim
      (λ (early : IsEarly old lines new sent end step.acked).
      let does = early_does (latest_view old) view lines (asks view) (alike view) sent step.acked early.leading early.unread
      early.enough early.front step.is_acked in
      record {
        start =
            view;
        there = was_there old new end early.kept view there;
        n = step.acked;
        may = does.0;
        is = does.1;
      })
      (λ (late : IsLate old lines new end step.acked). ⊎_elim
      (λ at. late_from lines is step step.acked (inl refl)
      (omega (arith, step.is_acked.within, length-replies (latest_view old) lines)) view at)
      (λ next. late_from lines is step (step.acked + 1) (inr refl) (omega (arith, next.0)) view next.1)
      (late.views view there))
      step.case
  one_run (Err reason) is alike step view there =
      let does = usage_does view reason (asks view) (alike view) sent step.front in
      record { start = view; there = was_there old new end step.kept view there; n = 0; may = does.0; is = does.1 }

-- each view at the end is due to whole commands from some view at the start
record IsDueFrom (state : List Files) (runs : List Run) (view : Files) : Type 0 where
  start : Files
  there : IsIn start state
  due : IsDueTo start runs view

each_due : (state : List Files) (runs : List Run) → state ≢ [] → IsHistory state runs → (view : Files)
    → IsIn view (state_after state runs) → IsDueFrom state runs view
each_due state [] some history view there =
    record { start = view; there = there; due = record { numbers = []; fit = tt; is = refl } }
each_due state (run ∷ runs) some history view there =
    let later = each_due run.left runs history.0.some history.1 view there in
    let now = one_run state run.left run.sent run.end some (λ v. asked_at v run) (asked_at (latest_view state) run) refl
    (asked_alike run.words run.input (latest_view state)) history.0.step later.start later.there in
    record {
      start = now.start;
      there = now.there;
      due = record {
        numbers = now.n ∷ later.due.numbers;
        fit = (now.may, subst (λ v. FitRuns v runs later.due.numbers) now.is later.due.fit);
        is = later.due.is ∙ ap (λ v. after_runs v runs later.due.numbers) now.is;
      };
    }

pub history_law : HistoryLaw
history_law first runs start history view there =
    let due = each_due first runs start.some history view there in
    subst (λ v. IsDueTo v runs view) (start.one due.start due.there) due.due
