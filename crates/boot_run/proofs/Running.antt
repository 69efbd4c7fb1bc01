-- How a run over lines goes on.
use Rattle.std.proofs.Common.{inl, inr, ◌≡◌, ℕ, ◌+◌, ◌≤◌, ◌<◌, Bool, true, false, ◌||◌, List, [], ◌∷◌, ◌++◌, length, take, drop, get_or, refl, sym, ap, ◌∙◌, subst, arith, append_assoc, Result, Ok, Err, IsErr, IsErrAnd}
use Rattle.std.proofs.lemmas.List.{append-nil, take_more, drop_more, take_all}
use Rattle.boot_machine.specs.Prelude.{Files, State, IsIn, recovered_view, IsFirm, Timeline, EachSince, Sent, Adds, latest_view, recovered_views, recovered_now}
use Rattle.boot_machine.proofs.Elapsing.{weaken, joined, at_once}
use Rattle.boot_machine.proofs.Seeing.{latest_view-recovered_views}
use Rattle.command_plans.specs.Prelude.{is_refusal, Deed, End, Stopped, left_by, Breaks, end_of}
use Rattle.command_plans.specs.declared.outcome.Outcome.{Outcome}
use Rattle.command_plans.specs.declared.outcome.RunError.{RunError}
use Rattle.command_plans.proofs.Exits.{if_ok, if_err}
use Rattle.boot_run.specs.History.{BreaksBehind, Recovers, states, printed_by, any_refused, EndsBefore, Runs}
use Rattle.boot_run.specs.Lines.{line_deed}
use Rattle.boot_run.specs.RunsTo.{AllDone, PerformsBehind, RunsTo}
use Rattle.boot_run.specs.Step.{join_replies as end_to_end, replies}
use Rattle.boot_run.specs.declared.line.Line.{Line}
use Rattle.boot_run.proofs.Stepping.{latest_left}

-- the laws of lists of lines
pub states-append : (state : List Files) (xs ys : List Line) → states state (xs ++ ys) ≡ states (states state xs) ys
states-append state [] ys = refl
states-append state (x ∷ xs) ys = states-append (left_by (line_deed (latest_view state) x) state) xs ys

pub printed_by-append : (state : List Files) (xs ys : List Line) → printed_by state (xs ++ ys) ≡ printed_by state xs ++ printed_by (states state xs) ys
printed_by-append state [] ys = refl
printed_by-append state (x ∷ xs) ys =
    ap (λ (l : Sent). (line_deed (latest_view state) x).sent ++ l) (printed_by-append (left_by (line_deed (latest_view state) x) state) xs ys)
    ∙ sym (append_assoc (line_deed (latest_view state) x).sent (printed_by (left_by (line_deed (latest_view state) x) state) xs) _)

-- and in the words of the reference
pub printed_by-is : (old : List Files) (lines : List Line) → printed_by old lines ≡ end_to_end (replies (latest_view old) lines)
printed_by-is old [] = refl
printed_by-is old (line ∷ lines) =
    ap (λ (l : Sent). (line_deed (latest_view old) line).sent ++ l)
    (printed_by-is (left_by (line_deed (latest_view old) line) old) lines ∙ ap (λ v. end_to_end (replies v lines)) (latest_left old line))

or_assoc : (a b c : Bool) → ((a || b) || c) ≡ (a || (b || c))
or_assoc true b c = refl
or_assoc false b c = refl

pub any_refused-append : (state : List Files) (xs ys : List Line) → any_refused state (xs ++ ys) ≡ (any_refused state xs || any_refused (states state xs) ys)
any_refused-append state [] ys = refl
any_refused-append state (x ∷ xs) ys =
    ap (λ b. is_refusal (line_deed (latest_view state) x).outcome || b) (any_refused-append (left_by (line_deed (latest_view state) x) state) xs ys)
    ∙ sym (or_assoc (is_refusal (line_deed (latest_view state) x).outcome) (any_refused (left_by (line_deed (latest_view state) x) state) xs) _)

or_false : (a : Bool) → (a || false) ≡ a
or_false true = refl
or_false false = refl

module _ (state : List Files) (lines : List Line) (i : ℕ) (line : Line) (within : i < length lines) (line_is : get_or lines i line ≡ line) where
  abbrev here : List Files
  here = states state (take i lines)

  abbrev deed : Deed
  deed = line_deed (latest_view here) line

  one_more : take (i + 1) lines ≡ take i lines ++ line ∷ []
  one_more = take_more lines i line within ∙ ap (λ (x : Line). take i lines ++ x ∷ []) line_is

  pub states_more : states state (take (i + 1) lines) ≡ left_by deed here
  states_more = ap (states state) one_more ∙ states-append state (take i lines) (line ∷ [])

  pub said_more : printed_by state (take (i + 1) lines) ≡ printed_by state (take i lines) ++ deed.sent
  said_more = ap (printed_by state) one_more ∙ printed_by-append state (take i lines) (line ∷ []) ∙ ap (λ (l : Sent). printed_by state (take i lines) ++ l) (append-nil deed.sent)

  pub refused_more : any_refused state (take (i + 1) lines) ≡ (any_refused state (take i lines) || is_refusal deed.outcome)
  refused_more = ap (any_refused state) one_more ∙ any_refused-append state (take i lines) (line ∷ []) ∙ ap (λ b. any_refused state (take i lines) || b) (or_false (is_refusal deed.outcome))

  -- a run ends before this line or in it
  pub runs_end : (new : List Files) (part : Sent) (end : End) → BreaksBehind deed here new part end → Runs state lines new (printed_by state (take i lines) ++ part) end
  runs_end new part end ends = record {
    whole = i;
    within = omega arith;
    part = part;
    printed = refl;
    ends = subst (λ (rest : List Line). EndsBefore rest here new part end) (sym (drop_more lines i line within ∙ ap (λ (x : Line). x ∷ drop (i + 1) lines) line_is)) ends;
  }

  -- a run breaks off in this line
  pub runs_break : (new : List Files) (part : Sent) (end : End) → Breaks deed here new part end → Runs state lines new (printed_by state (take i lines) ++ part) end
  runs_break new part end breaks = runs_end new part end (inl breaks)

-- nothing is done yet
pub runs_none : (state : List Files) (lines : List Line) (v : Files) → IsIn v state → Runs state lines (v ∷ []) [] Stopped
runs_none state [] v is = record { whole = 0; within = omega arith; part = []; printed = refl; ends = (refl, (v, refl, is)) }
runs_none state (line ∷ lines) v is = record { whole = 0; within = omega arith; part = []; printed = refl; ends = inl (inl (refl, (v, refl, is))) }

module _ {D : Type 0} (time : Timeline D) (state : D → State) where
  abbrev RunAt : D → List Line → Files → Sent → Type 0
  RunAt old lines image printed = Adds (state old).printed printed (λ sent. Runs (recovered_views (state old)) lines (recovered_view image ∷ []) sent Stopped)

  -- the first so many lines are done
  pub record SoFar (old now : D) (lines : List Line) (i : ℕ) (refused : Bool) : Type 0 where
    pub firm : IsFirm (state now)
    pub all : AllDone (state old) (state now) (take i lines) refused
    pub moments : EachSince time old now (RunAt old lines)

  pub started : (old : D) (lines : List Line) → IsFirm (state old)
      →
      ((m : Files) (o : Sent) → time.since old (time.clock old) m o → IsIn (recovered_view m) (recovered_views (state old)) × (o ≡ (state old).printed))
      → SoFar old old lines 0 false
  started old lines firm at_start = record {
    firm = firm;
    all = record { state = refl; printed = sym (append-nil (state old).printed); answer = refl };
    moments =
        at_once time state (RunAt old lines) old
        (λ m o left. let now = at_start m o left in
        ([], now.1 ∙ sym (append-nil (state old).printed), runs_none (recovered_views (state old)) lines (recovered_view m) now.0));
  }

  module _ (old mid new : D) (lines : List Line) (i : ℕ) (refused : Bool) (line : Line) (within : i < length lines)
      (line_is : get_or lines i line ≡ line) (so_far : SoFar old mid lines i refused) where
    abbrev first : List Files
    first = recovered_views (state old)

    abbrev deed_here : Deed
    deed_here = line_deed (recovered_now (state mid)) line

    deed_is : deed_here ≡ line_deed (latest_view (states first (take i lines))) line
    deed_is = ap (λ v. line_deed v line) (sym (latest_view-recovered_views (state mid)) ∙ ap latest_view so_far.all.state)

    -- what breaks off in the line
    breaks : (left : List Files) (sent part : Sent) (end : End) → sent ≡ (state mid).printed ++ part
        → Breaks deed_here (recovered_views (state mid)) left part end → Adds (state old).printed sent (λ sent. Runs first lines left sent end)
    breaks left sent part end is broke = (
      printed_by first (take i lines) ++ part,
      is ∙ ap (λ (l : Sent). l ++ part) so_far.all.printed ∙ append_assoc (state old).printed (printed_by first (take i lines)) part,
      runs_break first lines i line within line_is left part end
          (subst (λ (s : List Files). Breaks (line_deed (latest_view s) line) s left part end) so_far.all.state
          (subst (λ d. Breaks d (recovered_views (state mid)) left part end)
          (ap (λ v. line_deed v line) (sym (latest_view-recovered_views (state mid)))) broke)),
    )

    -- what ends before the line or in it
    ends : (left : List Files) (sent part : Sent) (end : End) → sent ≡ (state mid).printed ++ part → BreaksBehind deed_here (recovered_views (state mid)) left part end
        → Adds (state old).printed sent (λ sent. Runs first lines left sent end)
    ends left sent part end is (inl broke) = breaks left sent part end is broke
    ends left sent part end is (inr recovers) = (
      printed_by first (take i lines) ++ part,
      is ∙ ap (λ (l : Sent). l ++ part) so_far.all.printed ∙ append_assoc (state old).printed (printed_by first (take i lines)) part,
      runs_end first lines i line within line_is left part end (inr (recovers.0, subst (λ (s : List Files). Recovers s left end) so_far.all.state recovers.1)),
    )

    moments_too : (result : Result Outcome RunError) → PerformsBehind time state mid new deed_here result → EachSince time old new (RunAt old lines)
    moments_too result performs = joined time state (RunAt old lines) old mid new so_far.moments
        (weaken time state _ (RunAt old lines) mid new (λ m o adds. breaks (recovered_view m ∷ []) o adds.0 Stopped adds.1 adds.2) performs.moments)

    -- the line is done
    pub goes_on : (outcome : Outcome) → PerformsBehind time state mid new deed_here (Ok outcome) → SoFar old new lines (i + 1) (refused || is_refusal outcome)
    goes_on outcome performs = record {
      firm = performs.firm;
      all = record {
        state =
            performs.ok.1 ∙ ap (λ d. left_by d (recovered_views (state mid))) deed_is
            ∙ ap (left_by (line_deed (latest_view (states first (take i lines))) line)) so_far.all.state
            ∙ sym (states_more first lines i line within line_is);
        printed = performs.ok.2 ∙ ap (λ (l : Sent). l ++ deed_here.sent) so_far.all.printed ∙ append_assoc (state old).printed (printed_by first (take i lines)) deed_here.sent
            ∙ ap (λ (d : Deed). (state old).printed ++ (printed_by first (take i lines) ++ d.sent)) deed_is
            ∙ ap (λ (l : Sent). (state old).printed ++ l) (sym (said_more first lines i line within line_is));
        answer = ap (λ b. b || is_refusal outcome) so_far.all.answer ∙ ap (λ o. any_refused first (take i lines) || is_refusal o) performs.ok.0
            ∙ ap (λ (d : Deed). any_refused first (take i lines) || is_refusal d.outcome) deed_is ∙ sym (refused_more first lines i line within line_is);
      };
      moments = moments_too (Ok outcome) performs;
    }

    -- the run ends in the line
    pub gives_up : (stop : RunError) (result : Result Bool RunError) → IsErr result → IsErrAnd result (λ e. e ≡ stop)
        → PerformsBehind time state mid new deed_here (Err stop) → RunsTo time state old new lines result
    gives_up stop result failed is performs = record {
      firm = performs.firm;
      ok = if_ok result _ failed;
      err = if_err result stop _ is (ends (recovered_views (state new)) (state new).printed performs.err.0 (end_of stop) performs.err.1 performs.err.2);
      moments = moments_too (Err stop) performs;
    }

  -- all lines are done
  pub finished : (old new : D) (lines : List Line) (i : ℕ) (refused : Bool) → length lines ≤ i → SoFar old new lines i refused → RunsTo time state old new lines (Ok refused)
  finished old new lines i refused all so_far = record {
    firm = so_far.firm;
    ok = subst (λ (ls : List Line). AllDone (state old) (state new) ls refused) (take_all i lines all) so_far.all;
    err = tt;
    moments = so_far.moments;
  }
