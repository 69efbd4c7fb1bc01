-- A run that ends at the first refused line.
use Rattle.std.proofs.Common.{◌≡◌, ◌⊎◌, inl, inr, ℕ, zero, suc, ◌+◌, ◌≤◌, ◌<◌, Bool, true, false, cond, ◌||◌, List, [], ◌∷◌, length, map, drop, take, get_or, refl, sym, ap, ◌∙◌, subst, arith, Result, Ok, Err, IsErr, IsErrAnd, if◌then◌else◌}
use Rattle.std.proofs.lemmas.Bool.{cond-true, cond-false}
use Rattle.std.proofs.lemmas.List.{drop_all, drop_more}
use Rattle.boot_base.specs.declared.refusal.Refusal.{Refusal}
use Rattle.boot_machine.specs.Prelude.{Files, IsIn, State, recovered_view, IsFirm, Timeline, Sent, latest_view, recovered_now, recovered_views}
use Rattle.boot_machine.proofs.Seeing.{latest_view-recovered_views}
use Rattle.tool_words.specs.declared.action.Action.{Action}
use Rattle.tool_words.specs.declared.action.Action.TheVariants as action
use Rattle.command_plans.specs.Prelude.{is_refusal, Deed, left_by, Performs, end_of}
use Rattle.command_plans.specs.declared.outcome.Outcome.{Outcome}
use Rattle.command_plans.specs.declared.outcome.RunError.{RunError}
use Rattle.boot_commands.specs.Replies.{action_reply}
use Rattle.boot_commands.specs.Expanding.{NoneRefused, RefusedOrDone}
use Rattle.boot_run.specs.Lines.{is_unread, line_deed}
use Rattle.boot_run.specs.RunsTo.{RunsTo}
use Rattle.boot_run.specs.Spared.{AllKeep, LineKeeps}
use Rattle.boot_run.specs.Step.{some_refused}
use Rattle.boot_run.specs.UpToRefused.{up_to_refused}
use Rattle.boot_run.specs.declared.line.Line.{Line}
use Rattle.boot_run.specs.declared.line.Line.TheVariants.{Part}
use Rattle.boot_run.proofs.Recovering.{performed_plain}
use Rattle.boot_run.proofs.Running.{SoFar, finished, gives_up, goes_on, started}
use Rattle.boot_run.proofs.Spared.{keeps_more}
use Rattle.boot_run.proofs.Synced.{command_settles}

-- where actions aren't refused, a run does them all
none_run : (view : Files) (actions : List Action) → NoneRefused view actions → up_to_refused view (map Part actions) ≡ map Part actions
none_run view [] none = refl
none_run view (c ∷ actions) none =
    let reply = action_reply view c in
    ap (λ (l : List Line). Part c ∷ l)
    (cond-false (is_refusal reply.outcome) [] (up_to_refused reply.after (map Part actions)) none.0 ∙ none_run reply.after actions none.1)

one_run : (view : Files) (line : Line) → up_to_refused view (line ∷ []) ≡ line ∷ []
one_run view line = ap (λ (l : List Line). line ∷ l) (by (is_refusal (line_deed view line).outcome))
  where
    by : (refused : Bool) → cond refused (let none : List Line = [] in none) [] ≡ []
    by true = refl
    by false = refl

-- and so it does where the command is refused
pub all_run : (view : Files) (actions : List Action) → RefusedOrDone view actions → up_to_refused view (map Part actions) ≡ map Part actions
all_run view [] done = refl
all_run view (action.Put file target ∷ actions) done = none_run view (action.Put file target ∷ actions) done
all_run view (action.Enter path text ∷ actions) done = none_run view (action.Enter path text ∷ actions) done
all_run view (action.Remove path ∷ actions) done = none_run view (action.Remove path ∷ actions) done
all_run view (action.Tell text ∷ actions) done = none_run view (action.Tell text ∷ actions) done
all_run view (action.Refuse why ∷ []) done = one_run view (Part (action.Refuse why))
all_run view (action.Refuse why ∷ (next ∷ actions)) done = none_run view (action.Refuse why ∷ (next ∷ actions)) done

-- and no reply of it is a refusal
pub none_refused : (view : Files) (actions : List Action) → NoneRefused view actions → some_refused view (map Part actions) ≡ false
none_refused view [] none = refl
none_refused view (c ∷ actions) none =
    let reply = action_reply view c in
    ap (λ b. b || some_refused reply.after (map Part actions)) none.0 ∙ none_refused reply.after actions none.1

-- the command is refused, or no reply is a refusal
pub alone_or_none : (view : Files) (actions : List Action) → RefusedOrDone view actions
    → ((why : Refusal) × (actions ≡ action.Refuse why ∷ [])) ⊎ (some_refused view (map Part actions) ≡ false)
alone_or_none view [] done = inr refl
alone_or_none view (action.Put file target ∷ actions) done = inr (none_refused view (action.Put file target ∷ actions) done)
alone_or_none view (action.Enter path text ∷ actions) done = inr (none_refused view (action.Enter path text ∷ actions) done)
alone_or_none view (action.Remove path ∷ actions) done = inr (none_refused view (action.Remove path ∷ actions) done)
alone_or_none view (action.Tell text ∷ actions) done = inr (none_refused view (action.Tell text ∷ actions) done)
alone_or_none view (action.Refuse why ∷ []) done = inl (why, refl)
alone_or_none view (action.Refuse why ∷ (next ∷ actions)) done = inr (none_refused view (action.Refuse why ∷ (next ∷ actions)) done)

-- ---- places in a list

place_in : {A : Type 0} (xs : List A) (i : ℕ) (x : A) (rest : List A) → drop i xs ≡ x ∷ rest
    → (i < length xs) × (get_or xs i x ≡ x) × (drop (suc i) xs ≡ rest)
place_in [] zero x rest is = cc
place_in [] (suc i) x rest is = cc
place_in (y ∷ xs) zero x rest is = (omega arith, ap (λ l. get_or l 0 x) is, ap (λ l. drop 1 l) is)
place_in (y ∷ xs) (suc i) x rest is = let more = place_in xs i x rest is in (omega (arith, more.0), more.1, more.2)

past_end : {A : Type 0} (xs : List A) (i : ℕ) → drop i xs ≡ [] → length xs ≤ i
past_end [] i is = omega arith
past_end (x ∷ xs) zero is = cc
past_end (x ∷ xs) (suc i) is = omega (arith, past_end xs i is)

one_more : (i : ℕ) → suc i ≡ i + 1
one_more i = omega arith

latest_settled : (deed : Deed) (s : List Files) → deed.settles ≡ true → latest_view (left_by deed s) ≡ deed.after
latest_settled deed s settles = rw settles refl

-- ---- the run so far

module _ {D : Type 0} (time : Timeline D) (state : D → State) where
  -- the lines that such a run does
  abbrev pub lines_done : D → List Line → List Line
  lines_done old lines = up_to_refused (recovered_now (state old)) lines

  -- the first so many lines are done, and none of them was refused
  pub record Unrefused (old now : D) (lines : List Line) (i : ℕ) : Type 0 where
    pub so_far : SoFar time state old now (lines_done old lines) i false
    pub rest : drop i (lines_done old lines) ≡ up_to_refused (recovered_now (state now)) (drop i lines)

  pub none_yet : (old : D) (lines : List Line) → IsFirm (state old)
      → ((m : Files) (o : Sent) → time.since old (time.clock old) m o → IsIn (recovered_view m) (recovered_views (state old)) × (o ≡ (state old).printed))
      → Unrefused old old lines 0
  none_yet old lines firm at_start = record { so_far = started time state old (lines_done old lines) firm at_start; rest = refl }

  -- all lines are done
  pub all_done : (old new : D) (lines : List Line) (i : ℕ) → length lines ≤ i → Unrefused old new lines i
      → RunsTo time state old new (lines_done old lines) (Ok false)
  all_done old new lines i all before =
      finished time state old new (lines_done old lines) i false
      (past_end (lines_done old lines) i (before.rest ∙ ap (up_to_refused (recovered_now (state new))) (drop_all i lines all))) before.so_far

  module _ (old mid new : D) (lines : List Line) (i : ℕ) (line : Line) (within : i < length lines) (line_is : get_or lines i line ≡ line)
      (command : is_unread line ≡ false) (before : Unrefused old mid lines i) where
    abbrev deed : Deed
    deed = line_deed (recovered_now (state mid)) line

    abbrev later : List Line
    later = up_to_refused deed.after (drop (i + 1) lines)

    abbrev behind : List Line
    behind = if is_refusal deed.outcome then [] else later

    rest_is : drop i (lines_done old lines) ≡ line ∷ behind
    rest_is = before.rest
        ∙ ap (up_to_refused (recovered_now (state mid))) (drop_more lines i line within ∙ ap (λ (x : Line). x ∷ drop (i + 1) lines) line_is)

    place : (i < length (lines_done old lines)) × (get_or (lines_done old lines) i line ≡ line) × (drop (i + 1) (lines_done old lines) ≡ behind)
    place =
        let found = place_in (lines_done old lines) i line behind rest_is in
        (found.0, found.1, ap (λ n. drop n (lines_done old lines)) (sym (one_more i)) ∙ found.2)

    -- the run ends in the line
    pub stops_in : (stop : RunError) (result : Result Bool RunError) → IsErr result → IsErrAnd result (λ e. e ≡ stop)
        → Performs time state end_of mid new deed (Err stop) → RunsTo time state old new (lines_done old lines) result
    stops_in stop result failed is performs =
        gives_up time state old mid new (lines_done old lines) i false line place.0 place.1 before.so_far stop result failed is
        (performed_plain time state mid new deed (Err stop) performs)

    next : (outcome : Outcome) → Performs time state end_of mid new deed (Ok outcome)
        → SoFar time state old new (lines_done old lines) (i + 1) (is_refusal outcome)
    next outcome performs =
        goes_on time state old mid new (lines_done old lines) i false line place.0 place.1 before.so_far outcome
        (performed_plain time state mid new deed (Ok outcome) performs)

    -- the line leaves the temporary files that it spares
    pub keeps_next : AllKeep (recovered_now (state old)) (take i (lines_done old lines)) (state old).files (state mid).files
        → LineKeeps (recovered_now (state mid)) line (state mid).files (state new).files
        → AllKeep (recovered_now (state old)) (take (i + 1) (lines_done old lines)) (state old).files (state new).files
    keeps_next kept keeps =
        keeps_more (state old) (state mid) (state new) (lines_done old lines) i line place.0 place.1 before.so_far.all.state kept keeps

    -- it is refused
    pub ends_at : (outcome : Outcome) → Performs time state end_of mid new deed (Ok outcome) → is_refusal outcome ≡ true
        → RunsTo time state old new (lines_done old lines) (Ok true)
    ends_at outcome performs is =
        let last : drop (i + 1) (lines_done old lines) ≡ [] =
        place.2 ∙ cond-true (is_refusal deed.outcome) [] later (ap is_refusal (sym performs.ok.0) ∙ is) in
        subst (λ b. RunsTo time state old new (lines_done old lines) (Ok b)) is
        (finished time state old new (lines_done old lines) (i + 1) (is_refusal outcome) (past_end (lines_done old lines) (i + 1) last) (next outcome performs))

    -- it isn't
    pub goes_behind : (outcome : Outcome) → Performs time state end_of mid new deed (Ok outcome) → is_refusal outcome ≡ false
        → Unrefused old new lines (i + 1)
    goes_behind outcome performs is =
        let after : deed.after ≡ recovered_now (state new) =
        sym (latest_settled deed (recovered_views (state mid)) (command_settles (recovered_now (state mid)) line command))
        ∙ ap latest_view (sym performs.ok.1) ∙ latest_view-recovered_views (state new) in
        record {
          so_far = subst (SoFar time state old new (lines_done old lines) (i + 1)) is (next outcome performs);
          rest = place.2 ∙ cond-false (is_refusal deed.outcome) [] later (ap is_refusal (sym performs.ok.0) ∙ is)
              ∙ ap (λ (v : Files). up_to_refused v (drop (i + 1) lines)) after;
        }
