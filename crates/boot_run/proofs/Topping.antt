-- The clauses of the top call.
use Rattle.std.proofs.Common.{◌≡◌, ◌≢◌, inl, ℕ, Bool, true, false, List, [], ◌∷◌, ◌++◌, length, take, refl, sym, ap, ◌∙◌, subst, arith, Result, Ok, Err, inr, ⊎_elim, IfOk, IfErr, IsErr, IsErrAnd, ◌||◌}
use Rattle.std.proofs.lemmas.List.{append-nil, take_all, drop_all}
use Rattle.boot_machine.specs.Prelude.{Files, State, IsIn, IsSound, candidates, recovered_view, IsImage, IsFirm, IsSettled, Timeline, EachSince, on_channel, with_printed, Sent, Adds, PrintsPart, SameButInput, latest_view, recovered_views, recovered_now}
use Rattle.boot_machine.specs.declared.machine.Channel.TheVariants.{Err as ErrChannel}
use Rattle.boot_machine.proofs.Elapsing.{at_once, weaken, joined}
use Rattle.boot_machine.proofs.Printing.{tagged_part}
use Rattle.boot_machine.proofs.Settled.{firm_of_settled}
use Rattle.boot_machine.proofs.Seeing.{sees, recovered_now_in, latest_view-recovered_views, from_views, candidate_image}
use Rattle.tool_words.specs.declared.fault.UsageReason.{UsageReason}
use Rattle.command_plans.specs.Prelude.{is_refusal, End, left_by, Stopped, Finished, NoMemory, DiskFails, PipeFails, Stays, end_of}
use Rattle.command_plans.specs.declared.outcome.RunError.{RunError}
use Rattle.command_plans.specs.declared.outcome.RunError.TheVariants.{Disk as DiskError, Pipe as PipeError, Memory as MemoryError}
use Rattle.command_plans.proofs.Exits.{if_ok, if_err, if_ok_by}
use Rattle.boot_run.specs.AskedLines.{usage_line}
use Rattle.boot_run.specs.Endings.{AnswersRefusals, AtEnd, PrintsUsage, UnlessDisk, end_at, ended_by}
use Rattle.boot_run.specs.History.{Runs, EndsBefore, states, printed_by, any_refused}
use Rattle.boot_run.specs.Lines.{line_deed}
use Rattle.boot_run.specs.RunBy.{AllPrinted, LeavesFromSync, RunsLines, RunsUsage, RunsBy}
use Rattle.boot_run.specs.RunsTo.{AllDone, IsSyncedBy, IsUnsynced, RunsAfresh, RunsTo}
use Rattle.boot_run.specs.Step.{Step, UsageStep, Leads, StopsIn, Leaves, SeesBegun, join_replies as end_to_end, replies, some_refused, view_after}
use Rattle.boot_run.specs.declared.ended.Ended.{Ended}
use Rattle.boot_run.specs.declared.ended.Ended.TheVariants.{Done, Refused, Usage, Disk, Pipe, Memory}
use Rattle.boot_run.specs.declared.line.Line.{Line}
use Rattle.boot_run.proofs.Replying.{none_empty}
use Rattle.boot_run.proofs.Running.{printed_by-is}
use Rattle.boot_run.proofs.Synced.{unsynced_yet, weaken_after}
use Rattle.boot_run.proofs.Taken.{but_disk, unless_disk}
use Rattle.boot_run.proofs.Stepping.{latest_left, one_view_after, states-is, step_of, leaves_of_run}

step : (old : List Files) (lines : List Line) (new : List Files) (sent : Sent) (end : End) → Runs old lines new sent end → Step old lines new sent end
step old lines new sent end runs = step_of old lines new sent end (none_empty (latest_view old) lines) runs

stops : (old : List Files) (lines : List Line) (v : Files) (sent : Sent) → Runs old lines (v ∷ []) sent Stopped → StopsIn old lines v sent
stops old lines v sent runs = (step old lines (v ∷ []) sent Stopped runs, λ settled. leaves_of_run old lines v sent (none_empty (latest_view old) lines) settled runs)

-- where all candidates show one view, the machine is settled
settled_after : (s : State) → IsSound s → IsFirm s → ((v w : Files) → IsIn v (recovered_views s) → IsIn w (recovered_views s) → v ≡ w) → IsSettled s
settled_after s sound firm one = record { firm = firm; images = λ m image. one (recovered_view m) (recovered_view s.files) (sees s sound firm m image) (recovered_now_in s) }

not_disk_at : (ended : Ended) → ended ≢ Disk → end_at ended ≢ DiskFails
not_disk_at Done not is = cc
not_disk_at Refused not is = cc
not_disk_at Usage not is = cc
not_disk_at Disk not is = absurd (not refl)
not_disk_at Pipe not is = cc
not_disk_at Memory not is = cc

not_stopped_at : (ended : Ended) → end_at ended ≢ Stopped
not_stopped_at Done is = cc
not_stopped_at Refused is = cc
not_stopped_at Usage is = cc
not_stopped_at Disk is = cc
not_stopped_at Pipe is = cc
not_stopped_at Memory is = cc

-- all lines done
all_runs : (old : List Files) (lines : List Line) (new : List Files) → new ≡ states old lines → Runs old lines new (printed_by old lines) Finished
all_runs old lines new is = record {
  whole = length lines;
  within = omega arith;
  part = [];
  printed = ap (printed_by old) (sym (take_all (length lines) lines (omega arith))) ∙ sym (append-nil _);
  ends =
      subst (λ (rest : List Line). EndsBefore rest (states old (take (length lines) lines)) new [] Finished)
      (sym (drop_all (length lines) lines (omega arith))) (refl, is ∙ ap (states old) (sym (take_all (length lines) lines (omega arith))));
}

-- what a run over lines comes to, in the words of the reference
pub refused-is : (old : List Files) (lines : List Line) → any_refused old lines ≡ some_refused (latest_view old) lines
refused-is old [] = refl
refused-is old (line ∷ lines) =
    ap (λ (b : Bool). is_refusal (line_deed (latest_view old) line).outcome || b)
    (refused-is (left_by (line_deed (latest_view old) line) old) lines ∙ ap (λ v. some_refused v lines) (latest_left old line))

-- nothing was done for want of memory, or because a pipe failed
stays_runs : (old : List Files) (lines : List Line) (new : List Files) (end : End) → end ≢ Finished → end ≢ DiskFails → Stays old new end → Runs old lines new [] end
stays_runs old [] new Stopped not not_disk stays = record { whole = 0; within = omega arith; part = []; printed = refl; ends = (refl, stays) }
stays_runs old [] new NoMemory not not_disk stays = record { whole = 0; within = omega arith; part = []; printed = refl; ends = (refl, stays) }
stays_runs old [] new DiskFails not not_disk stays = absurd (not_disk refl)
stays_runs old [] new PipeFails not not_disk stays = record { whole = 0; within = omega arith; part = []; printed = refl; ends = (refl, stays) }
stays_runs old [] new Finished not not_disk stays = absurd (not refl)
stays_runs old (line ∷ lines) new end not not_disk stays = record { whole = 0; within = omega arith; part = []; printed = refl; ends = inl (inl (refl, stays)) }

-- on a settled machine all views are one
one_view_of_settled : (s : State) → IsSettled s → (v : Files) → IsIn v (recovered_views s) → v ≡ latest_view (recovered_views s)
one_view_of_settled s settled v is =
    let from = from_views (candidates s) v is in
    from.2 ∙ settled.images from.0 (candidate_image s from.0 from.1) ∙ sym (latest_view-recovered_views s)

module _ {D : Type 0} (time : Timeline D) (state : D → State) where
  at_end : (old new : D) (lines : List Line) (result : Result Bool RunError) → RunsTo time state old new lines result
      → Adds (state old).printed (state new).printed (λ sent. Step (recovered_views (state old)) lines (recovered_views (state new)) sent (end_at (ended_by result)))
  at_end old new lines (Ok false) runs = (printed_by (recovered_views (state old)) lines, runs.ok.printed, step _ lines _ _ Finished (all_runs _ lines _ runs.ok.state))
  at_end old new lines (Ok true) runs = (printed_by (recovered_views (state old)) lines, runs.ok.printed, step _ lines _ _ Finished (all_runs _ lines _ runs.ok.state))
  at_end old new lines (Err DiskError) runs = (runs.err.0, runs.err.1, step _ lines _ _ DiskFails runs.err.2)
  at_end old new lines (Err PipeError) runs = (runs.err.0, runs.err.1, step _ lines _ _ PipeFails runs.err.2)
  at_end old new lines (Err MemoryError) runs = (runs.err.0, runs.err.1, step _ lines _ _ NoMemory runs.err.2)

  refusals : (old new : D) (lines : List Line) (result : Result Bool RunError) → RunsTo time state old new lines result
      → AnswersRefusals (any_refused (recovered_views (state old)) lines) (ended_by result)
  refusals old new lines (Ok false) runs = sym runs.ok.answer
  refusals old new lines (Ok true) runs = sym runs.ok.answer
  refusals old new lines (Err DiskError) runs = tt
  refusals old new lines (Err PipeError) runs = tt
  refusals old new lines (Err MemoryError) runs = tt

  all_printed : (old new : D) (lines : List Line) (refused : Bool) → AllDone (state old) (state new) lines refused → AllPrinted (state old) (state new) lines
  all_printed old new lines refused all = (
    all.printed ∙ ap (λ (l : Sent). (state old).printed ++ l) (printed_by-is (recovered_views (state old)) lines ∙ ap (λ v. end_to_end (replies v lines)) (latest_view-recovered_views (state old))),
    sym (latest_view-recovered_views (state new)) ∙ ap latest_view all.state ∙ states-is (recovered_views (state old)) lines ∙ ap (λ v. view_after v lines) (latest_view-recovered_views (state old)),
  )

  finished : (old new : D) (lines : List Line) (result : Result Bool RunError) → RunsTo time state old new lines result → AtEnd (ended_by result) (AllPrinted (state old) (state new) lines)
  finished old new lines (Ok false) runs = all_printed old new lines false runs.ok
  finished old new lines (Ok true) runs = all_printed old new lines true runs.ok
  finished old new lines (Err DiskError) runs = tt
  finished old new lines (Err PipeError) runs = tt
  finished old new lines (Err MemoryError) runs = tt

  from_sync_of : (old new : D) (lines : List Line) → IsSyncedBy time state old new lines → LeavesFromSync time state old new lines
  from_sync_of old new lines (inl unsynced) = inl unsynced
  from_sync_of old new lines (inr late) = inr (weaken_after time state (IsUnsynced (state old) lines) (RunsAfresh (state old) lines) _ old new
      (λ m o adds. (
        adds.0,
        adds.1,
        subst (λ first. Leaves first lines (recovered_view m) adds.0) (latest_view-recovered_views (state old))
            (leaves_of_run (latest_view (recovered_views (state old)) ∷ []) lines (recovered_view m) adds.0 (none_empty _ lines) (λ v is. ⊎_elim (λ here. here) (λ none. absurd none) is) adds.2),
      ))
      late)

  pub runs_lines : (old new : D) (lines : List Line) (result : Result Bool RunError) → IsSound (state new) → IsSyncedBy time state old new lines
      → RunsTo time state old new lines result → RunsLines time state old new lines (ended_by result)
  runs_lines old new lines result sound synced runs = record {
    firm = runs.firm;
    settled =
        unless_disk (ended_by result) _
        (λ not_disk settled. settled_after (state new) sound runs.firm
        (one_view_after _ lines _ _ (end_at (ended_by result)) (one_view_of_settled (state old) settled)
        (not_disk_at (ended_by result) not_disk) (not_stopped_at (ended_by result)) (at_end old new lines result runs).2));
    refusals =
        subst (λ any. AnswersRefusals any (ended_by result))
        (refused-is (recovered_views (state old)) lines ∙ ap (λ v. some_refused v lines) (latest_view-recovered_views (state old)))
        (refusals old new lines result runs);
    finished = finished old new lines result runs;
    at_end = at_end old new lines result runs;
    at_each_moment = weaken time state _ _ old new (λ m o adds. (adds.0, adds.1, stops _ lines _ adds.0 adds.2)) runs.moments;
    from_sync = from_sync_of old new lines synced;
  }

  -- no memory for the usage line
  pub usage_read_error : (old : D) (line : Sent)
      → ((m : Files) (o : Sent) → time.since old (time.clock old) m o → IsImage (state old) m × (o ≡ (state old).printed))
      → RunsUsage time state old old line Memory
  usage_read_error old line at_start = record {
    unchanged = refl;
    at_end = ([], sym (append-nil _), refl);
    at_each_moment = at_once time state _ old (λ m o left. let now = at_start m o left in (now.0, ([], now.1 ∙ sym (append-nil _), (line, refl))));
  }

  -- there was no memory to read the words
  pub runs_nothing : (asks : Result (List Line) UsageReason) (old : D) → ((m : Files) (o : Sent) → time.since old (time.clock old) m o → IsImage (state old) m × (o ≡ (state old).printed))
      → (IsFirm (state old) → (m : Files) → IsImage (state old) m → IsIn (recovered_view m) (recovered_views (state old))) → RunsBy time state asks old old Memory
  runs_nothing (Ok lines) old at_start sees_each = λ firm. record {
    firm = firm;
    settled = λ settled. settled;
    refusals = tt;
    finished = tt;
    at_end = ([], sym (append-nil _), step _ _ _ [] NoMemory (stays_runs _ _ _ NoMemory (λ is. cc) (λ is. cc) refl));
    at_each_moment =
        at_once time state _ old
        (λ m o left. let now = at_start m o left in (
          [],
          now.1 ∙ sym (append-nil _),
          stops _ _ _ []
              (stays_runs _ _ _ Stopped (λ is. cc) (λ is. cc) (recovered_view m, refl, sees_each firm m now.0)),
        ));
    from_sync = inl (at_once time state _ old (λ m o left. let now = at_start m o left in unsynced_yet (state old) lines m o now));
  }
  runs_nothing (Err reason) old at_start sees_each = usage_read_error old (on_channel ErrChannel (usage_line reason)) at_start

  -- the input is read, and then nothing more, or a run over lines
  read_moments : (old mid : D) (lines : List Line) → ((m : Files) → IsImage (state old) m → IsIn (recovered_view m) (recovered_views (state old)))
      → EachSince time old mid (λ m o. IsImage (state old) m × (o ≡ (state old).printed))
      → EachSince time old mid (λ image printed. Adds (state old).printed printed (λ sent. Runs (recovered_views (state old)) lines (recovered_view image ∷ []) sent Stopped))
  read_moments old mid lines sees moments =
      weaken time state _ _ old mid
      (λ m o now. ([], now.1 ∙ sym (append-nil _), stays_runs _ lines _ Stopped (λ is. cc) (λ is. cc) (recovered_view m, refl, sees m now.0)))
      moments

  pub same_firm : (s now : State) → SameButInput s now → IsFirm s → IsFirm now
  same_firm s now same firm = subst IsFirm (sym same) (record { unseen = firm.unseen; intent = firm.intent; unnamed = firm.unnamed })

  stays_at : (stop : RunError) (old new : List Files) → new ≡ old → Stays old new (end_of stop)
  stays_at DiskError old new is = is
  stays_at PipeError old new is = is
  stays_at MemoryError old new is = is

  not_finished_at : (stop : RunError) → end_of stop ≢ Finished
  not_finished_at DiskError is = cc
  not_finished_at PipeError is = cc
  not_finished_at MemoryError is = cc

  not_disk_of : (stop : RunError) → stop ≢ DiskError → end_of stop ≢ DiskFails
  not_disk_of DiskError not is = absurd (not refl)
  not_disk_of PipeError not is = cc
  not_disk_of MemoryError not is = cc

  -- no script was read
  pub no_script : (old mid : D) (lines : List Line) (stop : RunError) (result : Result Bool RunError) → stop ≢ DiskError → IsErr result
      → IsErrAnd result (λ e. e ≡ stop) → ((m : Files) → IsImage (state old) m → IsIn (recovered_view m) (recovered_views (state old)))
      → IsFirm (state old) → SameButInput (state old) (state mid) → EachSince time old mid (λ m o. IsImage (state old) m × (o ≡ (state old).printed)) → RunsTo time state old mid lines result
  no_script old mid lines stop result not_disk failed is sees firm same moments = record {
    firm = same_firm _ _ same firm;
    ok = if_ok result _ failed;
    err =
        if_err result stop _ is (
          [],
          ap (λ (s : State). s.printed) same ∙ sym (append-nil _),
          stays_runs _ lines _ (end_of stop) (not_finished_at stop)
              (not_disk_of stop not_disk) (stays_at stop _ _ (ap recovered_views same)),
        );
    moments = read_moments old mid lines sees moments;
  }

  -- a run over the lines of a script
  pub script_runs : (old mid new : D) (lines : List Line) (result : Result Bool RunError) → ((m : Files) → IsImage (state old) m → IsIn (recovered_view m) (recovered_views (state old)))
      → SameButInput (state old) (state mid) → EachSince time old mid (λ m o. IsImage (state old) m × (o ≡ (state old).printed))
      → RunsTo time state mid new lines result → RunsTo time state old new lines result
  script_runs old mid new lines result sees same moments runs = record {
    firm = runs.firm;
    ok = if_ok_by result (AllDone (record (state old) { input = (state mid).input }) (state new) lines) (AllDone (state old) (state new) lines)
        (λ refused all. record { state = all.state; printed = all.printed; answer = all.answer })
        (subst (λ (s : State). IfOk result (AllDone s (state new) lines)) same_ok runs.ok);
    err = subst (λ (s : State). IfErr result (λ stop. Adds s.printed (state new).printed (λ sent. Runs (recovered_views s) lines (recovered_views (state new)) sent (end_of stop)))) same_ok runs.err;
    moments = joined time state _ old mid new (read_moments old mid lines sees moments)
        (subst
        (λ (s : State). EachSince time mid new
        (λ image printed. Adds s.printed printed
        (λ sent. Runs (recovered_views s) lines (recovered_view image ∷ []) sent Stopped))) same_ok runs.moments);
  }
    where
      same_ok : state mid ≡ record (state old) { input = (state mid).input }
      same_ok = same

  -- a run over the lines of a script goes on from the sync as well
  pub script_synced : (old mid new : D) (lines : List Line) → SameButInput (state old) (state mid) → EachSince time old mid (λ m o. IsImage (state old) m × (o ≡ (state old).printed))
      → IsSyncedBy time state mid new lines → IsSyncedBy time state old new lines
  script_synced old mid new lines same moments synced =
      ⊎_elim
      (λ unsynced. inl (joined time state (IsUnsynced (state old) lines) old mid new read
      (weaken time state (IsUnsynced (state mid) lines) (IsUnsynced (state old) lines) mid new as_before unsynced)))
      (λ late. inr (record {
        synced = late.synced;
        one = late.one;
        before = joined time state (IsUnsynced (state old) lines) old mid late.synced read
            (weaken time state (IsUnsynced (state mid) lines) (IsUnsynced (state old) lines) mid late.synced as_before late.before);
        after = weaken time state (RunsAfresh (state mid) lines) (RunsAfresh (state old) lines) late.synced new
            (λ m o afresh. subst (λ (s : State). RunsAfresh s lines m o) same_ok afresh) late.after;
      }))
      synced
    where
      same_ok : state mid ≡ record (state old) { input = (state mid).input }
      same_ok = same

      read : EachSince time old mid (IsUnsynced (state old) lines)
      read = weaken time state _ (IsUnsynced (state old) lines) old mid (unsynced_yet (state old) lines) moments

      as_before : (m : Files) (o : Sent) → IsUnsynced (state mid) lines m o → IsUnsynced (state old) lines m o
      as_before m o unsynced =
          let moved = subst (λ (s : State). IsUnsynced s lines m o) same_ok unsynced in
          record { stands = record { of = moved.stands.of; candidate = moved.stands.candidate; image = moved.stands.image }; part = moved.part }

  -- no script was read, so nothing is synced
  pub script_unsynced : (old mid : D) (lines : List Line) → EachSince time old mid (λ m o. IsImage (state old) m × (o ≡ (state old).printed)) → IsSyncedBy time state old mid lines
  script_unsynced old mid lines moments = inl (weaken time state _ (IsUnsynced (state old) lines) old mid (unsynced_yet (state old) lines) moments)

  -- the line of usage
  pub usage_done : (old new : D) (text : List ℕ) → state new ≡ with_printed ErrChannel text (state old)
      → EachSince time old new (PrintsPart (state old) (on_channel ErrChannel text)) → RunsUsage time state old new (on_channel ErrChannel text) Usage
  usage_done old new text shown moments = record {
    unchanged = shown ∙ ap (λ (s : State). record (state old) { printed = s.printed }) (sym shown);
    at_end = (on_channel ErrChannel text, ap (λ (s : State). s.printed) shown, refl);
    at_each_moment = weaken time state _ _ old new (λ m o prints. (prints.stands, prints.part)) moments;
  }

  pub usage_failed : (old new : D) (text : List ℕ) → (k : ℕ) × (state new ≡ with_printed ErrChannel (take k text) (state old))
      → EachSince time old new (PrintsPart (state old) (on_channel ErrChannel text)) → RunsUsage time state old new (on_channel ErrChannel text) Pipe
  usage_failed old new text shown moments = record {
    unchanged = shown.1 ∙ ap (λ (s : State). record (state old) { printed = s.printed }) (sym shown.1);
    at_end = (on_channel ErrChannel (take shown.0 text), ap (λ (s : State). s.printed) shown.1, tagged_part ErrChannel shown.0 text);
    at_each_moment = weaken time state _ _ old new (λ m o prints. (prints.stands, prints.part)) moments;
  }

  -- the headline
  pub headline : (old new : D) (lines : List Line) (ended : Ended) → IsSettled (state old) → RunsLines time state old new lines ended
      → EachSince time old new (λ image printed. Adds (state old).printed printed (Leaves (recovered_now (state old)) lines (recovered_view image)))
  headline old new lines ended settled runs = weaken time state _ _ old new (λ m o adds. (
    adds.0,
    adds.1,
    subst (λ first. Leaves first lines (recovered_view m) adds.0) (latest_view-recovered_views (state old)) (adds.2.1 (one_view_of_settled (state old) settled)),
  )) runs.at_each_moment

  -- what a moment of the headline shows of replies and their changes
  pub after_change : (old new : D) (lines : List Line) → EachSince time old new (λ image printed. Adds (state old).printed printed (Leaves (recovered_now (state old)) lines (recovered_view image)))
      → EachSince time old new (λ image printed. Adds (state old).printed printed (SeesBegun (recovered_now (state old)) lines (recovered_view image)))
  after_change old new lines moments = weaken time state _ _ old new (λ m o adds. (adds.0, adds.1, adds.2.begun)) moments

  -- a run by what its words ask for
  pub lines_run : (asks : Result (List Line) UsageReason) (lines : List Line) (old new : D) (ended : Ended) → asks ≡ Ok lines
      → RunsBy time state asks old new ended → IsFirm (state old) → RunsLines time state old new lines ended
  lines_run asks lines old new ended is runs = subst (λ r. RunsBy time state r old new ended) is runs

  pub firm_by : (asks : Result (List Line) UsageReason) (old new : D) (ended : Ended) → RunsBy time state asks old new ended → IsFirm (state old) → IsFirm (state new)
  firm_by (Ok lines) old new ended runs firm = (runs firm).firm
  firm_by (Err reason) old new ended runs firm = subst IsFirm (sym runs.unchanged) (record { unseen = firm.unseen; intent = firm.intent; unnamed = firm.unnamed })

  still_settled : (s now : State) → now ≡ record s { printed = now.printed } → IsSettled s → IsSettled now
  still_settled s now same settled =
      subst IsSettled (sym same)
      (record {
        firm = record { unseen = settled.firm.unseen; intent = settled.firm.intent; unnamed = settled.firm.unnamed };
        images = λ m image.
            settled.images m (record { of = image.of; candidate = image.candidate; image = image.image });
      })

  pub settled_by : (asks : Result (List Line) UsageReason) (old new : D) (ended : Ended) → RunsBy time state asks old new ended → UnlessDisk ended (IsSettled (state old) → IsSettled (state new))
  settled_by (Ok lines) old new ended runs = unless_disk ended _ (λ other settled. but_disk ended _ other (runs (firm_of_settled (state old) settled)).settled settled)
  settled_by (Err reason) old new ended runs = unless_disk ended _ (λ other settled. still_settled (state old) (state new) runs.unchanged settled)

  some_views : (s : State) → recovered_views s ≢ []
  some_views s none = subst (IsIn (recovered_now s)) none (recovered_now_in s)

  -- words that are no command make a step
  usage_step : (ended : Ended) (line part : Sent) (before after : List Files) → after ≡ before → PrintsUsage ended line part → UsageStep before line after part (end_at ended)
  usage_step Done line part before after same prints = absurd prints
  usage_step Refused line part before after same prints = absurd prints
  usage_step Usage line part before after same prints = record { front = ([], append-nil part ∙ prints); finished = λ is. prints; no_memory = λ is. cc; kept = same }
  usage_step Disk line part before after same prints = absurd prints
  usage_step Pipe line part before after same prints = record { front = prints; finished = λ is. cc; no_memory = λ is. cc; kept = same }
  usage_step Memory line part before after same prints = record { front = (line, ap (λ (l : Sent). l ++ line) prints); finished = λ is. cc; no_memory = λ is. prints; kept = same }

  -- whatever the words, the run leads from the views at its start to those at its end
  pub leads_by : (asks : Result (List Line) UsageReason) (old new : D) (ended : Ended) → RunsBy time state asks old new ended → IsFirm (state old)
      → Adds (state old).printed (state new).printed (λ sent. Leads (recovered_views (state old)) asks (recovered_views (state new)) sent (end_at ended))
  leads_by (Ok lines) old new ended runs firm = let adds = (runs firm).at_end in (adds.0, adds.1, record { some = some_views (state new); step = adds.2 })
  leads_by (Err reason) old new ended runs firm = (
    runs.at_end.0,
    runs.at_end.1,
    record { some = some_views (state new); step = usage_step ended _ runs.at_end.0 (recovered_views (state old)) (recovered_views (state new)) (ap recovered_views runs.unchanged) runs.at_end.2 },
  )

  -- and a stop at each moment leads to one view
  pub stops_by : (asks : Result (List Line) UsageReason) (old new : D) (ended : Ended) → IsSound (state old) → RunsBy time state asks old new ended → IsFirm (state old)
      → EachSince time old new (λ image printed. Adds (state old).printed printed (λ sent. Leads (recovered_views (state old)) asks (recovered_view image ∷ []) sent Stopped))
  stops_by (Ok lines) old new ended sound runs firm = weaken time state _ _ old new (λ m o adds. (adds.0, adds.1, record { some = λ is. cc; step = adds.2.0 })) (runs firm).at_each_moment
  stops_by (Err reason) old new ended sound runs firm = weaken time state _ _ old new
      (λ m o now. (
        now.1.0,
        now.1.1,
        record { some = λ is. cc; step = record { front = now.1.2; finished = λ is. cc; no_memory = λ is. cc; kept = (recovered_view m, refl, sees (state old) sound firm m now.0) } },
      ))
      runs.at_each_moment
