-- What is left behind the lines that were acknowledged.
use Rattle.std.proofs.Common.{◌≡◌, ◌≢◌, inl, inr, ℕ, zero, suc, ◌+◌, ◌≤◌, ◌<◌, Bool, true, false, ◌||◌, not, List, [], ◌∷◌, ◌++◌, length, take, get_or, refl, sym, ap, ◌∙◌, subst, arith, Result, Ok, Err, length-append, take-take, IsErr, IsErrAnd}
use Rattle.std.proofs.lemmas.List.Elements.{All-nil, All-take}
use Rattle.boot_machine.specs.Prelude.{Files, IsRested, State, Timeline, Sent, Adds, SameButInput, latest_view, recovered_now, recovered_views}
use Rattle.boot_machine.proofs.Seeing.{latest_view-recovered_views}
use Rattle.command_plans.specs.Prelude.{Deed, NoMemory, end_of, run_error_rests, run_error_temps}
use Rattle.install_steps.specs.Steps.{NoNewTemp}
use Rattle.command_plans.specs.declared.outcome.RunError.{RunError}
use Rattle.command_plans.specs.declared.outcome.RunError.TheVariants.{Disk as DiskError, Pipe as PipeError, Memory as MemoryError}
use Rattle.boot_run.specs.Endings.{ended_by}
use Rattle.boot_run.specs.History.{BreaksBehind, printed_by}
use Rattle.boot_run.specs.Lines.{TidiedBy, has_command, is_unread, line_deed}
use Rattle.boot_run.specs.RunBy.{CleanBehind, CleanBy, LeavesClean}
use Rattle.boot_run.specs.RunsTo.{PerformsBehind, at_part}
use Rattle.boot_run.specs.Step.{Acknowledges, NoneEmpty, join_replies as end_to_end, replies}
use Rattle.boot_run.specs.declared.ended.Ended.{Ended}
use Rattle.boot_run.specs.declared.ended.Ended.TheVariants.{Done, Refused, Usage, Disk, Pipe, Memory}
use Rattle.boot_run.specs.declared.line.Line.{Line}
use Rattle.boot_run.proofs.Replying.{none_empty}
use Rattle.boot_run.proofs.Running.{SoFar, printed_by-is, said_more}
use Rattle.boot_run.proofs.Stepping.{length-prefix, some_length}

-- the replies to some lines are the first so many
take-replies : (view : Files) (lines : List Line) (k : ℕ) → replies view (take k lines) ≡ take k (replies view lines)
take-replies view lines zero = refl
take-replies view [] (suc k) = refl
take-replies view (line ∷ lines) (suc k) = ap (λ (l : List Sent). (line_deed view line).sent ∷ l) (take-replies (line_deed view line).after lines k)

-- no reply is empty, so more of them are longer
fewer : (view : Files) (lines : List Line) (k j : ℕ) → NoneEmpty view lines → k ≤ length (replies view lines)
    → length (end_to_end (take k (replies view lines))) ≤ length (end_to_end (take j (replies view lines))) → k ≤ j
fewer view lines zero j some within le = omega arith
fewer view [] (suc k) j some within le = absurd (omega arith)
fewer view (line ∷ lines) (suc k) zero some within le =
    absurd
    (omega (
      arith,
      le,
      length-append (line_deed view line).sent (end_to_end (take k (replies (line_deed view line).after lines))),
      some_length
          (line_deed view line).sent some.0,
    ))
fewer view (line ∷ lines) (suc k) (suc j) some within le =
    omega (
      arith,
      fewer (line_deed view line).after lines k j some.1 (omega (arith, within))
          (omega (
            arith,
            le,
            length-append (line_deed view line).sent (end_to_end (take k (replies (line_deed view line).after lines))),
            length-append
                (line_deed view line).sent (end_to_end (take j (replies (line_deed view line).after lines))),
          )),
    )

-- of what is printed no more is acknowledged than is as long
acked_most : (s : State) (lines : List Line) (j k : ℕ) (sent : Sent) → Acknowledges (replies (recovered_now s) lines) sent k
    → length sent ≤ length (end_to_end (take j (replies (recovered_now s) lines))) → k ≤ j
acked_most s lines j k sent acked short = fewer (recovered_now s) lines k j (none_empty (recovered_now s) lines) acked.within (omega (arith, short, length-prefix _ _ acked.whole))

-- what was said is so long
said_length : (s : State) (lines : List Line) (i : ℕ) → length (printed_by (recovered_views s) (take i lines)) ≡ length (end_to_end (take i (replies (recovered_now s) lines)))
said_length s lines i =
    ap length
    (printed_by-is (recovered_views s) (take i lines) ∙ ap (λ v. end_to_end (replies v (take i lines))) (latest_view-recovered_views s) ∙ ap
    end_to_end (take-replies (recovered_now s) lines i))

-- a command among fewer lines is among more
has_more : (lines : List Line) (k : ℕ) → has_command (take k lines) ≡ true → has_command lines ≡ true
has_more lines zero is = cc
has_more [] (suc k) is = cc
has_more (line ∷ lines) (suc k) is = either (not (is_unread line)) (has_command (take k lines)) (has_command lines) (has_more lines k) is
  where
    either : (a b c : Bool) → (b ≡ true → c ≡ true) → (a || b) ≡ true → (a || c) ≡ true
    either true b c so is = refl
    either false b c so is = so is

-- what is clean behind more lines is so behind fewer
fewer_clean : (s : State) (lines : List Line) (k i : ℕ) → k ≤ i → LeavesClean (take i lines) s → LeavesClean (take k lines) s
fewer_clean s lines k i le clean = subst (λ (l : List Line). LeavesClean l s) (take-take k i lines le) (record {
  tidied = All-take (TidiedBy s.files) k (take i lines) clean.tidied;
  rested = λ is. clean.rested (has_more (take i lines) k is);
})

-- nothing is printed yet
pub clean_none : (old new : State) (lines : List Line) (ended : Ended) → new.printed ≡ old.printed → CleanBehind old new lines ended
clean_none old new lines ended same = by_end ended
  where
    nothing : (k : ℕ) → Adds old.printed new.printed (λ sent. Acknowledges (replies (recovered_now old) lines) sent k) → k ≤ 0
    nothing k adds = acked_most old lines 0 k adds.0 adds.2 (omega (arith, length-append old.printed adds.0, ap length adds.1, ap length same))

    none : LeavesClean [] new
    none = record { tidied = All-nil (TidiedBy new.files); rested = λ is. cc }

    by_count : (k : ℕ) → k ≤ 0 → LeavesClean (take k lines) new
    by_count zero le = none
    by_count (suc k) le = absurd (omega (arith, le))

    by_end : (ended : Ended) → CleanBehind old new lines ended
    by_end Done = λ k adds. by_count k (nothing k adds)
    by_end Refused = λ k adds. by_count k (nothing k adds)
    by_end Usage = tt
    by_end Disk = tt
    by_end Pipe = λ k adds. by_count k (nothing k adds)
    by_end Memory = λ k adds. by_count k (nothing k adds)

-- all lines are done
pub clean_done : (old new : State) (lines : List Line) (refused : Bool) → LeavesClean lines new → CleanBehind old new lines (ended_by (Ok refused))
clean_done old new lines refused clean = by_answer refused
  where
    some : (k : ℕ) → LeavesClean (take k lines) new
    some k = record {
      tidied = All-take (TidiedBy new.files) k lines clean.tidied;
      rested = λ is. clean.rested (has_more lines k is);
    }

    by_answer : (refused : Bool) → CleanBehind old new lines (ended_by (Ok refused))
    by_answer true = λ k adds. some k
    by_answer false = λ k adds. some k

-- a part of a reply is no longer than it
part_short : (deed : Deed) (old new : List Files) (part : Sent) (stop : RunError) → BreaksBehind deed old new part (end_of stop) → length part ≤ length deed.sent
part_short deed old new part stop (inr recovers) = omega (arith, ap length recovers.0)
part_short deed old new part stop (inl (inl stays)) = omega (arith, ap length stays.0)
part_short deed old new part DiskError (inl (inr acts)) = omega (arith, ap length acts.0)
part_short deed old new part PipeError (inl (inr acts)) = length-prefix part deed.sent acts.0
part_short deed old new part MemoryError (inl (inr acts)) = absurd acts

no_part : (deed : Deed) (old new : List Files) (part : Sent) → BreaksBehind deed old new part NoMemory → part ≡ []
no_part deed old new part (inr recovers) = recovers.0
no_part deed old new part (inl (inl stays)) = stays.0
no_part deed old new part (inl (inr acts)) = absurd acts

module _ {D : Type 0} (time : Timeline D) (state : D → State) where
  -- the run ends in a line
  pub clean_broken : (old mid new : D) (lines : List Line) (i : ℕ) (refused : Bool) (line : Line) → i < length lines → get_or lines i line ≡ line → SoFar time state old mid lines i refused
      → (stop : RunError) → PerformsBehind time state mid new (line_deed (recovered_now (state mid)) line) (Err stop) → (stop ≢ DiskError → LeavesClean (take i lines) (state new))
      → at_part stop (state mid) (state new) (LeavesClean (take (i + 1) lines) (state new)) → CleanBehind (state old) (state new) lines (ended_by (Err stop))
  clean_broken old mid new lines i refused line within line_is so_far stop performs clean one_more = by_stop stop performs clean one_more
    where
      deed : Deed
      deed = line_deed (recovered_now (state mid)) line

      -- so much is printed in all, with that part of the reply
      in_all : (sent part : Sent) → (state new).printed ≡ (state mid).printed ++ part → (state new).printed ≡ (state old).printed ++ sent
          → length sent ≡ length (printed_by (recovered_views (state old)) (take i lines)) + length part
      in_all sent part is adds = omega (
        arith,
        ap length is,
        ap length adds,
        ap length so_far.all.printed,
        length-append (state mid).printed part,
        length-append (state old).printed sent,
        length-append (state old).printed (printed_by (recovered_views (state old)) (take i lines)),
      )

      more : length (printed_by (recovered_views (state old)) (take (i + 1) lines)) ≡ length (printed_by (recovered_views (state old)) (take i lines)) + length deed.sent
      more = ap length (said_more (recovered_views (state old)) lines i line within line_is) ∙ length-append (printed_by (recovered_views (state old)) (take i lines)) _
          ∙ ap (λ v. length (printed_by (recovered_views (state old)) (take i lines)) + length (line_deed v line).sent)
          (sym (ap latest_view so_far.all.state) ∙ latest_view-recovered_views (state mid))

      -- a pipe failed with this printed of the reply
      at_pipe : (part : Sent) → (state new).printed ≡ (state mid).printed ++ part → length part ≤ length deed.sent → LeavesClean (take i lines) (state new)
          → ((state new).printed ≢ (state mid).printed → LeavesClean (take (i + 1) lines) (state new)) → CleanBy (state old) (state new) lines
      at_pipe [] is short clean one_more k adds = fewer_clean (state new) lines k i
          (acked_most (state old) lines i k adds.0 adds.2 (omega (arith, in_all adds.0 [] is adds.1, said_length (state old) lines i))) clean
      at_pipe (x ∷ part) is short clean one_more k adds = fewer_clean (state new) lines k (i + 1)
          (acked_most (state old) lines (i + 1) k adds.0 adds.2 (omega (arith, in_all adds.0 (x ∷ part) is adds.1, short, more, said_length (state old) lines (i + 1))))
          (one_more (λ same. absurd (omega (arith, ap length is, ap length same, length-append (state mid).printed (x ∷ part)))))

      by_stop : (stop : RunError) → PerformsBehind time state mid new (line_deed (recovered_now (state mid)) line) (Err stop) → (stop ≢ DiskError → LeavesClean (take i lines) (state new))
          → at_part stop (state mid) (state new) (LeavesClean (take (i + 1) lines) (state new)) → CleanBehind (state old) (state new) lines (ended_by (Err stop))
      by_stop DiskError performs clean one_more = tt
      by_stop PipeError performs clean one_more = at_pipe performs.err.0 performs.err.1 (part_short deed _ _ performs.err.0 PipeError performs.err.2) (clean (λ is. cc)) one_more
      by_stop MemoryError performs clean one_more = λ k adds. fewer_clean (state new) lines k i
          (acked_most (state old) lines i k adds.0 adds.2
          (omega (arith, in_all adds.0 performs.err.0 performs.err.1 adds.1, ap length (no_part deed _ _ performs.err.0 performs.err.2), said_length (state old) lines i)))
          (clean (λ is. cc))

-- given up for the same stop
pub clean_so : (old new : State) (lines : List Line) (result : Result Bool RunError) (stop : RunError) → IsErr result → IsErrAnd result (λ e. e ≡ stop)
    → CleanBehind old new lines (ended_by (Err stop)) → CleanBehind old new lines (ended_by result)
clean_so old new lines (Ok refused) stop failed is clean = cc
clean_so old new lines (Err e) stop failed is clean = subst (λ (x : RunError). CleanBehind old new lines (ended_by (Err x))) (sym is) clean

-- what holds but after a fault of the disk
pub temps_but_disk : (stop : RunError) (s now : State) → stop ≢ DiskError → run_error_temps stop s now → NoNewTemp s now
temps_but_disk DiskError s now other temps = absurd (other refl)
temps_but_disk PipeError s now other temps = temps
temps_but_disk MemoryError s now other temps = temps

pub rests_but_disk : (stop : RunError) (now : State) → stop ≢ DiskError → run_error_rests stop now → IsRested now
rests_but_disk DiskError now other rests = absurd (other refl)
rests_but_disk PipeError now other rests = rests
rests_but_disk MemoryError now other rests = rests

-- the input was read before
pub clean_read : (old mid new : State) (lines : List Line) (ended : Ended) → SameButInput old mid → CleanBehind mid new lines ended → CleanBehind old new lines ended
clean_read old mid new lines ended same clean = by_end ended (subst (λ (s : State). CleanBehind s new lines ended) same clean)
  where
    by_end : (ended : Ended) → CleanBehind (record old { input = mid.input }) new lines ended → CleanBehind old new lines ended
    by_end Done clean = clean
    by_end Refused clean = clean
    by_end Usage clean = tt
    by_end Disk clean = tt
    by_end Pipe clean = clean
    by_end Memory clean = clean

-- what is known of the line and of those before it
pub at_part_with : (stop : RunError) (old new : State) (P Q C R : Type 0) → (stop ≢ DiskError → C) → (C → P → Q → R) → at_part stop old new P → at_part stop old new Q → at_part stop old new R
at_part_with DiskError old new P Q C R c so p q = tt
at_part_with PipeError old new P Q C R c so p q = λ differs. so (c (λ is. cc)) (p differs) (q differs)
at_part_with MemoryError old new P Q C R c so p q = tt
