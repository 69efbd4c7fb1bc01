-- What a run over lines comes to is a step of the reference.
use Rattle.std.proofs.Common.{◌≡◌, ◌≢◌, ◌⊎◌, inl, inr, ⊎_elim, ℕ, zero, suc, ◌+◌, ◌≤◌, ◌<◌, true, List, [], ◌∷◌, ◌++◌, length, take, drop, refl, sym, ap, ◌∙◌, subst, arith, append_assoc, length-append}
use Rattle.std.proofs.lemmas.List.{append-nil, append_cancel_left}
use Rattle.boot_machine.specs.Prelude.{Files, IsIn, Sent, IsPrefix, latest_view}
use Rattle.boot_machine.proofs.Printing.{prefix_behind}
use Rattle.command_plans.specs.Prelude.{End, Stopped, Finished, NoMemory, DiskFails, PipeFails, left_by, Stays, Breaks}
use Rattle.boot_run.specs.History.{AllAre, states, printed_by, EndsBefore, Recovers, Runs}
use Rattle.boot_run.specs.Lines.{line_deed, is_unread}
use Rattle.boot_run.specs.Step.{replies, view_after, join_replies, Acknowledges, AllUnread, KeepsViews, IsEarly, IsLate, Step, NoneEmpty, IsOneView, SeesBegun, Leaves}
use Rattle.boot_run.specs.declared.line.Line.{Line}
use Rattle.boot_run.specs.declared.line.Line.TheVariants.{Plain, Part, Numbered, Unread, TooLong}

-- the view that a line leaves is the last one of the state that it leaves
pub latest_left : (old : List Files) (line : Line) → latest_view (left_by (line_deed (latest_view old) line) old) ≡ (line_deed (latest_view old) line).after
latest_left old (Plain command) = refl
latest_left old (Part action) = refl
latest_left old (Numbered number command) = refl
latest_left old (Unread number) = refl
latest_left old TooLong = refl

-- the view that lines leave is the last one of the state that they leave
pub states-is : (old : List Files) (lines : List Line) → latest_view (states old lines) ≡ view_after (latest_view old) lines
states-is old [] = refl
states-is old (line ∷ lines) = states-is (left_by (line_deed (latest_view old) line) old) lines ∙ ap (λ v. view_after v lines) (latest_left old line)

-- a line settles, or is unread and leaves the state
settles_or : (old : List Files) (line : Line)
    → (left_by (line_deed (latest_view old) line) old ≡ (line_deed (latest_view old) line).after ∷ []) ⊎
    ((is_unread line ≡ true) × (left_by (line_deed (latest_view old) line) old ≡ old))
settles_or old (Plain command) = inl refl
settles_or old (Part action) = inl refl
settles_or old (Numbered number command) = inl refl
settles_or old (Unread number) = inr (refl, refl)
settles_or old TooLong = inr (refl, refl)

-- unread lines leave the view
pub unread_after : (view : Files) (lines : List Line) (k j : ℕ) → k ≤ j → AllUnread (take j lines) → view_after view (take k lines) ≡ view
unread_after view lines zero j le all = refl
unread_after view [] (suc k) j le all = refl
unread_after view (line ∷ lines) (suc k) zero le all = absurd (omega arith)
unread_after view (Plain command ∷ lines) (suc k) (suc j) le all = cc
unread_after view (Part action ∷ lines) (suc k) (suc j) le all = cc
unread_after view (Numbered number command ∷ lines) (suc k) (suc j) le all = cc
unread_after view (Unread number ∷ lines) (suc k) (suc j) le all = unread_after view lines k j (omega arith) all.1
unread_after view (TooLong ∷ lines) (suc k) (suc j) le all = unread_after view lines k j (omega arith) all.1

pub length-prefix : (a b : Sent) → IsPrefix a b → length a ≤ length b
length-prefix a b p = omega (arith, length-append a p.0, ap length p.1)

pub some_length : (reply : Sent) → reply ≢ [] → 0 < length reply
some_length [] some = absurd (some refl)
some_length (x ∷ xs) some = omega arith

prefix_nil : (sent : Sent) → IsPrefix [] sent
prefix_nil sent = (sent, refl)

prefix_cancel : (first a b : Sent) → IsPrefix (first ++ a) (first ++ b) → IsPrefix a b
prefix_cancel first a b p = (p.0, append_cancel_left first _ _ (sym (append_assoc first a p.0) ∙ p.1))

-- nothing of the first reply is whole
none_acked : (all : List Sent) (reply sent : Sent) → length sent < length reply → Acknowledges (reply ∷ all) sent 0
none_acked all reply sent short = record { within = omega arith; whole = prefix_nil sent; most = most }
  where
    most : (j : ℕ) → j ≤ length (reply ∷ all) → IsPrefix (join_replies (take j (reply ∷ all))) sent → j ≤ 0
    most zero le p = omega arith
    most (suc j) le p = omega (arith, length-prefix _ _ p, length-append reply (join_replies (take j all)))

-- the first reply is whole, and nothing more
one_acked : (view : Files) (lines : List Line) (reply : Sent) → NoneEmpty view lines → Acknowledges (reply ∷ replies view lines) reply 1
one_acked view lines reply some = record { within = omega arith; whole = ([], append-nil _ ∙ append-nil reply); most = most lines some }
  where
    most : (lines : List Line) → NoneEmpty view lines → (j : ℕ) → j ≤ length (reply ∷ replies view lines) → IsPrefix (join_replies (take j (reply ∷ replies view lines))) reply → j ≤ 1
    most lines some zero le p = omega arith
    most lines some (suc zero) le p = omega arith
    most [] some (suc (suc j)) le p = omega arith
    most (line ∷ lines) some (suc (suc j)) le p =
        let long = length-prefix _ _ p in
        let first = length-append reply ((line_deed view line).sent ++ join_replies (take j (replies (line_deed view line).after lines))) in
        let second = length-append (line_deed view line).sent (join_replies (take j (replies (line_deed view line).after lines))) in
        omega (arith, long, first, second, some_length (line_deed view line).sent some.0)

more_acked : (all : List Sent) (reply rest : Sent) (k : ℕ) → Acknowledges all rest k → Acknowledges (reply ∷ all) (reply ++ rest) (suc k)
more_acked all reply rest k acked = record { within = omega (arith, acked.within); whole = prefix_behind reply _ rest acked.whole; most = most }
  where
    most : (j : ℕ) → j ≤ length (reply ∷ all) → IsPrefix (join_replies (take j (reply ∷ all))) (reply ++ rest) → j ≤ suc k
    most zero le p = omega arith
    most (suc j) le p = omega (arith, acked.most j (omega arith) (prefix_cancel reply _ rest p))

-- a prefix is whole or shorter
whole_or_part : (a b : Sent) → IsPrefix a b → (a ≡ b) ⊎ (length a < length b)
whole_or_part a b ([], is) = inl (sym (append-nil a) ∙ is)
whole_or_part a b (x ∷ rest, is) = inr (omega (arith, length-append a (x ∷ rest), ap length is))

keeps_if_stays : (old new : List Files) (end : End) → Stays old new end → KeepsViews old new end
keeps_if_stays old new Stopped stays = stays
keeps_if_stays old new NoMemory stays = stays
keeps_if_stays old new DiskFails stays = stays
keeps_if_stays old new PipeFails stays = stays
keeps_if_stays old new Finished stays = absurd stays

not_finished : (old new : List Files) (end : End) → Stays old new end → end ≡ Finished → ⊥
not_finished old new end stays is = subst (Stays old new) is stays

-- before the first line of some, nothing has happened
stays_step : (old : List Files) (line : Line) (lines : List Line) (new : List Files) (end : End) → (line_deed (latest_view old) line).sent ≢ [] → Stays old new end → Step old (line ∷ lines) new [] end
stays_step old line lines new end some stays = record {
  acked = 0;
  is_acked = none_acked (replies (line_deed (latest_view old) line).after lines) (line_deed (latest_view old) line).sent [] (omega (arith, some_length _ some));
  front = prefix_nil _;
  finished = λ is. absurd (not_finished old new end stays is);
  no_memory = λ is. refl;
  disk = λ is. refl;
  not_all = λ is. omega arith;
  case = inl (record { leading = 0; unread = tt; enough = omega arith; front = prefix_nil _; kept = keeps_if_stays old new end stays });
}

-- before the first line of some, what a stop had left was finished
recovers_step : (old : List Files) (line : Line) (lines : List Line) (new : List Files) (end : End) → (line_deed (latest_view old) line).sent ≢ []
    → Recovers old new end → Step old (line ∷ lines) new [] end
recovers_step old line lines new end some recovers = record {
  acked = 0;
  is_acked = none_acked (replies (line_deed (latest_view old) line).after lines) (line_deed (latest_view old) line).sent [] (omega (arith, some_length _ some));
  front = prefix_nil _;
  finished = λ is. absurd (subst (Recovers old new) is recovers);
  no_memory = λ is. refl;
  disk = λ is. refl;
  not_all = λ is. omega arith;
  case = inr (record {
    views = λ v is. inl (all_are end recovers v is);
    equal = λ not_disk v w is_v is_w. all_are end recovers v is_v ∙ sym (all_are end recovers w is_w);
    no_memory = λ is v v_in. all_are end recovers v v_in;
  });
}
  where
    all_are : (end : End) → Recovers old new end → AllAre (latest_view old) new
    all_are NoMemory recovers = recovers
    all_are DiskFails recovers = recovers
    all_are PipeFails recovers = recovers
    all_are Stopped recovers = absurd recovers
    all_are Finished recovers = absurd recovers

-- where the one view stays, it is the only one
only_of : (after : Files) (new : List Files) (end : End) → KeepsViews (after ∷ []) new end → (v : Files) → IsIn v new → v ≡ after
only_of after new Stopped kept v is = ⊎_elim (λ here. here ∙ ⊎_elim (λ one. one) (λ none. absurd none) kept.2) (λ none. absurd none) (subst (IsIn v) kept.1 is)
only_of after new Finished kept v is = ⊎_elim (λ here. here) (λ none. absurd none) (subst (IsIn v) kept is)
only_of after new NoMemory kept v is = ⊎_elim (λ here. here) (λ none. absurd none) (subst (IsIn v) kept is)
only_of after new DiskFails kept v is = ⊎_elim (λ here. here) (λ none. absurd none) (subst (IsIn v) kept is)
only_of after new PipeFails kept v is = ⊎_elim (λ here. here) (λ none. absurd none) (subst (IsIn v) kept is)

-- one line was begun, and all views are that which it leaves
left_step : (old : List Files) (line : Line) (lines : List Line) (new : List Files) (sent : Sent) (end : End)
    → (line_deed (latest_view old) line).sent ≢ [] → NoneEmpty (line_deed (latest_view old) line).after lines
    → end ≢ Finished → end ≢ NoMemory → end ≢ DiskFails → IsPrefix sent (line_deed (latest_view old) line).sent
    → KeepsViews (left_by (line_deed (latest_view old) line) old) new end → Step old (line ∷ lines) new sent end
left_step old line lines new sent end some others not_done not_memory not_disk part kept = record {
  acked = how.0;
  is_acked = how.2;
  front = (
    part.0 ++ join_replies (replies (line_deed (latest_view old) line).after lines),
    sym
        (append_assoc sent part.0 (join_replies (replies (line_deed (latest_view old) line).after lines))) ∙ ap (λ (l : Sent). l ++ join_replies
        (replies (line_deed (latest_view old) line).after lines)) part.1,
  );
  finished = λ is. absurd (not_done is);
  no_memory = λ is. absurd (not_memory is);
  disk = λ is. absurd (not_disk is);
  not_all = λ is. absurd (not_disk is);
  case = ⊎_elim late early (settles_or old line);
}
  where
    how : (k : ℕ) × (k ≤ 1) × Acknowledges (replies (latest_view old) (line ∷ lines)) sent k
    how = ⊎_elim
        (λ whole. (
          1,
          omega arith,
          subst (λ (l : Sent). Acknowledges (replies (latest_view old) (line ∷ lines)) l 1) (sym whole)
              (one_acked (line_deed (latest_view old) line).after lines (line_deed (latest_view old) line).sent others),
        ))
        (λ short. (0, omega arith, none_acked (replies (line_deed (latest_view old) line).after lines) (line_deed (latest_view old) line).sent sent short))
        (whole_or_part sent (line_deed (latest_view old) line).sent part)

    one_or_none : (k : ℕ) → k ≤ 1 → (v : Files) → v ≡ (line_deed (latest_view old) line).after
        → (v ≡ view_after (latest_view old) (take k (line ∷ lines))) ⊎
        ((k < length (line ∷ lines)) × (v ≡ view_after (latest_view old) (take (k + 1) (line ∷ lines))))
    one_or_none zero le v is = inr (omega arith, is)
    one_or_none (suc zero) le v is = inl is
    one_or_none (suc (suc k)) le v is = absurd (omega arith)

    late : left_by (line_deed (latest_view old) line) old ≡ (line_deed (latest_view old) line).after ∷ [] → IsEarly old (line ∷ lines) new sent end how.0 ⊎ IsLate old (line ∷ lines) new end how.0
    late left =
        let each : (v : Files) → IsIn v new → v ≡ (line_deed (latest_view old) line).after =
        only_of (line_deed (latest_view old) line).after new end (subst (λ (s : List Files). KeepsViews s new end) left kept) in
        inr (record {
          views = λ v is. one_or_none how.0 how.1 v (each v is);
          equal = λ not_disk v w is_v is_w. each v is_v ∙ sym (each w is_w);
          no_memory = λ is. absurd (not_memory is);
        })

    early : (is_unread line ≡ true) × (left_by (line_deed (latest_view old) line) old ≡ old) → IsEarly old (line ∷ lines) new sent end how.0 ⊎ IsLate old (line ∷ lines) new end how.0
    early unread = inl (record {
      leading = 1;
      unread = (unread.0, tt);
      enough = how.1;
      front = (part.0, part.1 ∙ sym (append-nil (line_deed (latest_view old) line).sent));
      kept = subst (λ (s : List Files). KeepsViews s new end) unread.1 kept;
    })

-- a run that breaks off in the first line
breaks_step : (old : List Files) (line : Line) (lines : List Line) (new : List Files) (sent : Sent) (end : End)
    → (line_deed (latest_view old) line).sent ≢ [] → NoneEmpty (line_deed (latest_view old) line).after lines
    → Breaks (line_deed (latest_view old) line) old new sent end → Step old (line ∷ lines) new sent end
breaks_step old line lines new sent end some others (inl stays) = subst (λ (l : Sent). Step old (line ∷ lines) new l end) (sym stays.0) (stays_step old line lines new end some stays.1)
breaks_step old line lines new sent Stopped some others (inr acts) = left_step old line lines new sent Stopped some others (λ is. cc) (λ is. cc) (λ is. cc) acts.0 acts.1
breaks_step old line lines new sent PipeFails some others (inr acts) = left_step old line lines new sent PipeFails some others (λ is. cc) (λ is. cc) (λ is. cc) acts.0 acts.1
breaks_step old line lines new sent NoMemory some others (inr acts) = absurd acts
breaks_step old line lines new sent Finished some others (inr acts) = absurd acts
breaks_step old line lines new sent DiskFails some others (inr acts) = subst (λ (l : Sent). Step old (line ∷ lines) new l DiskFails) (sym acts.0) (record {
  acked = 0;
  is_acked = none_acked (replies (line_deed (latest_view old) line).after lines) (line_deed (latest_view old) line).sent [] (omega (arith, some_length _ some));
  front = prefix_nil _;
  finished = λ is. cc;
  no_memory = λ is. cc;
  disk = λ is. refl;
  not_all = λ is. omega arith;
  case = inr (record {
    views = λ v is. ⊎_elim (λ was. inl was) (λ now. inr (omega arith, now)) (acts.1 v is);
    equal = λ not_disk. absurd (not_disk refl);
    no_memory = λ is. cc;
  });
})

-- the first line is done, and the rest is a step
more_step : (old : List Files) (line : Line) (lines : List Line) (new : List Files) (rest : Sent) (end : End)
    → Step (left_by (line_deed (latest_view old) line) old) lines new rest end → Step old (line ∷ lines) new ((line_deed (latest_view old) line).sent ++ rest) end
more_step old line lines new rest end step = record {
  acked = suc step.acked;
  is_acked =
      more_acked (replies (line_deed (latest_view old) line).after lines) (line_deed (latest_view old) line).sent rest step.acked
      (subst (λ v. Acknowledges (replies v lines) rest step.acked) last step.is_acked);
  front = prefix_behind (line_deed (latest_view old) line).sent rest _ (subst (λ v. IsPrefix rest (join_replies (replies v lines))) last step.front);
  finished = λ is. ap (λ (l : Sent). (line_deed (latest_view old) line).sent ++ l) (subst (λ v. rest ≡ join_replies (replies v lines)) last (step.finished is));
  no_memory = λ is. ap (λ (l : Sent). (line_deed (latest_view old) line).sent ++ l) (subst (λ v. rest ≡ join_replies (take step.acked (replies v lines))) last (step.no_memory is));
  disk = λ is. ap (λ (l : Sent). (line_deed (latest_view old) line).sent ++ l) (subst (λ v. rest ≡ join_replies (take step.acked (replies v lines))) last (step.disk is));
  not_all = λ is. omega (arith, step.not_all is);
  case = ⊎_elim early late step.case;
}
  where
    last : latest_view (left_by (line_deed (latest_view old) line) old) ≡ (line_deed (latest_view old) line).after
    last = latest_left old line

    more_views : (k : ℕ) (v : Files) → (v ≡ view_after (latest_view (left_by (line_deed (latest_view old) line) old)) (take k lines)) → v ≡ view_after (latest_view old) (take (suc k) (line ∷ lines))
    more_views k v is = is ∙ ap (λ w. view_after w (take k lines)) last

    late : IsLate (left_by (line_deed (latest_view old) line) old) lines new end step.acked
        → IsEarly old (line ∷ lines) new ((line_deed (latest_view old) line).sent ++ rest) end (suc step.acked) ⊎ IsLate old (line ∷ lines) new end
        (suc step.acked)
    late rest_late = inr (record {
      views =
          λ v is. ⊎_elim (λ at. inl (more_views step.acked v at))
          (λ next. inr (omega (arith, next.0), next.1 ∙ ap (λ w. view_after w (take (step.acked + 1) lines)) last ∙ one_further))
          (rest_late.views v is);
      equal = rest_late.equal;
      no_memory = λ is v v_in. more_views step.acked v (rest_late.no_memory is v v_in);
    })
      where
        one_further : view_after (line_deed (latest_view old) line).after (take (step.acked + 1) lines) ≡ view_after (latest_view old) (take (suc step.acked + 1) (line ∷ lines))
        one_further = let more : suc step.acked + 1 ≡ suc (step.acked + 1) = omega arith in ap (λ n. view_after (latest_view old) (take n (line ∷ lines))) (sym more)

    early : IsEarly (left_by (line_deed (latest_view old) line) old) lines new rest end step.acked
        → IsEarly old (line ∷ lines) new ((line_deed (latest_view old) line).sent ++ rest) end (suc step.acked) ⊎ IsLate old (line ∷ lines) new end
        (suc step.acked)
    early rest_early = ⊎_elim
        (λ left.
        let each : (v : Files) → IsIn v new → v ≡ (line_deed (latest_view old) line).after =
        only_of (line_deed (latest_view old) line).after new end (subst (λ (s : List Files). KeepsViews s new end) left rest_early.kept) in
        let same = unread_after (line_deed (latest_view old) line).after lines step.acked rest_early.leading rest_early.enough rest_early.unread in
        inr (record {
          views = λ v is. inl (each v is ∙ sym same);
          equal = λ not_disk v w is_v is_w. each v is_v ∙ sym (each w is_w);
          no_memory = λ is v v_in. each v v_in ∙ sym same;
        }))
        (λ unread. inl (record {
          leading = suc rest_early.leading;
          unread = (unread.0, rest_early.unread);
          enough = omega (arith, rest_early.enough);
          front = prefix_behind (line_deed (latest_view old) line).sent rest _ (subst (λ v. IsPrefix rest (join_replies (take rest_early.leading (replies v lines)))) last rest_early.front);
          kept = subst (λ (s : List Files). KeepsViews s new end) unread.1 rest_early.kept;
        }))
        (settles_or old line)

-- no line is left
none_step : (old new : List Files) (end : End) → end ≢ DiskFails → KeepsViews old new end → Step old [] new [] end
none_step old new end not_disk kept = record {
  acked = 0;
  is_acked = record { within = omega arith; whole = prefix_nil []; most = λ j le p. le };
  front = prefix_nil [];
  finished = λ is. refl;
  no_memory = λ is. refl;
  disk = λ is. refl;
  not_all = λ is. absurd (not_disk is);
  case = inl (record { leading = 0; unread = tt; enough = omega arith; front = prefix_nil []; kept = kept });
}

ended : (old new : List Files) (part : Sent) (end : End) → EndsBefore [] old new part end → (part ≡ []) × (end ≢ DiskFails) × KeepsViews old new end
ended old new part Stopped ends = (ends.0, λ is. cc, ends.1)
ended old new part Finished ends = (ends.0, λ is. cc, ends.1)
ended old new part NoMemory ends = (ends.0, λ is. cc, ends.1)
ended old new part DiskFails ends = absurd ends
ended old new part PipeFails ends = (ends.0, λ is. cc, ends.1)

-- a run over lines is a step of the reference
pub step_of_run : (old : List Files) (lines : List Line) (new : List Files) (end : End) → NoneEmpty (latest_view old) lines → (whole : ℕ) → whole ≤ length lines → (part : Sent)
    → EndsBefore (drop whole lines) (states old (take whole lines)) new part end → Step old lines new (printed_by old (take whole lines) ++ part) end
step_of_run old [] new end some zero le part ends = let is = ended old new part end ends in subst (λ (l : Sent). Step old [] new l end) (sym is.0) (none_step old new end is.1 is.2)
step_of_run old [] new end some (suc whole) le part ends = absurd (omega arith)
step_of_run old (line ∷ lines) new end some zero le part ends = ⊎_elim (breaks_step old line lines new part end some.0 some.1)
    (λ done. subst (λ (l : Sent). Step old (line ∷ lines) new l end) (sym done.0) (recovers_step old line lines new end some.0 done.1)) ends
step_of_run old (line ∷ lines) new end some (suc whole) le part ends =
    subst (λ (l : Sent). Step old (line ∷ lines) new l end)
    (sym (append_assoc (line_deed (latest_view old) line).sent (printed_by (left_by (line_deed (latest_view old) line) old) (take whole lines)) part))
    (more_step old line lines new (printed_by (left_by (line_deed (latest_view old) line) old) (take whole lines) ++ part) end
    (step_of_run (left_by (line_deed (latest_view old) line) old) lines new end (subst (λ v. NoneEmpty v lines) (sym (latest_left old line)) some.1) whole (omega arith) part ends))

pub step_of : (old : List Files) (lines : List Line) (new : List Files) (sent : Sent) (end : End) → NoneEmpty (latest_view old) lines → Runs old lines new sent end → Step old lines new sent end
step_of old lines new sent end some runs = subst (λ (l : Sent). Step old lines new l end) (sym runs.printed) (step_of_run old lines new end some runs.whole runs.within runs.part runs.ends)

stop_views : (old : List Files) (lines : List Line) (v : Files) (sent : Sent) → IsOneView old → (step : Step old lines (v ∷ []) sent Stopped)
    → (v ≡ view_after (latest_view old) (take step.acked lines)) ⊎ ((step.acked < length lines) × (v ≡ view_after (latest_view old) (take (step.acked + 1) lines)))
stop_views old lines v sent settled step = ⊎_elim
    (λ early. inl (ap latest_view early.kept.1 ∙ settled early.kept.0 early.kept.2 ∙ sym (unread_after (latest_view old) lines step.acked early.leading early.enough early.unread)))
    (λ late. late.views v (inl refl))
    step.case

one_view_left : (old : List Files) (line : Line) → IsOneView old → IsOneView (left_by (line_deed (latest_view old) line) old)
one_view_left old line settled = ⊎_elim
    (λ left. subst IsOneView (sym left) (λ v is. ⊎_elim (λ here. here) (λ none. absurd none) is))
    (λ unread. subst IsOneView (sym unread.1) settled)
    (settles_or old line)

no_reply_in_none : (view : Files) (lines : List Line) (k : ℕ) → NoneEmpty view lines → k ≤ length (replies view lines) → IsPrefix (join_replies (take k (replies view lines))) [] → k ≡ 0
no_reply_in_none view lines zero some le p = refl
no_reply_in_none view [] (suc k) some le p = absurd (omega arith)
no_reply_in_none view (line ∷ lines) (suc k) some le p =
    absurd (omega (arith, length-prefix _ _ p, length-append (line_deed view line).sent (join_replies (take k (replies (line_deed view line).after lines))), some_length _ some.0))

no_length : (sent : Sent) → length sent ≤ 0 → sent ≡ []
no_length [] le = refl
no_length (x ∷ sent) le = absurd (omega arith)

-- a byte of the first reply is printed, and none of the next: the run broke off in the first line
begun_first : (old : List Files) (line : Line) (lines : List Line) (v : Files) (sent : Sent) → IsOneView old
    → Breaks (line_deed (latest_view old) line) old (v ∷ []) sent Stopped → SeesBegun (latest_view old) (line ∷ lines) v sent
begun_first old line lines v sent settled (inl none) i within begun = absurd (omega (arith, begun.some, ap length none.0))
begun_first old line lines v sent settled (inr acts) zero within begun = inl (ap latest_view acts.1.1 ∙ one_view_left old line settled acts.1.0 acts.1.2 ∙ latest_left old line)
begun_first old line lines v sent settled (inr acts) (suc i) within begun =
    absurd (omega (arith, begun.some, length-append (line_deed (latest_view old) line).sent (join_replies (take i (replies (line_deed (latest_view old) line).after lines))), length-prefix _ _ acts.0))

-- the first line is done
begun_more : (old : List Files) (line : Line) (lines : List Line) (v : Files) (rest : Sent) → NoneEmpty (line_deed (latest_view old) line).after lines → IsOneView old
    → Step (left_by (line_deed (latest_view old) line) old) lines (v ∷ []) rest Stopped
    → SeesBegun (line_deed (latest_view old) line).after lines v rest
    → SeesBegun (latest_view old) (line ∷ lines) v ((line_deed (latest_view old) line).sent ++ rest)
begun_more old line lines v rest some settled step inner zero within begun =
    let reply = (line_deed (latest_view old) line).sent in
    let none : rest ≡ [] = no_length rest (omega (arith, begun.no_more, length-append reply rest, length-append reply [])) in
    let acked = subst (λ w. Acknowledges (replies w lines) rest step.acked) (latest_left old line) step.is_acked in
    let nothing : step.acked ≡ 0 =
    no_reply_in_none _ lines step.acked some acked.within
    (subst (λ (l : Sent). IsPrefix (join_replies (take step.acked (replies (line_deed (latest_view old) line).after lines))) l) none acked.whole)
    in
    let whole : reply ++ rest ≡ reply ++ [] = ap (λ (l : Sent). reply ++ l) none in
    first_or_second whole
    (subst
    (λ k. (v ≡ view_after (line_deed (latest_view old) line).after (take k lines)) ⊎
    ((k < length lines) × (v ≡ view_after (line_deed (latest_view old) line).after (take (k + 1) lines)))) nothing (recovered_now step))
  where
    recovered_now : (step : Step (left_by (line_deed (latest_view old) line) old) lines (v ∷ []) rest Stopped)
        → (v ≡ view_after (line_deed (latest_view old) line).after (take step.acked lines)) ⊎
        ((step.acked < length lines) × (v ≡ view_after (line_deed (latest_view old) line).after (take (step.acked + 1) lines)))
    recovered_now step = subst (λ w. (v ≡ view_after w (take step.acked lines)) ⊎ ((step.acked < length lines) × (v ≡ view_after w (take (step.acked + 1) lines)))) (latest_left old line)
        (stop_views (left_by (line_deed (latest_view old) line) old) lines v rest (one_view_left old line settled) step)

    first_or_second : (line_deed (latest_view old) line).sent ++ rest ≡ (line_deed (latest_view old) line).sent ++ []
        → (v ≡ (line_deed (latest_view old) line).after) ⊎
        ((0 < length lines) × (v ≡ view_after (line_deed (latest_view old) line).after (take (0 + 1) lines)))
        → (v ≡ view_after (latest_view old) (take (0 + 1) (line ∷ lines))) ⊎
        (((line_deed (latest_view old) line).sent ++ rest ≡ join_replies (take (0 + 1) (replies (latest_view old) (line ∷ lines)))) ×
        (0 + 1 < length (line ∷ lines)) × (v ≡ view_after (latest_view old) (take (0 + 2) (line ∷ lines))))
    first_or_second whole (inl now) = inl now
    first_or_second whole (inr next) = inr (whole, omega (arith, next.0), next.1)
begun_more old line lines v rest some settled step inner (suc i) within begun =
    let reply = (line_deed (latest_view old) line).sent in
    let more : suc i + 1 ≡ suc (i + 1) = omega arith in
    let two : suc i + 2 ≡ suc (i + 2) = omega arith in
    let first = length-append reply rest in
    let front = length-append reply (join_replies (take i (replies (line_deed (latest_view old) line).after lines))) in
    let no_more = subst (λ n. length (reply ++ rest) ≤ length (join_replies (take n (replies (latest_view old) (line ∷ lines))))) more begun.no_more in
    let back = length-append reply (join_replies (take (i + 1) (replies (line_deed (latest_view old) line).after lines))) in
    let now = inner i (omega (arith, within)) (record { some = omega (arith, begun.some, first, front); no_more = omega (arith, no_more, first, back) }) in
    ⊎_elim
    (λ here. inl (here ∙ ap (λ n. view_after (latest_view old) (take n (line ∷ lines))) (sym more)))
    (λ next. inr (
      ap (λ (l : Sent). reply ++ l) next.0 ∙ ap (λ n. join_replies (take n (replies (latest_view old) (line ∷ lines)))) (sym more),
      omega (arith, next.1),
      next.2 ∙ ap (λ n. view_after (latest_view old) (take n (line ∷ lines))) (sym two),
    ))
    now

begun_of_run : (old : List Files) (lines : List Line) (v : Files) → NoneEmpty (latest_view old) lines → IsOneView old → (whole : ℕ) → whole ≤ length lines → (part : Sent)
    → EndsBefore (drop whole lines) (states old (take whole lines)) (v ∷ []) part Stopped → SeesBegun (latest_view old) lines v (printed_by old (take whole lines) ++ part)
begun_of_run old [] v some settled whole le part ends = λ i within begun. absurd (omega arith)
begun_of_run old (line ∷ lines) v some settled zero le part ends = begun_first old line lines v part settled (⊎_elim (λ broke. broke) (λ none. absurd none.1) ends)
begun_of_run old (line ∷ lines) v some settled (suc whole) le part ends =
    let left = left_by (line_deed (latest_view old) line) old in
    let others = subst (λ w. NoneEmpty w lines) (sym (latest_left old line)) some.1 in
    subst (SeesBegun (latest_view old) (line ∷ lines) v) (sym (append_assoc (line_deed (latest_view old) line).sent (printed_by left (take whole lines)) part))
    (begun_more old line lines v (printed_by left (take whole lines) ++ part) some.1 settled
    (step_of_run left lines (v ∷ []) Stopped others whole (omega arith) part ends)
    (subst (λ w. SeesBegun w lines v (printed_by left (take whole lines) ++ part)) (latest_left old line)
    (begun_of_run left lines v others (one_view_left old line settled) whole (omega arith) part ends)))

-- where all views at the start are one, a stop leaves what the headline says
pub leaves_of_run : (old : List Files) (lines : List Line) (v : Files) (sent : Sent) → NoneEmpty (latest_view old) lines → IsOneView old
    → Runs old lines (v ∷ []) sent Stopped → Leaves (latest_view old) lines v sent
leaves_of_run old lines v sent some settled runs =
    let step = step_of old lines (v ∷ []) sent Stopped some runs in
    record {
      acked = step.acked;
      is_acked = step.is_acked;
      front = step.front;
      view = stop_views old lines v sent settled step;
      begun = subst (SeesBegun (latest_view old) lines v) (sym runs.printed) (begun_of_run old lines v some settled runs.whole runs.within runs.part runs.ends);
    }

-- a step from one view leaves one view, but where the disk failed
pub one_view_after : (old : List Files) (lines : List Line) (new : List Files) (sent : Sent) (end : End) → IsOneView old → end ≢ DiskFails
    → end ≢ Stopped → Step old lines new sent end → (v w : Files) → IsIn v new → IsIn w new → v ≡ w
one_view_after old lines new sent end settled not_disk not_stopped step v w is_v is_w = ⊎_elim
    (λ early.
    let same = kept_same old new end not_stopped early.kept in
    settled v (subst (IsIn v) same is_v) ∙ sym (settled w (subst (IsIn w) same is_w)))
    (λ late. late.equal not_disk v w is_v is_w)
    step.case
  where
    kept_same : (old new : List Files) (end : End) → end ≢ Stopped → KeepsViews old new end → new ≡ old
    kept_same old new Stopped not kept = absurd (not refl)
    kept_same old new Finished not kept = kept
    kept_same old new NoMemory not kept = kept
    kept_same old new DiskFails not kept = kept
    kept_same old new PipeFails not kept = kept
