-- One more run behind a history.
use Rattle.std.proofs.Common.{◌≡◌, ℕ, suc, ◌+◌, ◌<◌, List, [], ◌∷◌, ◌++◌, length, get_or, take, drop, map, refl, sym, ap, ◌∙◌, subst, arith, append_assoc, Result, Ok, Err}
use Rattle.std.proofs.Math.ListN.{set}
use Rattle.std.proofs.Math.Seq.{take-suc, take-suc-set}
use Rattle.std.proofs.lemmas.List.{append-nil, map-append}
use Rattle.word_grammar.specs.Grammar.{Word}
use Rattle.tool_words.specs.Meaning.{meaning}
use Rattle.tool_words.specs.declared.command.Command.{Command}
use Rattle.tool_words.specs.declared.fault.UsageReason.{UsageReason}
use Rattle.boot_machine.specs.Prelude.{Counts, Files, State, Sent, Adds, latest_view, recovered_now, recovered_views}
use Rattle.boot_machine.proofs.Seeing.{latest_view-recovered_views}
use Rattle.command_plans.specs.Prelude.{Finished}
use Rattle.boot_run.specs.AskedLines.{asked_lines_of, lines_for, lines_to_run, taken_by}
use Rattle.boot_run.specs.Endings.{AnswersRefusals, FitsWords, HasCause, TakesInput, end_at, ended_of, status_of}
use Rattle.boot_run.specs.Step.{Leads, join_replies, some_refused}
use Rattle.boot_run.specs.declared.ended.Ended.{Ended}
use Rattle.boot_run.specs.declared.ended.Ended.TheVariants.{Done, Refused, Usage, Disk, Pipe, Memory}
use Rattle.boot_run.specs.declared.line.Line.{Line}
use Rattle.boot_history.specs.Histories.{EndBy, EndsBy, FitsReplies, HasHistory, HaveCauses, IsHistory, Run, TakesFrom, TakeTurns, asked_at, state_after}

history_push : (old : List Files) (runs : List Run) (run : Run) → IsHistory old runs
    → Leads (state_after old runs) (asked_at (latest_view (state_after old runs)) run) run.left run.sent run.end
    → IsHistory old (runs ++ run ∷ [])
history_push old [] run history leads = (leads, tt)
history_push old (first ∷ runs) run history leads = (history.0, history_push first.left runs run history.1 leads)

state_push : (old : List Files) (runs : List Run) (run : Run) → state_after old (runs ++ run ∷ []) ≡ run.left
state_push old [] run = refl
state_push old (first ∷ runs) run = state_push first.left runs run

joined_push : (texts : List Sent) (text : Sent) → join_replies (texts ++ text ∷ []) ≡ join_replies texts ++ text
joined_push [] text = append-nil text
joined_push (first ∷ texts) text =
    ap (λ (l : Sent). first ++ l) (joined_push texts text) ∙ sym (append_assoc first (join_replies texts) text)

takes_push : (input : List ℕ) (runs : List Run) (run : Run) (mid left : List ℕ) → TakeTurns input runs mid
    → TakesFrom run mid left → TakeTurns input (runs ++ run ∷ []) left
takes_push input [] run mid left turns takes = (left, subst (λ (l : List ℕ). TakesFrom run l left) turns takes, refl)
takes_push input (first ∷ runs) run mid left turns takes =
    (turns.0, turns.1, takes_push turns.0 runs run mid left turns.2 takes)

ends_push : (old : List Files) (runs : List Run) (run : Run) (statuses : List ℕ) (status : ℕ) → EndBy old runs statuses
    → EndsBy (state_after old runs) run status → EndBy old (runs ++ run ∷ []) (statuses ++ status ∷ [])
ends_push old [] run [] status told ends = (ends, tt)
ends_push old [] run (other ∷ statuses) status told ends = absurd told
ends_push old (first ∷ runs) run [] status told ends = absurd told
ends_push old (first ∷ runs) run (other ∷ statuses) status told ends =
    (told.0, ends_push first.left runs run statuses status told.1 ends)

causes_push : (statuses : List ℕ) (status : ℕ) (old mid new : Counts) → HaveCauses statuses old mid
    → HasCause (ended_of status) mid new → HaveCauses (statuses ++ status ∷ []) old new
causes_push [] status old mid new same cause =
    (new, subst (λ counts. HasCause (ended_of status) counts new) same cause, refl)
causes_push (first ∷ statuses) status old mid new causes cause =
    (causes.0, causes.1, causes_push statuses status causes.0 mid new causes.2 cause)

-- what the clauses of a run say of it
pub record IsRunBy (words : List Word) (status : ℕ) (old new : State) : Type 0 where
  pub one : status ≡ status_of (ended_of status)
  pub leads : Adds old.printed new.printed (λ sent. Leads (recovered_views old) (asked_lines_of words old)
      (recovered_views new) sent (end_at (ended_of status)))
  pub refused : (lines : List Line) → asked_lines_of words old ≡ Ok lines
      → AnswersRefusals (some_refused (recovered_now old) lines) (ended_of status)
  pub fits : FitsWords (meaning words) (ended_of status)
  pub input : TakesInput (meaning words) (ended_of status) old.input new.input

fits_asked : (input : List ℕ) (meant : Result Command UsageReason) (view now : Files) (ended : Ended) → now ≡ view
    → ((lines : List Line) → lines_to_run input view meant ≡ Ok lines → AnswersRefusals (some_refused now lines) ended)
    → FitsWords meant ended → FitsReplies view (lines_to_run input view meant) ended
fits_asked input (Ok command) view now ended same refused fits =
    subst (λ v. AnswersRefusals (some_refused v (lines_for input view command)) ended) same
    (refused (lines_for input view command) refl)
fits_asked input (Err reason) view now ended same refused fits = fits

pub fits_replies : (words : List Word) (status : ℕ) (old : State)
    → ((lines : List Line) → asked_lines_of words old ≡ Ok lines
    → AnswersRefusals (some_refused (recovered_now old) lines) (ended_of status))
    → FitsWords (meaning words) (ended_of status)
    → FitsReplies (latest_view (recovered_views old)) (asked_lines_of words old) (ended_of status)
fits_replies words status old refused fits =
    fits_asked old.input (meaning words) (latest_view (recovered_views old)) (recovered_now old) (ended_of status)
    (sym (latest_view-recovered_views old)) refused fits

-- a run that comes to its end takes what its words ask for
takes_whole : (meant : Result Command UsageReason) (ended : Ended) (old new : List ℕ) → FitsWords meant ended
    → TakesInput meant ended old new → end_at ended ≡ Finished → new ≡ drop (taken_by meant) old
takes_whole meant Done old new fits takes is = takes.at_end
takes_whole meant Refused old new fits takes is = takes.at_end
takes_whole (Ok command) Usage old new fits takes is = absurd (fits refl)
takes_whole (Err reason) Usage old new fits takes is =
    let none : takes.count ≡ 0 = omega (arith, takes.most) in
    takes.taken ∙ ap (λ n. drop n old) none
takes_whole meant Disk old new fits takes is = cc
takes_whole meant Pipe old new fits takes is = cc
takes_whole meant Memory old new fits takes is = cc

-- one more run behind those of a history
one_more : (words : List (List Word)) (statuses : List ℕ) (old mid new : State) (said : Sent) (spoken : List Word)
    (status : ℕ) → HasHistory words statuses old mid said → (run : IsRunBy spoken status mid new)
    → HasHistory (words ++ spoken ∷ []) (statuses ++ status ∷ []) old new (said ++ run.leads.0)
one_more words statuses old mid new said spoken status has by = record {
  runs = has.runs ++ run ∷ [];
  history = history_push (recovered_views old) has.runs run has.history
      (subst (λ (s : List Files). Leads s (asked_at (latest_view s) run) run.left run.sent run.end) (sym has.left)
      by.leads.2);
  left = state_push (recovered_views old) has.runs run;
  fed = takes_push old.input has.runs run mid.input new.input has.fed (record {
    begins = refl;
    count = by.input.count;
    most = by.input.most;
    leaves = by.input.taken;
    whole = λ is. takes_whole (meaning spoken) (ended_of status) mid.input new.input by.fits by.input is;
  });
  told = ends_push (recovered_views old) has.runs run statuses status has.told
      (subst (λ (s : List Files). EndsBy s run status) (sym has.left) (record {
        one = by.one;
        end = refl;
        replies = fits_replies spoken status mid by.refused by.fits;
      }));
  spoken =
      map-append (λ (r : Run). r.words) has.runs (run ∷ [])
      ∙ ap (λ (l : List (List Word)). l ++ spoken ∷ []) has.spoken;
  said =
      ap join_replies (map-append (λ (r : Run). r.sent) has.runs (run ∷ []))
      ∙ joined_push (map (λ (r : Run). r.sent) has.runs) run.sent
      ∙ ap (λ (l : Sent). l ++ run.sent) has.said;
}
  where
    run : Run
    run = record {
      words = spoken;
      input = mid.input;
      sent = by.leads.0;
      end = end_at (ended_of status);
      left = recovered_views new;
    }

-- one more run behind those of a history, on a machine that has printed what they printed
pub one_longer : (words more : List (List Word)) (statuses written : List ℕ) (old mid new : State) (spoken : List Word)
    (status : ℕ) → more ≡ words ++ spoken ∷ [] → written ≡ statuses ++ status ∷ []
    → Adds old.printed mid.printed (HasHistory words statuses old mid) → IsRunBy spoken status mid new
    → Adds old.printed new.printed (HasHistory more written old new)
one_longer words more statuses written old mid new spoken status words_are statuses_are has by = (
  has.0 ++ by.leads.0,
  by.leads.1 ∙ ap (λ (l : Sent). l ++ by.leads.0) has.1 ∙ append_assoc old.printed has.0 by.leads.0,
  subst (λ (l : List (List Word)). HasHistory l written old new (has.0 ++ by.leads.0)) (sym words_are)
      (subst (λ (l : List ℕ). HasHistory (words ++ spoken ∷ []) l old new (has.0 ++ by.leads.0)) (sym statuses_are)
      (one_more words statuses old mid new has.0 spoken status has.2 by)),
)

pub mapped_next : {A B : Type 0} (f : A → B) (l : List A) (i : ℕ) (x : A) → i < length l → x ≡ get_or l i x
    → map f (take (i + 1) l) ≡ map f (take i l) ++ f x ∷ []
mapped_next f l i x lt is =
    let more : i + 1 ≡ suc i = omega arith in
    ap (λ n. map f (take n l)) more
    ∙ ap (map f) (take-suc l i x lt ∙ ap (λ y. take i l ++ y ∷ []) (sym is))
    ∙ map-append f (take i l) (x ∷ [])

pub status_next : (statuses : List ℕ) (i : ℕ) (status : ℕ) → i < length statuses
    → take (i + 1) (set statuses i status) ≡ take i statuses ++ status ∷ []
status_next statuses i status lt =
    let more : i + 1 ≡ suc i = omega arith in
    ap (λ n. take n (set statuses i status)) more ∙ take-suc-set statuses i status lt

pub causes_next : (statuses : List ℕ) (i status : ℕ) (old mid new : Counts) → i < length statuses
    → HaveCauses (take i statuses) old mid → HasCause (ended_of status) mid new
    → HaveCauses (take (i + 1) (set statuses i status)) old new
causes_next statuses i status old mid new lt causes cause =
    subst (λ it. HaveCauses it old new) (sym (status_next statuses i status lt))
    (causes_push (take i statuses) status old mid new causes cause)
