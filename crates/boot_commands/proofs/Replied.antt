-- What a command leaves on a machine that is ready for it, and its reply there.
use Rattle.std.proofs.Common.{◌≡◌, ◌≤◌, ◌-◌, ℕ, arith, take, List, [], ◌∷◌, ◌++◌, map, drop, length, refl, sym, ap, ◌∙◌, true, subst, length-drop, take_all}
use Rattle.std.proofs.Math.Seq.{drop-append_seam}
use Rattle.boot_machine.specs.Prelude.{Files, State, on_channel, Sent, latest_view, recovered_views, seen}
use Rattle.boot_machine.specs.declared.machine.Channel.{Channel}
use Rattle.boot_machine.specs.declared.machine.Printed.{Printed}
use Rattle.boot_machine.proofs.Recovering.{recovered_view-calm}
use Rattle.boot_machine.proofs.Seeing.{latest_view-recovered_views}
use Rattle.command_plans.specs.Prelude.{Answer, channel_of, deed_of_answer, DoesDeed}
use Rattle.command_plans.specs.declared.outcome.Outcome.{Outcome}
use Rattle.boot_commands.specs.DemoRuns.{IsReady}

bytes_tagged : (to : Channel) (bytes : List ℕ) → map (λ (p : Printed). p.byte) (on_channel to bytes) ≡ bytes
bytes_tagged to [] = refl
bytes_tagged to (byte ∷ bytes) = ap (λ (l : List ℕ). byte ∷ l) (bytes_tagged to bytes)

rest_of : (n : ℕ) (l : Sent) → take (length l - n) (drop n l) ≡ drop n l
rest_of n l = take_all (length l - n) (drop n l) (subst (λ k. k ≤ length l - n) (sym (length-drop n l)) (omega arith))

-- what is printed behind what was printed before
pub bytes_behind : (before now : Sent) (to : Channel) (text : List ℕ) → now ≡ before ++ on_channel to text
    → map (λ (p : Printed). p.byte) (take (length now - length before) (drop (length before) now)) ≡ text
bytes_behind before now to text is =
    ap (λ (l : Sent). map (λ (p : Printed). p.byte) l) (rest_of (length before) now)
    ∙ ap (λ (l : Sent). map (λ (p : Printed). p.byte) (drop (length before) l)) is
    ∙ ap (λ (l : Sent). map (λ (p : Printed). p.byte) l) (drop-append_seam before (on_channel to text))
    ∙ bytes_tagged to text

seen_after : (now : State) (after : Files) → IsReady now → recovered_views now ≡ after ∷ [] → seen now ≡ after
seen_after now after ready views = sym (recovered_view-calm now.files ready.rested) ∙ sym (latest_view-recovered_views now) ∙ ap latest_view views

whole : (answer : Answer) (outcome : Outcome) (files : Files) (text : List ℕ) → outcome ≡ answer.outcome → files ≡ answer.after → text ≡ answer.text
    → (let found : Answer = record { outcome = outcome; after = files; text = text } in found) ≡ answer
whole answer outcome files text outcome_is files_is text_is =
    let of : Outcome → Files → List ℕ → Answer = λ o f t. record { outcome = o; after = f; text = t } in
    ap (λ (o : Outcome). of o files text) outcome_is
    ∙ ap (λ (f : Files). of answer.outcome f text) files_is
    ∙ ap (λ (t : List ℕ). of answer.outcome answer.after t) text_is

-- so the outcome, the files and the bytes that are printed are the answer
pub replied : (old now : State) (answer : Answer) (outcome : Outcome) (text : List ℕ) → DoesDeed (deed_of_answer answer) old now outcome → IsReady now
    → text ≡ map (λ (p : Printed). p.byte) (take (length now.printed - length old.printed) (drop (length old.printed) now.printed))
    → (let found : Answer = record { outcome = outcome; after = seen now; text = text } in found) ≡ answer
replied old now answer outcome text is_done ready text_is =
    whole answer outcome (seen now) text is_done.0 (seen_after now answer.after ready is_done.1)
    (text_is ∙ bytes_behind old.printed now.printed (channel_of answer.outcome) answer.text is_done.2)
