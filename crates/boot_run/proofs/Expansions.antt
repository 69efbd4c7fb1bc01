-- The lines of a command of several actions.
use Rattle.std.proofs.Common.{◌≡◌, ◌≢◌, ℕ, Bool, true, false, List, [], ◌∷◌, map, take, refl, sym, ap, ◌∙◌, Result, Ok, Err, All, OnOk}
use Rattle.std.proofs.lemmas.List.Elements.{All-cons, All-nil, All-take}
use Rattle.boot_machine.specs.Prelude.{Files, IsRested, State, latest_view, recovered_now, recovered_views, seen}
use Rattle.boot_machine.proofs.Recovering.{recovered_view-calm}
use Rattle.boot_machine.proofs.Seeing.{latest_view-recovered_views}
use Rattle.tool_words.specs.declared.command.Command.TheVariants as command
use Rattle.tool_words.specs.declared.command.Several.{Several}
use Rattle.tool_words.specs.declared.action.Action.{Action}
use Rattle.boot_commands.proofs.Expansions.{expansion_some}
use Rattle.boot_commands.specs.Expanding.{StandsFor}
use Rattle.boot_commands.specs.Expansions.{expansion}
use Rattle.command_plans.specs.Prelude.{LeavesRested}
use Rattle.command_plans.specs.declared.outcome.RunError.{RunError}
use Rattle.command_plans.specs.declared.outcome.RunError.TheVariants as run_errors
use Rattle.boot_run.specs.AskedLines.{lines_at}
use Rattle.boot_run.specs.Endings.{AllTidied, ended_by}
use Rattle.boot_run.specs.Lines.{TidiedBy, is_unread}
use Rattle.boot_run.specs.RunBy.{CleanBehind, LeavesClean}
use Rattle.boot_run.specs.UpToRefused.{up_to_refused}
use Rattle.boot_run.specs.declared.line.Line.{Line}
use Rattle.boot_run.specs.declared.line.Line.TheVariants.{Part}
use Rattle.boot_run.proofs.UpToRefused.{all_run}

-- the first of the lines is a command
pub record BeginsWithCommand (lines : List Line) : Type 0 where
  pub line : Line
  pub rest : List Line
  pub whole : lines ≡ line ∷ rest
  pub command : is_unread line ≡ false

begins : (actions : List Action) → actions ≢ [] → BeginsWithCommand (map Part actions)
begins [] some = absurd (some refl)
begins (first ∷ more) some = record { line = Part first; rest = map Part more; whole = refl; command = refl }

pub begins_at : (s : State) (c : Several) → BeginsWithCommand (lines_at s (command.Several c))
begins_at s c =
    let view = latest_view (recovered_views s) in
    begins (expansion view c) (expansion_some view c)

-- no action tidies
all_tidy : (files : Files) (actions : List Action) → All (TidiedBy files) (map Part actions)
all_tidy files [] = All-nil (TidiedBy files)
all_tidy files (first ∷ more) = All-cons (TidiedBy files) (Part first) (map Part more) tt (all_tidy files more)

pub tidied_at : (s now : State) (c : Several) → AllTidied (lines_at s (command.Several c)) now
tidied_at s now c = all_tidy now.files (expansion (latest_view (recovered_views s)) c)

-- what boot sees behind a recovery is what it saw at the start
pub seen_same : (s mid : State) → IsRested mid → recovered_now mid ≡ recovered_now s → seen mid ≡ latest_view (recovered_views s)
seen_same s mid rested same = sym (recovered_view-calm mid.files rested) ∙ same ∙ sym (latest_view-recovered_views s)

-- the actions that were found there are all done, and are the lines of the start
pub lines_found : (s mid : State) (c : Several) (actions : List Action) → IsRested mid → recovered_now mid ≡ recovered_now s
    → StandsFor mid c actions → up_to_refused (recovered_now mid) (map Part actions) ≡ lines_at s (command.Several c)
lines_found s mid c actions rested same found =
    ap (λ v. up_to_refused v (map Part actions)) (recovered_view-calm mid.files rested)
    ∙ all_run (seen mid) actions found.unrefused
    ∙ ap (map Part) (found.are ∙ ap (λ v. expansion v c) (seen_same s mid rested same))

pub are_commands : (actions : List Action) → All (λ line. is_unread line ≡ false) (map Part actions)
are_commands [] = All-nil (λ line. is_unread line ≡ false)
are_commands (first ∷ more) = All-cons (λ line. is_unread line ≡ false) (Part first) (map Part more) refl (are_commands more)

-- behind lines that tidy nothing
pub clean_rested : (old new : State) (lines : List Line) (result : Result Bool RunError) → AllTidied lines new → LeavesRested result new
    → CleanBehind old new lines (ended_by result)
clean_rested old new lines result tidied = by_result result
  where
    clean : IsRested new → (k : ℕ) → LeavesClean (take k lines) new
    clean rested k = record { tidied = All-take (TidiedBy new.files) k lines tidied; rested = λ is. rested }

    by_result : (result : Result Bool RunError) → LeavesRested result new → CleanBehind old new lines (ended_by result)
    by_result (Ok false) rested = λ k adds. clean rested k
    by_result (Ok true) rested = λ k adds. clean rested k
    by_result (Err run_errors.Disk) rested = tt
    by_result (Err run_errors.Pipe) rested = λ k adds. clean rested k
    by_result (Err run_errors.Memory) rested = λ k adds. clean rested k

pub ok_rested : {T : Type 0} (result : Result T RunError) (new : State) (Told Begun : Type 0) → (Told → LeavesRested result new)
    → OnOk result (Told → Begun → IsRested new)
ok_rested (Ok value) new Told Begun rests = λ told begun. rests told
ok_rested (Err stop) new Told Begun rests = tt
