-- What stays while lines are printed and commands are carried out.
use Rattle.std.proofs.Common.{◌≡◌, ℕ, true, List, take, refl, sym, ap, ◌∙◌, subst, Result, Ok, Err, OnOk, OnErr, IsErr, IsErrAnd}
use Rattle.std.proofs.lemmas.List.Elements.{All-weaker}
use Rattle.boot_machine.specs.Prelude.{Files, IsRested, State, has, IsImage, with_printed}
use Rattle.boot_base.specs.Paths.{intent}
use Rattle.boot_machine.specs.declared.machine.Channel.{Channel}
use Rattle.install_steps.specs.Steps.{NoNewTemp}
use Rattle.command_plans.specs.Prelude.{LeavesNoTemp, LeavesRested, run_error_rests, run_error_temps}
use Rattle.boot_commands.proofs.Later.{tidied_later}
use Rattle.command_plans.specs.declared.outcome.RunError.{RunError}
use Rattle.command_plans.specs.declared.outcome.RunError.TheVariants as run_errors
use Rattle.boot_run.specs.Endings.{AllTidied}
use Rattle.boot_run.specs.Lines.{Prints, TidiedBy}
use Rattle.boot_run.specs.RunsTo.{WherePrinted, at_part}
use Rattle.boot_commands.specs.Commands.{LeavesTidied, TidiesTo}
use Rattle.tool_words.specs.declared.command.One.{One}
use Rattle.boot_run.specs.declared.line.Line.{Line}
use Rattle.boot_run.specs.declared.line.Line.TheVariants.{Plain, Part, Numbered, Unread, TooLong}

-- a print changes nothing but what is printed
prints_this : (s now : State) (to : Channel) (text : List ℕ) → now ≡ with_printed to text s → Prints s now
prints_this s now to text is = record { stays = is ∙ ap (λ (t : State). record s { printed = t.printed }) (sym is) }

pub prints_by : {T E : Type 0} (result : Result Unit E) (s now : State) (to : Channel) (text : List ℕ)
    → OnOk result (T → now ≡ with_printed to text s) → OnErr result (T → (k : ℕ) × (now ≡ with_printed to (take k text) s)) → T → Prints s now
prints_by (Ok done) s now to text ok err told = prints_this s now to text (ok told)
prints_by (Err fault) s now to text ok err told = let part = err told in prints_this s now to (take part.0 text) part.1

pub prints_more : (s t u : State) → Prints s t → Prints t u → Prints s u
prints_more s t u first second = record { stays = second.stays ∙ ap (λ (x : State). record x { printed = u.printed }) first.stays }

pub prints_none : (s : State) → Prints s s
prints_none s = record { stays = refl }

pub files_stay : (s now : State) → Prints s now → now.files ≡ s.files
files_stay s now prints = ap (λ (t : State). t.files) prints.stays

pub input_stays : (s now : State) → Prints s now → now.input ≡ s.input
input_stays s now prints = ap (λ (t : State). t.input) prints.stays

-- a print leaves the images
pub image_stays : (s now : State) → Prints s now → (m : Files) → IsImage now m → IsImage s m
image_stays s now prints m image =
    let moved = subst (λ (x : State). IsImage x m) prints.stays image in
    record { of = moved.of; candidate = moved.candidate; image = moved.image }

-- where the files stay, so does a machine that is rested
pub rested_stays : (s now : State) → now.files ≡ s.files → IsRested s → IsRested now
rested_stays s now same rested = ap (λ (files : Files). has files intent) same ∙ rested

-- whatever the answer
pub leaves_rested : {T : Type 0} (result : Result T RunError) (now : State) → IsRested now → LeavesRested result now
leaves_rested (Ok value) now rested = rested
leaves_rested (Err run_errors.Disk) now rested = tt
leaves_rested (Err run_errors.Pipe) now rested = rested
leaves_rested (Err run_errors.Memory) now rested = rested

-- given up for the same stop
pub rested_so : {T U : Type 0} (given : Result T RunError) (result : Result U RunError) (stop : RunError) (now : State) → given ≡ Err stop → IsErr result
    → IsErrAnd result (λ e. e ≡ stop) → LeavesRested given now → LeavesRested result now
rested_so given (Ok value) stop now is failed same leaves = cc
rested_so given (Err e) stop now is failed same leaves = subst (λ (x : RunError). run_error_rests x now) (sym same) (subst (λ r. LeavesRested r now) is leaves)

-- what is so whatever the answer
pub where_so : {T : Type 0} (result : Result T RunError) (old new : State) (P : Type 0) → P → WherePrinted result old new P
where_so (Ok value) old new P p = p
where_so (Err run_errors.Disk) old new P p = tt
where_so (Err run_errors.Pipe) old new P p = λ differs. p
where_so (Err run_errors.Memory) old new P p = tt

-- nothing was printed
pub where_none : {T : Type 0} (result : Result T RunError) (old new : State) (P : Type 0) → IsErr result → new.printed ≡ old.printed → WherePrinted result old new P
where_none (Ok value) old new P failed same = cc
where_none (Err run_errors.Disk) old new P failed same = tt
where_none (Err run_errors.Pipe) old new P failed same = λ differs. absurd (differs same)
where_none (Err run_errors.Memory) old new P failed same = tt

-- given up for the same stop
pub where_given : {T U : Type 0} (given : Result T RunError) (result : Result U RunError) (stop : RunError) (old new : State) (P : Type 0) → given ≡ Err stop
    → IsErr result → IsErrAnd result (λ e. e ≡ stop) → WherePrinted given old new P → WherePrinted result old new P
where_given given (Ok value) stop old new P is failed same so = cc
where_given given (Err e) stop old new P is failed same so = subst (λ (x : RunError). at_part x old new P) (sym same) (subst (λ r. WherePrinted r old new P) is so)

-- more is known, and nothing was printed before
pub where_more : {T : Type 0} (result : Result T RunError) (old mid new : State) (P Q : Type 0) → mid.printed ≡ old.printed → (P → Q) → WherePrinted result mid new P → WherePrinted result old new Q
where_more (Ok value) old mid new P Q same so p = so p
where_more (Err run_errors.Disk) old mid new P Q same so p = tt
where_more (Err run_errors.Pipe) old mid new P Q same so p = λ differs. so (p (λ is. differs (is ∙ same)))
where_more (Err run_errors.Memory) old mid new P Q same so p = tt

-- of a command
pub where_tidied : {T : Type 0} (result : Result T RunError) (c : One) (old new : State) → TidiesTo result c old new → WherePrinted result old new (LeavesTidied c new.files)
where_tidied (Ok value) c old new tidies = tidies
where_tidied (Err run_errors.Disk) c old new tidies = tt
where_tidied (Err run_errors.Pipe) c old new tidies = tidies
where_tidied (Err run_errors.Memory) c old new tidies = tt

-- a machine that is rested after each answer
pub where_rested : {T : Type 0} (result : Result T RunError) (old new : State) → LeavesRested result new → WherePrinted result old new (IsRested new)
where_rested (Ok value) old new rests = rests
where_rested (Err run_errors.Disk) old new rests = tt
where_rested (Err run_errors.Pipe) old new rests = λ differs. rests
where_rested (Err run_errors.Memory) old new rests = tt

-- temporary files
pub no_more_temps : (s t u : State) → NoNewTemp s t → NoNewTemp t u → NoNewTemp s u
no_more_temps s t u first second q temp there = first q temp (second q temp there)

pub temps_stay : (s now : State) → now.files ≡ s.files → NoNewTemp s now
temps_stay s now same q temp there = subst (λ (files : Files). has files q ≡ true) same there

-- whatever the answer
pub leaves_none : {T : Type 0} (result : Result T RunError) (s now : State) → NoNewTemp s now → LeavesNoTemp result s now
leaves_none (Ok value) s now none = none
leaves_none (Err run_errors.Disk) s now none = tt
leaves_none (Err run_errors.Pipe) s now none = none
leaves_none (Err run_errors.Memory) s now none = none

-- given up for the same stop
pub leaves_so : {T U : Type 0} (given : Result T RunError) (result : Result U RunError) (stop : RunError) (s now : State) → given ≡ Err stop → IsErr result
    → IsErrAnd result (λ e. e ≡ stop) → LeavesNoTemp given s now → LeavesNoTemp result s now
leaves_so given (Ok value) stop s now is failed same leaves = cc
leaves_so given (Err e) stop s now is failed same leaves = subst (λ (x : RunError). run_error_temps x s now) (sym same) (subst (λ r. LeavesNoTemp r s now) is leaves)

-- more was done before
pub leaves_more : {T : Type 0} (result : Result T RunError) (s t now : State) → NoNewTemp s t → LeavesNoTemp result t now → LeavesNoTemp result s now
leaves_more (Ok value) s t now first leaves = no_more_temps s t now first leaves
leaves_more (Err run_errors.Disk) s t now first leaves = tt
leaves_more (Err run_errors.Pipe) s t now first leaves = no_more_temps s t now first leaves
leaves_more (Err run_errors.Memory) s t now first leaves = no_more_temps s t now first leaves

-- a folder that is tidied stays so
line_later : (s now : State) → NoNewTemp s now → (line : Line) → TidiedBy s.files line → TidiedBy now.files line
line_later s now none (Plain c) tidied = tidied_later s now c none tidied
line_later s now none (Part action) tidied = tt
line_later s now none (Numbered number c) tidied = tidied_later s now c none tidied
line_later s now none (Unread number) tidied = tt
line_later s now none TooLong tidied = tt

pub lines_later : (s now : State) (lines : List Line) → NoNewTemp s now → AllTidied lines s → AllTidied lines now
lines_later s now lines none all = All-weaker (TidiedBy s.files) (TidiedBy now.files) (line_later s now none) lines all
