-- How much of the input a run takes, and what its ends say.
use Rattle.std.proofs.Common.{◌≡◌, ◌≢◌, ◌≤◌, ℕ, Bool, true, false, List, [], drop, refl, sym, ap, ◌∙◌, arith, Result, Ok, Err, OnOk}
use Rattle.boot_machine.specs.Prelude.{Files}
use Rattle.tool_words.specs.declared.command.Command.{Command}
use Rattle.tool_words.specs.declared.command.Command.TheVariants as command
use Rattle.tool_words.specs.declared.fault.UsageReason.{UsageReason}
use Rattle.command_plans.specs.declared.outcome.RunError.{RunError}
use Rattle.command_plans.specs.declared.outcome.RunError.TheVariants.{Disk as DiskError, Pipe as PipeError, Memory as MemoryError}
use Rattle.boot_run.specs.AskedLines.{lines_for, lines_to_run, taken_by}
use Rattle.boot_run.specs.Endings.{AtEnd, FitsWords, TakesInput, UnlessDisk, ended_by, ended_of, status_of}
use Rattle.boot_run.specs.declared.ended.Ended.{Ended}
use Rattle.boot_run.specs.declared.ended.Ended.TheVariants.{Done, Refused, Usage, Disk, Pipe, Memory}
use Rattle.boot_run.specs.declared.line.Line.{Line}

pub at_any : (ended : Ended) (P : Type 0) → P → AtEnd ended P
at_any Done P p = p
at_any Refused P p = p
at_any Usage P p = tt
at_any Disk P p = tt
at_any Pipe P p = tt
at_any Memory P p = tt

pub at_end_by : (result : Result Bool RunError) (P : Type 0) → OnOk result P → AtEnd (ended_by result) P
at_end_by (Ok false) P p = p
at_end_by (Ok true) P p = p
at_end_by (Err DiskError) P p = tt
at_end_by (Err PipeError) P p = tt
at_end_by (Err MemoryError) P p = tt

pub on_ok_by : {T E : Type 0} (result : Result T E) (P Q : Type 0) → (P → Q) → OnOk result P → OnOk result Q
on_ok_by (Ok value) P Q so p = so p
on_ok_by (Err fault) P Q so p = tt

pub on_ok_any : {T E : Type 0} (result : Result T E) (P : Type 0) → P → OnOk result P
on_ok_any (Ok value) P p = p
on_ok_any (Err fault) P p = tt

pub unless_disk : (ended : Ended) (P : Type 0) → (ended ≢ Disk → P) → UnlessDisk ended P
unless_disk Done P p = p (λ is. cc)
unless_disk Refused P p = p (λ is. cc)
unless_disk Usage P p = p (λ is. cc)
unless_disk Disk P p = tt
unless_disk Pipe P p = p (λ is. cc)
unless_disk Memory P p = p (λ is. cc)

pub but_disk : (ended : Ended) (P : Type 0) → ended ≢ Disk → UnlessDisk ended P → P
but_disk Done P other p = p
but_disk Refused P other p = p
but_disk Usage P other p = p
but_disk Disk P other p = absurd (other refl)
but_disk Pipe P other p = p
but_disk Memory P other p = p

-- the status tells of the end
pub ended_again : (ended : Ended) → ended_of (status_of ended) ≡ ended
ended_again Done = refl
ended_again Refused = refl
ended_again Usage = refl
ended_again Disk = refl
ended_again Pipe = refl
ended_again Memory = refl

pub fits_memory : (meant : Result Command UsageReason) → FitsWords meant Memory
fits_memory (Ok c) = λ is. cc
fits_memory (Err reason) = tt

-- no input is taken
pub takes_nothing : (meant : Result Command UsageReason) (ended : Ended) (old new : List ℕ) → taken_by meant ≡ 0 → new ≡ old → TakesInput meant ended old new
takes_nothing meant ended old new none same = record {
  count = 0;
  most = omega arith;
  taken = same;
  at_end = at_any ended _ (same ∙ ap (λ (n : ℕ). drop n old) (sym none));
}

pub takes_usage : (meant : Result Command UsageReason) (reason : UsageReason) (ended : Ended) (old new : List ℕ) → meant ≡ Err reason → new ≡ old → TakesInput meant ended old new
takes_usage meant reason ended old new is same = takes_nothing meant ended old new (ap taken_by is) same

-- a script takes so much, and all of it at its end
pub takes_script : (ended : Ended) (old new : List ℕ) → ((k : ℕ) × (k ≤ 1048577) × (new ≡ drop k old)) → AtEnd ended (new ≡ drop 1048577 old)
    → TakesInput (Ok command.Script) ended old new
takes_script ended old new some whole = record { count = some.0; most = some.1; taken = some.2; at_end = whole }

-- the lines that words ask for
lines_or : Result (List Line) UsageReason → List Line
lines_or (Ok lines) = lines
lines_or (Err reason) = []

pub lines_are : (input : List ℕ) (view : Files) (meant : Result Command UsageReason) (c : Command) (lines : List Line) → meant ≡ Ok c
    → lines_to_run input view meant ≡ Ok lines → lines_for input view c ≡ lines
unfolding lines_or
lines_are input view meant c lines is asks = ap lines_or (sym (ap (lines_to_run input view) is) ∙ asks)

-- words that are no command ask for none
pub no_lines : (input : List ℕ) (view : Files) (meant : Result Command UsageReason) (reason : UsageReason) (lines : List Line) → meant ≡ Err reason → lines_to_run input view meant ≡ Ok lines → ⊥
no_lines input view meant reason lines is asks = cc (sym (ap (lines_to_run input view) is) ∙ asks)
