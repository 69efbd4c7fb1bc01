-- What a command that only reads has to say, step by step, and why it may have nothing.
use Rattle.std.specs.Prelude.{◌≡◌, Result, Ok, Err, MatchResult}
use Rattle.boot_base.specs.declared.refusal.Refusal.{Refusal}
use Rattle.boot_machine.specs.Counts.{Counts, DiskFailed}
use Rattle.boot_machine.specs.declared.fault.ReadFault.{ReadFault}
use Rattle.boot_machine.specs.declared.fault.ReadFault.TheVariants as reads
use Rattle.command_plans.specs.declared.word_error.WordError.{WordError}
use Rattle.command_plans.specs.declared.word_error.WordError.TheVariants as word_errors
use Rattle.command_plans.specs.declared.read_error.ReadError.{ReadError}
use Rattle.command_plans.specs.declared.read_error.ReadError.TheVariants as read_errors

-- why there is nothing to say, of words that are declined
abbrev pub read_error_of_words : WordError → ReadError
read_error_of_words word_errors.Memory = read_errors.Memory
read_error_of_words (word_errors.Refused why) = read_errors.Refused why

-- why there is nothing to say, of what isn't read
abbrev pub read_error_of : ReadFault → ReadError
read_error_of reads.Memory = read_errors.Memory
read_error_of reads.Disk = read_errors.Disk

-- what is meant is this refusal, unless memory ran out or the disk failed
abbrev pub ReadErrorFor : {X : Type 0} → ReadError → Result X Refusal → Type 0
ReadErrorFor read_errors.Memory meant = Unit {0}
ReadErrorFor read_errors.Disk meant = Unit {0}
ReadErrorFor (read_errors.Refused why) meant = meant ≡ Err why

-- what was made, seen by view, is what is meant, or the refusal is
abbrev pub Says : {X Y : Type 0} → (X → Y) → Result X ReadError → Result Y Refusal → Type 0
Says view result meant = MatchResult result (λ x. meant ≡ Ok (view x)) (λ fault. ReadErrorFor fault meant)

-- a fault of the disk has its cause, and every other answer leaves the counts
abbrev pub read_error_counts : ReadError → Counts → Counts → Type 0
read_error_counts read_errors.Memory old new = new ≡ old
read_error_counts (read_errors.Refused why) old new = new ≡ old
read_error_counts read_errors.Disk old new = DiskFailed old new

-- the counts after what was said or not: a fault of the disk has its cause, and every other answer leaves them
abbrev pub CountsReadError : {X : Type 0} → Result X ReadError → Counts → Counts → Type 0
CountsReadError result old new = MatchResult result (λ _. new ≡ old) (λ fault. read_error_counts fault old new)
