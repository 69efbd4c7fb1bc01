-- How many bytes of files the commands are given at most.
use Rattle.std.specs.Prelude.{ℕ, List, [], Result, Ok, Err, length, sum_by}
use Rattle.boot_base.specs.declared.refusal.Refusal.{Refusal}
use Rattle.boot_machine.specs.Disk.{Files}
use Rattle.pe_reader.specs.declared.fault.FailedCheck.{FailedCheck}
use Rattle.pe_reader.specs.Grammar.{Headers}
use Rattle.stub_replay.specs.Measured.{raw_length}
use Rattle.tool_words.specs.declared.command.CalculateWords.{CalculateWords}
use Rattle.command_plans.specs.WordErrors.{◌>>=◌, path_in}
use Rattle.command_plans.specs.Files.{bytes_at}
use Rattle.image_commands.specs.Calculating.{given_words}

-- the bytes that were found, none where the file is refused
abbrev pub found_bytes : Result (List ℕ) Refusal → List ℕ
found_bytes (Ok bytes) = bytes
found_bytes (Err why) = []

-- the bytes of the file that a word names, none where it is refused
abbrev pub named_content : Files → List ℕ → List ℕ
named_content view word = found_bytes (path_in word >>= bytes_at view)

-- how many bytes of the file all sections have loaded together, none where it is no PE32+ file
abbrev pub all_raw_length : Result Headers FailedCheck → ℕ
all_raw_length (Ok headers) = sum_by raw_length headers.sections
all_raw_length (Err check) = 0

-- how many bytes the files have together that the words of a calculation name
abbrev pub named_length : Files → CalculateWords → ℕ
named_length view words = sum_by (λ part. length (named_content view part.1)) (given_words words)
