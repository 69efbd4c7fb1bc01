-- `bless`: a counted entry is marked by its name, as systemd-bless-boot.service(8) has it.
use Rattle.std.specs.Prelude.{ℕ, List, ◌++◌, codes, is_some, Option, Some, None, Result, Ok, Err, if◌then◌else◌}
use Rattle.boot_base.specs.Paths.{Path, beside, file_name_of}
use Rattle.boot_base.specs.declared.refusal.Refusal.{Refusal}
use Rattle.boot_base.specs.declared.refusal.Refusal.TheVariants as refusals
use Rattle.menu_order.specs.Bless.{Name, GoodName, CountedName, BadName, choice_of, target_of}
use Rattle.menu_order.specs.Renames.{bad_name_of, good_name_of}
use Rattle.menu_order.specs.Splits.{split_of}
use Rattle.menu_order.specs.declared.bless.BlessVerb.{BlessVerb}
use Rattle.menu_order.specs.declared.bless.BlessVerb.TheVariants as verbs
use Rattle.menu_order.specs.declared.bless.BlessChoice.{BlessChoice}
use Rattle.menu_order.specs.declared.bless.BlessChoice.TheVariants as choices
use Rattle.menu_order.specs.declared.bless.Present.{Present}
use Rattle.boot_machine.specs.Disk.{Files, has}
use Rattle.boot_machine.specs.Rows.{move_in}
use Rattle.command_plans.specs.Answers.{Answer, answer_of_read, answer_or_refusal, done_answer}
use Rattle.command_plans.specs.WordErrors.{◌>>=◌, path_in, path_under, printed_path}
use Rattle.entry_commands.specs.declared.bless.EntryPaths.{EntryPaths}
use Rattle.tool_words.specs.declared.command.BlessWord.{BlessWord}
use Rattle.tool_words.specs.declared.command.BlessWord.TheVariants as words

-- a name of the entry whose file is reported at a path, which has to have a counter
abbrev pub name_or : Path → Option (List ℕ) → Result (List ℕ) Refusal
name_or path None = Err (refusals.NoCounter (printed_path path))
name_or path (Some name) = Ok name

-- its good name, which is to have no counter
abbrev pub good_name_in : Path → Result (List ℕ) Refusal
good_name_in path =
    name_or path (good_name_of (file_name_of path)) >>= λ good.
    if is_some (split_of good) then Err (refusals.BadName (file_name_of path)) else Ok good

-- its bad name: the counter has no boot left
abbrev pub bad_name_in : Path → Result (List ℕ) Refusal
bad_name_in path = name_or path (bad_name_of (file_name_of path))

-- where the names of the entry stand: all in one folder
abbrev pub entry_paths : Path → Result EntryPaths Refusal
entry_paths path =
    good_name_in path >>= λ good.
    bad_name_in path >>= λ bad.
    Ok (record { good = beside path good; counted = path; bad = beside path bad })

-- where the names of the entry stand, by the words of a command: the path below the ESP that is reported, and the ESP
abbrev pub reported_paths : List ℕ → List ℕ → Result EntryPaths Refusal
reported_paths word esp = path_in esp >>= λ esp. path_under esp word >>= entry_paths

-- where a name of an entry stands
abbrev pub path_at : EntryPaths → Name → Path
path_at paths GoodName = paths.good
path_at paths CountedName = paths.counted
path_at paths BadName = paths.bad

-- which of the names are there
abbrev pub present_at : Files → EntryPaths → Present
present_at view paths = record {
  good = has view paths.good;
  counted = has view paths.counted;
  bad = has view paths.bad;
}

-- how a verb is told
abbrev pub verb_text : BlessVerb → List ℕ
verb_text verbs.Good = codes "good"
verb_text verbs.Bad = codes "bad"
verb_text verbs.Indeterminate = codes "indeterminate"

-- what is told of the path that the verb wants
abbrev pub blessed_text : BlessVerb → Path → List ℕ
blessed_text verb target = verb_text verb ++ (codes " " ++ printed_path target)

-- the file at a path gets the name that the verb wants
abbrev pub blessed_from : Files → BlessVerb → Path → Path → Answer
blessed_from view verb target from = done_answer (move_in from target view) (blessed_text verb target ++ codes "\n")

-- what becomes of an entry by the choice of what is renamed
abbrev pub blessed_by : Files → BlessVerb → EntryPaths → Path → BlessChoice → Result Answer Refusal
blessed_by view verb paths target choices.Nothing =
    Ok (done_answer view (blessed_text verb target ++ codes ", nothing to do\n"))
blessed_by view verb paths target choices.FromGood = Ok (blessed_from view verb target paths.good)
blessed_by view verb paths target choices.FromCounted = Ok (blessed_from view verb target paths.counted)
blessed_by view verb paths target choices.FromBad = Ok (blessed_from view verb target paths.bad)
blessed_by view verb paths target choices.NoSource = Err (refusals.NoSource (printed_path paths.counted))

-- what becomes of the entry with these names: the verb says which of its files gets another name, if any
abbrev pub bless_entry : Files → BlessVerb → EntryPaths → Result Answer Refusal
bless_entry view verb paths =
    blessed_by view verb paths (path_at paths (target_of verb)) (choice_of verb (present_at view paths))

-- what becomes of the entry that the words of a command name, or the first refusal
abbrev pub bless_result : Files → BlessVerb → List ℕ → List ℕ → Result Answer Refusal
bless_result view verb word esp = reported_paths word esp >>= bless_entry view verb

-- how an entry is marked: the first of its names that is there
abbrev pub status_by : EntryPaths → Present → Result (List ℕ) Refusal
status_by paths present =
    if present.counted then Ok (codes "indeterminate\n")
    else (if present.good then Ok (codes "good\n")
    else (if present.bad then Ok (codes "bad\n")
    else Err (refusals.NoSource (printed_path paths.counted))))

-- how the entry is marked that the words of a command name, or the first refusal
abbrev pub status_result : Files → List ℕ → List ℕ → Result (List ℕ) Refusal
status_result view word esp = reported_paths word esp >>= λ paths. status_by paths (present_at view paths)

-- what `bless` answers for each of its verbs
abbrev pub bless_answer : Files → BlessWord → List ℕ → List ℕ → Answer
bless_answer view (words.Mark verb) word esp = answer_or_refusal view (bless_result view verb word esp)
bless_answer view words.Status word esp = answer_of_read view (status_result view word esp)
