-- `loader set-default` and `loader set-timeout`: loader.conf gets another value of one key (loader.conf(5)).
use Rattle.std.specs.Prelude.{ℕ, List, ◌++◌, codes, Result, Ok, Err, if◌then◌else◌}
use Rattle.std.specs.FinMap.{insert}
use Rattle.boot_base.specs.Paths.{Path}
use Rattle.boot_base.specs.declared.refusal.Refusal.{Refusal}
use Rattle.boot_base.specs.declared.refusal.Refusal.TheVariants as refusals
use Rattle.boot_machine.specs.Disk.{Files}
use Rattle.command_plans.specs.Answers.{Answer, answer_or_refusal, done_answer}
use Rattle.command_plans.specs.WordErrors.{◌>>=◌}
use Rattle.loader_commands.specs.Places.{conf_bytes, conf_path, within_limit}
use Rattle.boot_texts.specs.Conf.{conf_key_name, may_be_value}
use Rattle.boot_texts.specs.FileLines.{text_with_value}
use Rattle.boot_texts.specs.declared.conf_change.ConfKey.{ConfKey}
use Rattle.boot_texts.specs.declared.conf_change.ConfKey.TheVariants.{Default, Timeout}

-- what a word is refused for that may not be written for the key
abbrev pub bad_value : ConfKey → List ℕ → Refusal
bad_value Default word = refusals.BadPattern word
bad_value Timeout word = refusals.BadNumber word

-- the value that a word gives for a key, or the refusal
abbrev pub value_in : ConfKey → List ℕ → Result (List ℕ) Refusal
value_in key word = if may_be_value key word then Ok word else Err (bad_value key word)

-- where the loader.conf of an ESP stands whose key is to have a value, or the first refusal of the two words
abbrev pub conf_words : ConfKey → List ℕ → List ℕ → Result Path Refusal
conf_words key value word = value_in key value >>= λ value. conf_path word

-- the text of the loader.conf at a path with the key's value, unless the old or the new text is too long
abbrev pub changed_text : Files → ConfKey → List ℕ → Path → Result (List ℕ) Refusal
changed_text view key value path =
    conf_bytes view path >>= λ bytes. within_limit path (text_with_value (conf_key_name key) value bytes)

-- where the loader.conf of an ESP stands, and its text with the key's value
abbrev pub conf_update : Files → ConfKey → List ℕ → List ℕ → Result (Path × List ℕ) Refusal
conf_update view key value word =
    value_in key value >>= λ value.
    conf_path word >>= λ path.
    changed_text view key value path >>= λ text.
    Ok (path, text)

-- what is told of the change
abbrev pub set_text : ConfKey → List ℕ → List ℕ
set_text key value = conf_key_name key ++ (codes " " ++ (value ++ codes "\n"))

-- the loader.conf at a path has the new text
abbrev pub changed_conf : Files → ConfKey → List ℕ → Path × List ℕ → Answer
changed_conf view key value change = done_answer (insert view change.0 change.1) (set_text key value)

-- what becomes of the words of a command, or the first refusal
abbrev pub set_result : Files → ConfKey → List ℕ → List ℕ → Result Answer Refusal
set_result view key value word = conf_update view key value word >>= λ change. Ok (changed_conf view key value change)

-- what `loader set-default` and `loader set-timeout` answer
abbrev pub set_answer : Files → ConfKey → List ℕ → List ℕ → Answer
set_answer view key value word = answer_or_refusal view (set_result view key value word)
