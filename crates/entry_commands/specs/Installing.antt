-- `install`: a unified kernel image comes to stand among the boot entries (profile).
use Rattle.std.specs.Prelude.{ℕ, ◌≡◌, true, false, List, ◌++◌, Option, Some, None, Result, Ok, Err, MatchResult}
use Rattle.std.specs.FinMap.{insert}
use Rattle.std.specs.List.{list_any}
use Rattle.boot_base.specs.Layout.{images_below}
use Rattle.boot_base.specs.Paths.{Path, is_kept, is_slash, under}
use Rattle.boot_base.specs.declared.refusal.Refusal.{Refusal}
use Rattle.boot_base.specs.declared.refusal.Refusal.TheVariants as refusals
use Rattle.menu_order.specs.Counter.{suffix_text, written_name}
use Rattle.menu_order.specs.Splits.{has_suffix}
use Rattle.menu_order.specs.declared.counted.Suffix.TheVariants.{Efi}
use Rattle.entry_commands.specs.Counts.{count_in}
use Rattle.boot_entries.specs.Missing.{missing_text}
use Rattle.boot_entries.specs.Records.{Unfit, NotPe, NotUki, uki_of}
use Rattle.boot_machine.specs.Disk.{Files}
use Rattle.command_plans.specs.Answers.{Answer, answer_or_refusal, done_answer}
use Rattle.command_plans.specs.Files.{bytes_at, if_given}
use Rattle.command_plans.specs.Changes.{installed_text}
use Rattle.command_plans.specs.WordErrors.{◌>>=◌, install_name, path_in, path_under}
use Rattle.command_plans.specs.ReadErrors.{ReadErrorFor}
use Rattle.command_plans.specs.declared.read_error.ReadError.{ReadError}
use Rattle.entry_commands.specs.declared.install.Installation.{Installation}
use Rattle.menu_order.specs.declared.item.MenuItem.{MenuItem}
use Rattle.pe_reader.specs.Reasons.{pe_reason_text}

-- the name of the image's file, with its tries as a boot counter where some are given
abbrev pub image_name : List ℕ → Option ℕ → List ℕ
image_name name None = name ++ suffix_text Efi
image_name name (Some tries) = written_name name tries 0 Efi

-- a name of an image's file
pub record IsImageName (file : List ℕ) : Type 0 where
  pub suffix : has_suffix Efi file ≡ true
  pub kept : is_kept file ≡ true
  pub no_slash : list_any is_slash file ≡ false

-- the name of the image's file by the words of a command, or the first refusal
abbrev pub image_name_in : List ℕ → Option (List ℕ) → Result (List ℕ) Refusal
image_name_in name tries = install_name Efi name >>= λ name. if_given count_in tries >>= λ tries. Ok (image_name name tries)

-- where an image of that file name stands in an ESP
abbrev pub image_path : List ℕ → List ℕ → Result Path Refusal
image_path word name = path_in word >>= λ esp. path_under esp (under images_below name)

-- the file, and where its bytes come to stand
abbrev pub installation_of : List ℕ → List ℕ → Option (List ℕ) → List ℕ → Result Installation Refusal
installation_of file name tries esp =
    image_name_in name tries >>= λ image.
    path_in file >>= λ from.
    image_path esp image >>= λ target.
    Ok (record { from = from; target = target })

-- the entry that the menu would show, or why there is none
abbrev pub entry_or : Result MenuItem Unfit → Result MenuItem Refusal
entry_or (Ok item) = Ok item
entry_or (Err (NotPe check)) = Err (refusals.NotPe (pe_reason_text check.reason) check.offset)
entry_or (Err (NotUki missing)) = Err (refusals.NotUki (missing_text missing))

-- the file is shown, or this is why it isn't
abbrev pub ShowsEntry : Result (Unit {0}) ReadError → Result MenuItem Refusal → Type 0
ShowsEntry result entry =
    MatchResult result (λ _. (item : MenuItem) × (entry ≡ Ok item)) (λ read_error. ReadErrorFor read_error entry)

-- the bytes to be installed, of a file that is an entry of the menu where it comes to stand
abbrev pub installed_image : Files → Installation → Result (List ℕ) Refusal
installed_image view words =
    bytes_at view words.from >>= λ bytes. entry_or (uki_of words.target bytes) >>= λ item. Ok bytes

-- the bytes stand at their path
abbrev pub installed_entry : Files → Installation → List ℕ → Answer
installed_entry view words bytes = done_answer (insert view words.target bytes) (installed_text words.target)

-- what becomes of the words of a command, or the first refusal
abbrev pub install_result : Files → List ℕ → List ℕ → Option (List ℕ) → List ℕ → Result Answer Refusal
install_result view file name tries esp =
    installation_of file name tries esp >>= λ words.
    installed_image view words >>= λ bytes.
    Ok (installed_entry view words bytes)

-- what `install` answers
abbrev pub install_answer : Files → List ℕ → List ℕ → Option (List ℕ) → List ℕ → Answer
install_answer view file name tries esp = answer_or_refusal view (install_result view file name tries esp)
