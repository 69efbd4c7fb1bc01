-- The commands that `type1 install` stands for on a view, or what it is refused for (profile).
use Rattle.std.specs.Prelude.{ℕ, List, [], ◌∷◌, ◌++◌, bytes_eq, length, map, nat_lt, replicate, sum_by, Some, None, Result, Ok, Err, if◌then◌else◌}
use Rattle.std.specs.Option.{option_to_list}
use Rattle.boot_base.specs.Layout.{entries_below, payloads_below}
use Rattle.boot_base.specs.Paths.{Path, file_name_of, under}
use Rattle.boot_base.specs.declared.refusal.Refusal.{Refusal}
use Rattle.boot_base.specs.declared.refusal.Refusal.TheVariants as refusals
use Rattle.boot_machine.specs.Disk.{Files}
use Rattle.boot_machine.specs.Rows.{contents}
use Rattle.boot_texts.specs.EntryText.{entry_text, is_field, payload_value}
use Rattle.boot_texts.specs.declared.entry.Type1.{Type1}
use Rattle.menu_order.specs.Counter.{suffix_text}
use Rattle.menu_order.specs.declared.counted.Suffix.TheVariants.{Conf}
use Rattle.tool_words.specs.declared.action.Action.{Action}
use Rattle.tool_words.specs.declared.action.Action.TheVariants as action
use Rattle.tool_words.specs.declared.command.EntryTexts.{EntryTexts}
use Rattle.tool_words.specs.declared.command.Type1Words.{Type1Words}
use Rattle.command_plans.specs.WordErrors.{◌>>=◌, install_name, path_in, path_under, printed_path}
use Rattle.command_plans.specs.Files.{bytes_at, each, if_given}
use Rattle.type1_install.specs.Payloads.{payload_folder, payload_name, payload_path}

-- ---- what the words are refused for

-- the text, or the refusal of one that may not stand in an entry
abbrev pub field_text : List ℕ → Result (List ℕ) Refusal
field_text text = if is_field text then Ok text else Err (refusals.BadField text)

-- the texts of an entry, or the refusal of the first that may not stand in it
abbrev pub texts_in : EntryTexts → Result EntryTexts Refusal
texts_in texts =
    if_given field_text texts.title >>= λ title.
    if_given field_text texts.version >>= λ version.
    if_given field_text texts.machine_id >>= λ machine_id.
    if_given field_text texts.sort_key >>= λ sort_key.
    if_given field_text texts.options >>= λ options.
    Ok (record { title = title; version = version; machine_id = machine_id; sort_key = sort_key; options = options })

-- the words of the initrds, or the refusal of more than 64
abbrev pub initrds_in : List (List ℕ) → Result (List (List ℕ)) Refusal
initrds_in words = if nat_lt 64 (length words) then Err (refusals.TooManyFiles (length words)) else Ok words

-- the name of the entry's file, if the texts may stand in the entry and there aren't too many initrds
abbrev pub entry_file : Type1Words → Result (List ℕ) Refusal
entry_file words =
    install_name Conf words.name >>= λ name.
    texts_in words.texts >>= λ texts.
    initrds_in words.initrds >>= λ initrds.
    Ok (name ++ suffix_text Conf)

-- the kernel and the initrds
pub record SourceFiles : Type 0 where
  pub linux : Path
  pub initrds : List Path

-- the files that the words name
abbrev pub files_in : Type1Words → Result SourceFiles Refusal
files_in words =
    path_in words.linux >>= λ linux.
    each path_in words.initrds >>= λ initrds.
    Ok (record { linux = linux; initrds = initrds })

-- the longest path of a payload, below its ESP
abbrev pub payload_probe : List ℕ
payload_probe = under payloads_below (replicate 64 48)

-- the ESP, and where the entry comes to stand in it
pub record EntryPlace : Type 0 where
  pub esp : Path
  pub entry : Path

-- the place of an entry of that name, in an ESP in which each payload has a path
abbrev pub place_in : List ℕ → List ℕ → Result EntryPlace Refusal
place_in word name =
    path_in word >>= λ esp.
    path_under esp payload_probe >>= λ probe.
    path_under esp (under entries_below name) >>= λ entry.
    Ok (record { esp = esp; entry = entry })

-- the file, or the refusal of one that lies directly in the ESP's folder of payloads
abbrev pub install_source : Path → Path → Result Path Refusal
install_source esp path =
    if bytes_eq (under (payload_folder esp) (file_name_of path)) path then Err (refusals.PayloadSource (printed_path path))
    else Ok path

-- what the words of an installation say
pub record Type1Plan : Type 0 where
  pub esp : Path
  pub texts : EntryTexts
  pub linux : Path
  pub initrds : List Path
  pub entry : Path

-- what the words say, or what they are refused for
abbrev pub install_plan : Type1Words → Result Type1Plan Refusal
install_plan words =
    entry_file words >>= λ name.
    files_in words >>= λ files.
    place_in words.esp name >>= λ place.
    each (install_source place.esp) (files.linux ∷ files.initrds) >>= λ sources.
    Ok (record {
      esp = place.esp;
      texts = words.texts;
      linux = files.linux;
      initrds = files.initrds;
      entry = place.entry;
    })

-- ---- what it stands for

-- the payload of a file is put
abbrev pub put_of : Files → Path → Path → Action
put_of view esp file = action.Put file (payload_path esp (contents view file))

-- how the entry names the payload of a file
abbrev pub value_of_file : Files → Path → List ℕ
value_of_file view file = payload_value (payload_name (contents view file))

-- what an entry says of these texts, whose kernel and initrds have these values
abbrev pub entry_fields : EntryTexts → List ℕ → List (List ℕ) → Type1
entry_fields texts linux initrds = record {
  title = texts.title;
  version = texts.version;
  machine_id = texts.machine_id;
  sort_key = texts.sort_key;
  linux = Some linux;
  efi = None;
  initrds = initrds;
  options = option_to_list texts.options;
  devicetree = None;
  overlay = None;
  architecture = None;
}

-- what the entry says
abbrev pub fields_of : Files → Type1Plan → Type1
fields_of view plan =
    entry_fields plan.texts (value_of_file view plan.linux) (map (value_of_file view) plan.initrds)

-- the entry is entered
abbrev pub enter_of : Files → Type1Plan → Action
enter_of view plan = action.Enter plan.entry (entry_text (fields_of view plan))

-- the files are put and then the entry is entered, by what the view shows of the files
abbrev pub install_commands : Files → Type1Plan → List Action
install_commands view plan =
    put_of view plan.esp plan.linux ∷ (map (put_of view plan.esp) plan.initrds ++ enter_of view plan ∷ [])

-- the commands, if each of the files is there and isn't too large
abbrev pub planned_install : Files → Type1Plan → Result (List Action) Refusal
planned_install view plan =
    each (bytes_at view) (plan.linux ∷ plan.initrds) >>= λ bytes. Ok (install_commands view plan)

-- the commands of an installation, or what it is refused for
unfoldable pub install_expansion : Files → Type1Words → Result (List Action) Refusal
install_expansion view words = install_plan words >>= planned_install view

-- ---- what is read to find it

-- how many bytes of a file are read for its digest: each once, and none of a file that is refused
abbrev pub digesting_length : Result (List ℕ) Refusal → ℕ
digesting_length (Ok bytes) = length bytes
digesting_length (Err why) = 0

-- how many bytes of files are read to find the commands of an installation, at most: those of its kernel and its initrds
abbrev pub installing_length : Files → Result Type1Plan Refusal → ℕ
installing_length view (Ok plan) =
    sum_by (λ file. digesting_length (bytes_at view file)) (plan.linux ∷ plan.initrds)
installing_length view (Err why) = 0
