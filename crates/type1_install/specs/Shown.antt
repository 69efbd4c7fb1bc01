-- What the code holds of an installation and of payloads, as the definitions see it.
use Rattle.std.specs.Prelude.{◌≡◌, ℕ, true, List, map, Result, Ok}
use Rattle.boot_base.specs.Paths.{Path, under}
use Rattle.boot_base.specs.declared.refusal.Refusal.{Refusal}
use Rattle.boot_machine.specs.Disk.{Files}
use Rattle.boot_machine.specs.Rows.{contents}
use Rattle.boot_texts.specs.EntryText.{IsFieldIf, is_payload_name, payload_value}
use Rattle.boot_texts.specs.declared.entry.Type1.{Type1}
use Rattle.tool_words.specs.declared.action.Action.{Action}
use Rattle.tool_words.specs.declared.action.Action.TheVariants as action
use Rattle.command_plans.specs.WordErrors.{◌>>=◌}
use Rattle.command_plans.specs.Files.{bytes_at}
use Rattle.tool_words.specs.declared.command.EntryTexts.{EntryTexts}
use Rattle.type1_install.specs.Installing.{EntryPlace, SourceFiles, Type1Plan, entry_fields}
use Rattle.type1_install.specs.Payloads.{payload_name}
use Rattle.type1_install.specs.declared.payload.Payload.{Payload}
use Rattle.type1_install.specs.declared.install_words.InstallPlan.{InstallPlan}
use Rattle.type1_install.specs.declared.install_words.EntryRoom.{EntryRoom}
use Rattle.type1_install.specs.declared.install_words.PayloadFiles.{PayloadFiles}

-- the kernel and the initrds
abbrev pub files_shown : PayloadFiles → SourceFiles
files_shown files = record { linux = files.linux; initrds = files.initrds.items }

-- the ESP and the entry's path
abbrev pub place_shown : EntryRoom → EntryPlace
place_shown place = record { esp = place.esp; entry = place.entry }

-- the whole plan, with the texts of the words
abbrev pub plan_shown : EntryTexts → InstallPlan → Type1Plan
plan_shown texts plan = record {
  esp = plan.place.esp;
  texts = texts;
  linux = plan.files.linux;
  initrds = plan.files.initrds.items;
  entry = plan.place.entry;
}

-- a file with the name of its payload, by its bytes in a view
abbrev pub payload_of : Files → Path → Payload
payload_of view file = record { file = file; name = payload_name (contents view file) }

-- the payload that a file is, or the refusal of the file
abbrev pub payload_at : Files → Path → Result Payload Refusal
payload_at view file = bytes_at view file >>= λ bytes. Ok (payload_of view file)

-- its name is that of a payload
abbrev pub HasPayloadName : Payload → Type 0
HasPayloadName payload = is_payload_name payload.name ≡ true

-- the action that puts it into a folder
abbrev pub put_in : Path → Payload → Action
put_in folder payload = action.Put payload.file (under folder payload.name)

-- how an entry names it
abbrev pub value_of_payload : Payload → List ℕ
value_of_payload payload = payload_value payload.name

-- the texts may stand in an entry
pub record AreFields (texts : EntryTexts) : Type 0 where
  pub title : IsFieldIf texts.title
  pub version : IsFieldIf texts.version
  pub machine_id : IsFieldIf texts.machine_id
  pub sort_key : IsFieldIf texts.sort_key
  pub options : IsFieldIf texts.options

-- what an entry of these texts and payloads says
abbrev pub fields_with : EntryTexts → Payload → List Payload → Type1
fields_with texts linux initrds = entry_fields texts (value_of_payload linux) (map value_of_payload initrds)
