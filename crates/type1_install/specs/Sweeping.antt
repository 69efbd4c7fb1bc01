-- Temporary files beside payloads, which a stopped installation leaves and a cleanup takes away (profile).
use Rattle.std.specs.Prelude.{◌≡◌, ℕ, ◌-◌, ◌&&◌, Bool, true, false, List, length, take, filter, map, Contains, Result, Ok, Err}
use Rattle.boot_base.specs.Paths.{Path, is_file_name, is_temp, under}
use Rattle.boot_base.specs.declared.refusal.Refusal.{Refusal}
use Rattle.boot_machine.specs.Disk.{Files, has}
use Rattle.boot_texts.specs.EntryText.{is_payload_name}
use Rattle.command_plans.specs.WordErrors.{◌>>=◌, path_in, path_under}
use Rattle.type1_install.specs.Installing.{payload_probe}
use Rattle.type1_install.specs.Payloads.{payload_folder}

-- a name of 64 digits with `.tmp` behind it
abbrev pub is_payload_temp : List ℕ → Bool
is_payload_temp name = is_payload_name (take (length name - 4) name) && is_temp name

-- the paths of the temporary files beside payloads, by the names in their folder
abbrev pub temps_beside : Path → List (List ℕ) → List Path
temps_beside folder listed = map (under folder) (filter is_payload_temp listed)

-- the ESP that a word names, if its payloads have paths
abbrev pub payload_esp : List ℕ → Result Path Refusal
payload_esp word =
    path_in word >>= λ esp.
    path_under esp payload_probe >>= λ _.
    Ok esp

-- the path of a temporary file beside a payload in the folder of payloads
abbrev pub IsBesidePayload : Path → Path → Type 0
IsBesidePayload folder q = (name : List ℕ) × (is_payload_temp name ≡ true) × (q ≡ under folder name)

-- the path of a temporary file beside a payload of the ESP that a word names: there is none if the ESP is refused
abbrev pub StandsBeside : Result Path Refusal → Path → Type 0
StandsBeside (Ok esp) q = IsBesidePayload (payload_folder esp) q
StandsBeside (Err why) q = ⊥

-- each temporary file beside a payload that is directly in the folder is among these
abbrev pub HasPayloadTemps : Files → Path → List Path → Type 0
HasPayloadTemps files folder temps =
    (name : List ℕ) → is_file_name name ≡ true → is_payload_temp name ≡ true → has files (under folder name) ≡ true
    → Contains temps (under folder name)

-- each temporary file beside a payload of the ESP that a word names is among these, if the ESP isn't refused
abbrev pub FindsBeside : Result Path Refusal → Files → List Path → Type 0
FindsBeside (Ok esp) files temps = HasPayloadTemps files (payload_folder esp) temps
FindsBeside (Err why) files temps = Unit {0}

-- no temporary file beside a payload of the ESP that a word names is there
abbrev pub SweptAt : Result Path Refusal → Files → Type 0
SweptAt (Ok esp) files =
    (name : List ℕ) → is_file_name name ≡ true → is_payload_temp name ≡ true
    → has files (under (payload_folder esp) name) ≡ false
SweptAt (Err why) files = Unit {0}
