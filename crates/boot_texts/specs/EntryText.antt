-- The text of an entry of type 1 whose kernel and initrds are payloads: files that stand by their digests in one folder
-- of the partition (UAPI Boot Loader Specification, "Type #1 Boot Loader Specification Entries"; the folder and the
-- limits are profile).
use Rattle.std.specs.Prelude.{◌≡◌, ◌≤◌, ℕ, ◌==◌, Bool, true, false, not, ◌&&◌, ◌||◌, All, List, [], ◌∷◌, ◌++◌, codes, length, map, nat_le, Option, Some, None}
use Rattle.std.specs.List.{list_all}
use Rattle.boot_base.specs.Layout.{payloads_below}
use Rattle.boot_base.specs.Limits.{text_limit}
use Rattle.boot_base.specs.Paths.{under}
use Rattle.boot_texts.specs.BootEntries.{boots, type1_of}
use Rattle.boot_texts.specs.FileLines.{key_line, text_of_lines}
use Rattle.boot_texts.specs.declared.entry.Type1.{Type1}

-- ---- the text

-- the line of a key and its value, if there is a value
abbrev pub line_if : List ℕ → Option (List ℕ) → List (List ℕ)
line_if key None = []
line_if key (Some value) = key_line key value ∷ []

-- the lines of an entry
abbrev pub entry_lines : Type1 → List (List ℕ)
entry_lines f =
    line_if (codes "title") f.title
    ++ (line_if (codes "version") f.version
    ++ (line_if (codes "machine-id") f.machine_id
    ++ (line_if (codes "sort-key") f.sort_key
    ++ (line_if (codes "linux") f.linux
    ++ (map (key_line (codes "initrd")) f.initrds ++ map (key_line (codes "options")) f.options)))))

-- the text of an entry
abbrev pub entry_text : Type1 → List ℕ
entry_text f = text_of_lines (entry_lines f)

-- ---- what may stand in it

-- a byte that may stand in a value: no control byte
abbrev pub is_field_byte : ℕ → Bool
is_field_byte byte = nat_le 32 byte && not (byte == 127)

-- any byte but a space
abbrev pub is_no_space : ℕ → Bool
is_no_space byte = not (byte == 32)

-- a first element is there, and passes
abbrev pub head_passes : (ℕ → Bool) → List ℕ → Bool
head_passes test [] = false
head_passes test (first ∷ later) = test first

-- a last element is there, and passes
abbrev pub last_passes : (ℕ → Bool) → List ℕ → Bool
last_passes test [] = false
last_passes test (last ∷ []) = test last
last_passes test (first ∷ next ∷ later) = last_passes test (next ∷ later)

-- 1 to 1,024 bytes without control bytes, and no space at either end
abbrev pub is_field : List ℕ → Bool
is_field text =
    nat_le (length text) 1024 && list_all is_field_byte text && head_passes is_no_space text
    && last_passes is_no_space text

-- a value that may be written, if there is one
abbrev pub IsFieldIf : Option (List ℕ) → Type 0
IsFieldIf None = Unit {0}
IsFieldIf (Some text) = is_field text ≡ true

-- a digit of a digest: `0` to `9` or `a` to `f`
abbrev pub is_hex_lower : ℕ → Bool
is_hex_lower byte = nat_le 48 byte && nat_le byte 57 || nat_le 97 byte && nat_le byte 102

-- the name of a payload's file: 64 digits
abbrev pub is_payload_name : List ℕ → Bool
is_payload_name name = length name == 64 && list_all is_hex_lower name

-- how an entry names a payload
abbrev pub payload_value : List ℕ → List ℕ
payload_value name = 47 ∷ under payloads_below name

-- a value that names a payload
abbrev pub IsPayloadValue : List ℕ → Type 0
IsPayloadValue value = (name : List ℕ) × (value ≡ payload_value name) × (is_payload_name name ≡ true)

-- the fields of an entry that names payloads alone
pub record AreEntryFields (f : Type1) : Type 0 where
  pub title : IsFieldIf f.title
  pub version : IsFieldIf f.version
  pub machine_id : IsFieldIf f.machine_id
  pub sort_key : IsFieldIf f.sort_key
  pub linux : (value : List ℕ) × (f.linux ≡ Some value) × IsPayloadValue value
  pub initrds : All IsPayloadValue f.initrds
  pub few : length f.initrds ≤ 64
  pub options : All (λ text. is_field text ≡ true) f.options
  pub one : length f.options ≤ 1
  pub no_efi : f.efi ≡ None
  pub no_devicetree : f.devicetree ≡ None
  pub no_overlay : f.overlay ≡ None
  pub no_architecture : f.architecture ≡ None

-- ---- the law

-- what is written is read again, and is an entry: it says what to boot, and isn't too long
pub record ReadsBack (f : Type1) : Type 0 where
  pub same : type1_of (entry_text f) ≡ f
  pub boots : boots (entry_text f) ≡ true
  pub short : length (entry_text f) ≤ text_limit
