-- What a stub measures of an image, and the value of PCR 11 that it comes to (UAPI Unified Kernel Image; systemd's
-- TPM2 PCR document, PCR 11).
use Rattle.std.specs.Prelude.{◌≡◌, ℕ, List, [], ◌∷◌, ◌++◌, codes, length, sum_by, IsOk, Option, Some, None, Result, Ok, Err}
use Rattle.std.specs.List.{find, flat_map, AllByRecursion}
use Rattle.pe_reader.specs.declared.fault.FailedCheck.{FailedCheck}
use Rattle.pe_reader.specs.declared.section.Section.{Section}
use Rattle.pe_reader.specs.Grammar.{Headers, pe_of}
use Rattle.pe_reader.specs.LoadedBytes.{is_named, loaded_bytes, range_of}
use Rattle.pcr_values.specs.declared.bank.Bank.{Bank}
use Rattle.pcr_values.specs.Banks.{fold_of}

-- the names of the measured sections, in the order in which they are measured; `.pcrsig` isn't measured
abbrev pub measured_names : List (List ℕ)
measured_names =
    codes ".linux"
    ∷ codes ".osrel"
    ∷ codes ".cmdline"
    ∷ codes ".initrd"
    ∷ codes ".ucode"
    ∷ codes ".splash"
    ∷ codes ".dtb"
    ∷ codes ".uname"
    ∷ codes ".sbat"
    ∷ codes ".pcrpkey"
    ∷ []

-- what is measured of a section: its name with one NUL, then its bytes; nothing of an empty one
unfoldable pub section_items : List ℕ → List ℕ → List (List ℕ)
section_items name [] = []
section_items name (byte ∷ bytes) = (name ++ 0 ∷ []) ∷ (byte ∷ bytes) ∷ []

-- what is measured of sections that have these bytes by their names, none where there is no such section
unfoldable pub measured_by : (List ℕ → List ℕ) → List (List ℕ)
measured_by parts = flat_map (λ name. section_items name (parts name)) measured_names

-- what a stub measures of an image: of each measured name the loaded bytes of its first section
abbrev pub measured_list : List ℕ → List (List ℕ)
measured_list image = measured_by (loaded_bytes image)

-- how many bytes the measured sections of an image have loaded
unfoldable pub measured_length : List ℕ → ℕ
measured_length image = sum_by (λ name. length (loaded_bytes image name)) measured_names

-- how many bytes of the file a section has loaded: those of its raw data, without the zeros behind them
abbrev pub raw_length : Section → ℕ
raw_length s = (range_of s).length

-- how many bytes of the file a section has loaded, and none if there is no section
abbrev pub found_raw_length : Option Section → ℕ
found_raw_length None = 0
found_raw_length (Some s) = raw_length s

-- how many bytes of the file the first section of a name has loaded, and none if no such section is read
abbrev pub named_raw_length : List ℕ → Result Headers FailedCheck → ℕ
named_raw_length name (Ok headers) = found_raw_length (find (is_named name) headers.sections)
named_raw_length name (Err check) = 0

-- how many bytes of the file the measured sections of an image have loaded, of each name its first section
unfoldable pub measured_raw_length : List ℕ → ℕ
measured_raw_length image = sum_by (λ name. named_raw_length name (pe_of image)) measured_names

-- PCR 11 after a stub has measured an image, and then the words of a phase path
abbrev pub stub_pcr : List ℕ → Bank → List (List ℕ) → List ℕ
stub_pcr image bank path = fold_of bank (measured_list image ++ path)

-- PCR 11 as it is predicted from the bytes of parts by their names, after the words of a phase path
abbrev pub predicted_pcr : (List ℕ → List ℕ) → Bank → List (List ℕ) → List ℕ
predicted_pcr parts bank path = fold_of bank (measured_by parts ++ path)

-- The image reads as PE, and has loaded of each measured name the bytes of the part.
pub record Shows (image : List ℕ) (parts : List ℕ → List ℕ) : Type 0 where
  pub reads : IsOk (pe_of image)
  pub same : AllByRecursion (λ name. loaded_bytes image name ≡ parts name) measured_names
