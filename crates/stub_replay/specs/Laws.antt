-- What is predicted from parts, and what a stub measures of the image that is built of them.
use Rattle.std.specs.Prelude.{◌≡◌, ℕ, List, [], ◌∷◌, Option, Some, None, if◌then◌else◌}
use Rattle.std.specs.Str.{bytes_eq}
use Rattle.pe_reader.specs.Grammar.{Headers}
use Rattle.pe_reader.specs.LoadedBytes.{loaded_bytes}
use Rattle.pcr_values.specs.declared.bank.Bank.{Bank}
use Rattle.uki_parts.specs.Names.{name_bytes}
use Rattle.pe_builder.specs.declared.size.PartSize.{PartSize}
use Rattle.pe_builder.specs.Replaced.{sbat_name}
use Rattle.pe_builder.specs.Image.{finished_image}
use Rattle.pe_builder.specs.Laws.{HasFinished}
use Rattle.stub_replay.specs.Measured.{Shows, predicted_pcr, stub_pcr}

-- the content of the first part of a name, if a part has the name
unfoldable pub find_content : List ℕ → List PartSize → List (List ℕ) → Option (List ℕ)
find_content name [] contents = None
find_content name (p ∷ parts) [] = None
find_content name (p ∷ parts) (content ∷ contents) =
    if bytes_eq (name_bytes p.name) name then Some content else find_content name parts contents

-- of a name that no part has: a new `.sbat` where it is given, and else what the stub has loaded
abbrev pub kept_of : Option (List ℕ) → List ℕ → List ℕ → List ℕ
kept_of None stub name = loaded_bytes stub name
kept_of (Some sbat) stub name = if bytes_eq sbat_name name then sbat else loaded_bytes stub name

-- what a part has, or else what is kept
abbrev pub or_kept : Option (List ℕ) → List ℕ → List ℕ
or_kept (Some content) kept = content
or_kept None kept = kept

-- The bytes of each name in an image that is built of these: the part of that name, the new `.sbat`, or else what the
-- stub has.
abbrev pub given_parts : List PartSize → List (List ℕ) → Option (List ℕ) → List ℕ → List ℕ → List ℕ
given_parts sizes contents sbat stub name = or_kept (find_content name sizes contents) (kept_of sbat stub name)

-- Where an image shows parts, what is predicted from them is the stub's value.
abbrev pub PredictionIsReplay : Type 0
PredictionIsReplay = (image : List ℕ) (parts : List ℕ → List ℕ) (bank : Bank) (path : List (List ℕ)) →
    Shows image parts → predicted_pcr parts bank path ≡ stub_pcr image bank path

-- The finished image shows what it was built of.
abbrev pub ImageShowsItsParts : Type 0
ImageShowsItsParts =
    (h : Headers) (sizes : List PartSize) (contents : List (List ℕ)) (sbat : Option (List ℕ)) (stub : List ℕ) →
    HasFinished h sizes contents sbat stub →
    Shows (finished_image h sizes contents sbat stub) (given_parts sizes contents sbat stub)

-- What is predicted from a stub and parts is the stub's value of the finished image.
abbrev pub PredictionOfParts : Type 0
PredictionOfParts =
    (h : Headers) (sizes : List PartSize) (contents : List (List ℕ)) (sbat : Option (List ℕ)) (stub : List ℕ)
    (bank : Bank) (path : List (List ℕ)) →
    HasFinished h sizes contents sbat stub →
    predicted_pcr (given_parts sizes contents sbat stub) bank path
    ≡ stub_pcr (finished_image h sizes contents sbat stub) bank path
