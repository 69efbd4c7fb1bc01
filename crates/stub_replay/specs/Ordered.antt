-- Parts in the order in which a stub measures them, and what is predicted of them.
use Rattle.std.specs.Prelude.{◌≡◌, ℕ, List, [], ◌∷◌, ◌++◌, Option, Some, None, if◌then◌else◌}
use Rattle.std.specs.List.{flat_map, zip}
use Rattle.std.specs.Str.{bytes_eq}
use Rattle.pcr_values.specs.declared.bank.Bank.{Bank}
use Rattle.pcr_values.specs.Banks.{fold_of}
use Rattle.stub_replay.specs.Measured.{measured_names, measured_by, predicted_pcr}
use Rattle.stub_replay.specs.Parts.{items_of}

-- the part of a name, if its bytes are given
abbrev pub as_part : List ℕ → Option (List ℕ) → List (List ℕ × List ℕ)
as_part name None = []
as_part name (Some bytes) = (name, bytes) ∷ []

-- the parts of the names whose bytes are given
abbrev pub present_parts : List (List ℕ × Option (List ℕ)) → List (List ℕ × List ℕ)
present_parts given = flat_map (λ part. as_part part.0 part.1) given

-- The parts are in the order in which a stub measures them: each name is a measured one and stands once at most.
abbrev pub InMeasuredOrder : List (List ℕ × List ℕ) → Type 0
InMeasuredOrder parts = (given : List (Option (List ℕ))) × (parts ≡ present_parts (zip measured_names given))

-- the bytes of the first part of a name, none where there is no such part
abbrev pub part_of : List (List ℕ × List ℕ) → List ℕ → List ℕ
part_of [] name = []
part_of (part ∷ parts) name = if bytes_eq part.0 name then part.1 else part_of parts name

-- What is measured of parts in that order is what is measured of them by their names, and so what their items fold to
-- is the predicted PCR 11, after the words of a phase path too.
abbrev pub PredictionOfOrderedParts : Type 0
PredictionOfOrderedParts =
    (parts : List (List ℕ × List ℕ)) (bank : Bank) (path : List (List ℕ)) → InMeasuredOrder parts →
    (items_of parts ≡ measured_by (part_of parts))
    × (fold_of bank (items_of parts ++ path) ≡ predicted_pcr (part_of parts) bank path)
