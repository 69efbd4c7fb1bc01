-- What is printed as JSON is read as it is meant.
use Rattle.std.proofs.Common.{◌≡◌, ℕ, true, List, Result, Ok, Err, ap, sym, ◌∙◌, subst, map, All, IsUtf8}
use Rattle.boot_base.specs.Paths.{Path}
use Rattle.boot_base.specs.declared.refusal.Refusal.{Refusal}
use Rattle.boot_machine.specs.Prelude.{Files}
use Rattle.pcr_values.specs.declared.bank.Bank.{Bank}
use Rattle.pe_reader.specs.Prelude.{Headers, pe_of}
use Rattle.pe_reader.specs.declared.fault.FailedCheck.{FailedCheck}
use Rattle.list_json.proofs.HeldAnswers.{sections_read_back, values_read_back}
use Rattle.list_json.specs.Lines.{ReadsAs}
use Rattle.list_json.specs.Registers.{values_data}
use Rattle.list_json.specs.Sections.{sections_data}
use Rattle.stub_replay.specs.Measured.{predicted_pcr, stub_pcr}
use Rattle.stub_replay.specs.Ordered.{part_of}
use Rattle.command_plans.proofs.WordErrors.{done_next}
use Rattle.command_plans.proofs.Steps.{done_by, ok_is}
use Rattle.command_plans.specs.Prelude.{banks_of, paths_of, path_in, bytes_at, each, headers_or, image_at}
use Rattle.image_commands.specs.Calculating.{given_words, under_name}
use Rattle.image_commands.specs.Laws.{CalculationsReadBack, InspectionsReadBack, MeasurementsReadBack}
use Rattle.image_commands.specs.Said.{inspection, inspection_at, section_facts, values_at}
use Rattle.image_commands.specs.Told.{told_values}
use Rattle.image_commands.proofs.PhaseTexts.{paths_utf8}
use Rattle.image_commands.proofs.SectionSizes.{facts_fit}

read_is : (read : Result Headers FailedCheck) (headers : Headers) → headers_or read ≡ Ok headers → read ≡ Ok headers
read_is (Ok found) headers is = ap (λ (h : Headers). Ok h) (ok_is found headers is)
read_is (Err check) headers is = cc

pair_is : {A B : Type 0} (a b : A) (c d : B) → ◌≡◌ {A = A × B} (a, c) (b, d) → (a ≡ b) × (c ≡ d)
pair_is a b c d is = (ap (λ p. p.0) is, ap (λ p. p.1) is)

-- an image's headers are those of its bytes
image_is : (view : Files) (path : Path) (bytes : List ℕ) (headers : Headers) → image_at view path ≡ Ok (bytes, headers) → pe_of bytes ≡ Ok headers
image_is view path bytes headers is =
    let found = done_by (bytes_at view path) _ (bytes, headers) is in
    let read = done_by (headers_or (pe_of found.0)) _ (bytes, headers) found.2 in
    let same = pair_is found.0 bytes read.0 headers (ok_is (found.0, read.0) (bytes, headers) read.2) in
    subst (λ b. pe_of b ≡ Ok headers) same.0 (read_is (pe_of found.0) read.0 read.1 ∙ ap (λ (h : Headers). Ok h) same.1)

pub inspections_read_back : InspectionsReadBack
inspections_read_back view word text path bytes headers path_is shown is =
    let sections = map (section_facts bytes) headers.sections in
    let line = ok_is (inspection true path bytes headers) text
    (sym (done_next (image_at view path) (bytes, headers) _ shown) ∙ sym (done_next (path_in word) path (inspection_at view true) path_is) ∙ is) in
    subst (λ line. ReadsAs line (sections_data sections)) line (sections_read_back sections (facts_fit bytes headers (image_is view path bytes headers shown)))

-- the line of values after phases in UTF-8
values_back : (value : Bank → List (List ℕ) → List ℕ) (banks phases : List (List ℕ)) (text : List ℕ) → All IsUtf8 phases
    → ◌≡◌ {A = Result (List ℕ) Refusal} (Ok (told_values true value (banks_of banks) (paths_of phases))) (Ok text)
    → ReadsAs text (values_data value (banks_of banks) (paths_of phases))
values_back value banks phases text utf8 is =
    subst (λ line. ReadsAs line (values_data value (banks_of banks) (paths_of phases))) (ok_is (told_values true value (banks_of banks) (paths_of phases)) text is)
    (values_read_back value (banks_of banks) (paths_of phases) (paths_utf8 phases utf8))

pub measurements_read_back : MeasurementsReadBack
measurements_read_back view word text banks phases path bytes headers utf8 path_is shown is =
    values_back (stub_pcr bytes) banks phases text utf8
    (sym (done_next (image_at view path) (bytes, headers) _ shown) ∙ sym (done_next (path_in word) path (values_at view banks phases true) path_is) ∙ is)

pub calculations_read_back : CalculationsReadBack
calculations_read_back view words text paths parts json utf8 paths_are parts_are is =
    let value = predicted_pcr (part_of parts) in
    values_back value words.banks words.phases text utf8
    (ap (λ json. Ok (told_values json value (banks_of words.banks) (paths_of words.phases))) (sym json)
    ∙ sym (done_next (each (under_name (bytes_at view)) paths) parts _ parts_are)
    ∙ sym (done_next (each (under_name path_in) (given_words words)) paths _ paths_are)
    ∙ is)
