-- How many bytes of files the planning of a build reads.
use Rattle.std.proofs.Common.{◌≡◌, ◌≤◌, ℕ, ◌+◌, List, [], ◌∷◌, ◌++◌, Bool, Option, None, Some, Ok, Bor, length, take, get_or, refl, sym, ap, subst, ◌∙◌, arith, IfSome, sum_by}
use Rattle.std.specs.List.{AllByRecursion}
use Rattle.std.proofs.lemmas.List.{take_more}
use Rattle.std.proofs.lemmas.List.Sums.{sum_by-append, sum_by-cons}
use Rattle.boot_machine.specs.Prelude.{Files, State, contents, seen, TakesAtMost}
use Rattle.command_plans.specs.Prelude.{making_length}
use Rattle.command_plans.specs.declared.plan.Change.{Change}
use Rattle.command_plans.specs.declared.plan.Change.TheVariants as changes
use Rattle.image_writer.specs.Sourced.{IsSourced, planned_image}
use Rattle.tool_words.specs.declared.command.BuildWords.{BuildWords}
use Rattle.stub_replay.proofs.Fitting.{content_fits}
use Rattle.stub_replay.proofs.Turns.{IsName}
use Rattle.stub_replay.specs.Measured.{measured_names}
use Rattle.stub_replay.specs.Parts.{IsWhole, content_or, files_length, given_part, read_length}
use Rattle.stub_replay.specs.declared.measurable.Content.{Content}
use Rattle.stub_replay.specs.declared.measurable.Measurable.{Measurable}
use Rattle.uki_parts.specs.Pieces.{Reading}
use Rattle.image_build.specs.Building.{build_named, build_of, named_as}
use Rattle.image_build.specs.Planning.{IsPlannedOn, built_as, built_length, built_measuring, measuring_length, planning_length}
use Rattle.image_build.specs.declared.planned.PlannedBuild.{PlannedBuild}
use Rattle.image_build.specs.Reads.{FilesFrom, loaded_sbat_length, reading_length, source_file_length}
use Rattle.image_build.specs.declared.build_reads.BuildFiles.{BuildFiles}
use Rattle.image_build.specs.declared.source.BuildSources.{BuildSources}

-- the file of `--sbat`, then the headers of the stub, then the SBAT texts
pub reading : (files : Reading) (sources : BuildSources) (found : BuildFiles) (before given headed after : ℕ) → FilesFrom sources found
    → TakesAtMost (source_file_length files sources.sbat) before given → TakesAtMost 69463 given headed
    → TakesAtMost (loaded_sbat_length files found.stub + (69463 + loaded_sbat_length files found.linux)) headed after
    → TakesAtMost (reading_length files (named_as sources)) before after
reading files sources found before given headed after from first second third =
    omega (arith, first, second, third, ap (loaded_sbat_length files) from.stub, ap (loaded_sbat_length files) from.linux)

given_fits : (files : Reading) (name : Bor (List ℕ)) (content : Option Content) (bytes : List ℕ) → content_or files content ≡ bytes → IfSome content (IsWhole files)
    → files_length (given_part name content) ≤ length bytes
given_fits files name None bytes is whole = omega arith
given_fits files name (Some content) bytes is whole = omega (arith, content_fits files content whole, ap length is)

sum_more : (f : List ℕ → ℕ) (i : ℕ) (name : List ℕ) → IsName i name → sum_by f (take (i + 1) measured_names) ≡ sum_by f (take i measured_names) + f name
sum_more f i name at =
    let last = get_or measured_names i [] in
    let one : sum_by f (last ∷ []) ≡ f last = omega arith in
    ap (sum_by f) (take_more measured_names i [] at.inside)
    ∙ sum_by-append f (take i measured_names) (last ∷ [])
    ∙ ap (λ (n : ℕ). sum_by f (take i measured_names) + n) (one ∙ sym (ap f at.is))

-- the parts of the first names, and of one more
pub short_more : (files : Reading) (bytes : List ℕ → List ℕ) (i : ℕ) (parts more : List Measurable) (name : Bor (List ℕ)) (content : Option Content) → more ≡ parts ++ given_part name content
    → files_length parts ≤ sum_by (λ n. length (bytes n)) (take i measured_names) → content_or files content ≡ bytes name.now → IfSome content (IsWhole files) → IsName i name.now
    → files_length more ≤ sum_by (λ n. length (bytes n)) (take (i + 1) measured_names)
short_more files bytes i parts more name content is before holds whole at =
    omega (
      arith,
      before,
      ap files_length is,
      sum_by-append (λ (m : Measurable). read_length m.content) parts (given_part name content),
      given_fits files name content (bytes name.now) holds whole,
      sum_more (λ n. length (bytes n)) i name.now at,
    )

-- names that have the same bytes have as many
pub same_lengths : (f g : List ℕ → List ℕ) (names : List (List ℕ)) → AllByRecursion (λ name. f name ≡ g name) names → sum_by (λ n. length (g n)) names ≡ sum_by (λ n. length (f n)) names
same_lengths f g [] same = refl
same_lengths f g (name ∷ names) same =
    sum_by-cons (λ n. length (g n)) name names
    ∙ ap (λ (k : ℕ). k + sum_by (λ n. length (g n)) names) (ap length (sym same.0))
    ∙ ap (λ (k : ℕ). length (f name) + k) (same_lengths f g names same.1)
    ∙ sym (sum_by-cons (λ n. length (f n)) name names)

-- the reads before an image is planned, and those that measure it
pub planning : (s now : State) (measure : Bool) (found : BuildSources) (build : PlannedBuild) (before between after : ℕ) → now ≡ s
    → build_named (seen s) (named_as found) ≡ Ok (built_as (seen s) build)
    → IsPlannedOn (seen s) build → TakesAtMost (reading_length (contents (seen s)) (named_as found)) before between
    → (IsPlannedOn (seen now) build → TakesAtMost (measuring_length measure (planned_image build.image.plan build.image.sources (seen now))) between after)
    → TakesAtMost (planning_length (seen s) measure (Ok (named_as found))) before after
planning s now measure found build before between after same meant on first second =
    let measured =
    subst (λ (t : State). IsPlannedOn (seen t) build → TakesAtMost (measuring_length measure (planned_image build.image.plan build.image.sources (seen t))) between after) same second on in
    omega (arith, first, measured, ap (built_measuring measure) meant)

-- the image is written of at most as many bytes as what the words mean has
pub written_of : (s now : State) (words : BuildWords) (build : PlannedBuild) (change : Change) → build_of (seen s) words ≡ Ok (built_as (seen s) build) → IsPlannedOn (seen s) build
    → ((view : Files) → IsSourced build.image.plan build.image.sources view → making_length view change ≤ length (planned_image build.image.plan build.image.sources view))
    → making_length (seen s) change ≤ built_length (build_of (seen s) words)
written_of s now words build change meant on writes = omega (arith, ap built_length meant, writes (seen s) on.sourced)

-- what changes nothing reads nothing more
pub idle_none : (view : Files) (change : Change) (n : ℕ) → change ≡ changes.Nothing → making_length view change ≤ n
idle_none view change n is = omega (arith, ap (making_length view) is)
