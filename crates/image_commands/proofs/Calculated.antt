-- What is found of files on the machine as it is.
use Rattle.std.proofs.Common.{◌≡◌, ◌≤◌, ◌+◌, ℕ, List, [], Bor, length, map, Ok, arith, ap, refl, sym, ◌∙◌, subst, All, sum_by}
use Rattle.boot_base.specs.Paths.{Path}
use Rattle.boot_machine.specs.Prelude.{State, contents, seen}
use Rattle.pcr_values.specs.declared.bank.Bank.{Bank}
use Rattle.pcr_values.specs.declared.pcr.Pcr.{Pcr}
use Rattle.pcr_values.specs.Prelude.{fold_pcr, pcr_value}
use Rattle.stub_replay.specs.Ordered.{present_parts}
use Rattle.stub_replay.specs.Parts.{HaveSizes, files_length, items_of, named_bytes}
use Rattle.stub_replay.specs.declared.measurable.Measurable.{Measurable}
use Rattle.tool_words.specs.declared.command.CalculateWords.{CalculateWords}
use Rattle.uki_parts.specs.Pieces.{Reading}
use Rattle.uki_parts.specs.declared.piece.Piece.{Piece}
use Rattle.command_plans.specs.Prelude.{bytes_at, each, path_in}
use Rattle.image_commands.specs.Calculating.{part_words, under_name}
use Rattle.image_commands.specs.Parts.{HasItsSize, named_file}
use Rattle.image_commands.specs.Taking.{named_length}
use Rattle.image_commands.proofs.Registers.{AreSaid}
use Rattle.image_commands.proofs.Taking.{lengths_made, parts_fit}

-- a name with a file
abbrev pub File : Type 0
File = Bor (List ℕ) × Piece

-- what is found of files that have their sizes
moved : (P : State → List File → List Bank → Type 0) (s now : State) (files seen_files : List File) (banks seen_banks : List Bank) → now ≡ s
    → seen_files ≡ files → seen_banks ≡ banks → P now seen_files seen_banks → P s files banks
moved P s now files seen_files banks seen_banks same is_files is_banks found =
    subst (λ (t : State). P t files banks) same (subst (λ (fs : List File). P now fs banks) is_files (subst (λ (bs : List Bank). P now seen_files bs) is_banks found))

pub registers_of : (s now : State) (files seen_files : List File) (banks seen_banks : List Bank) (pcrs : List Pcr) → now ≡ s → seen_files ≡ files → seen_banks ≡ banks
    → (All (HasItsSize (contents (seen now))) seen_files → AreSaid (items_of (map (named_file (contents (seen now))) seen_files)) seen_banks pcrs)
    → All (HasItsSize (contents (seen s))) files → AreSaid (items_of (map (named_file (contents (seen s))) files)) banks pcrs
registers_of s now files seen_files banks seen_banks pcrs same is_files is_banks found sizes =
    let P = λ (t : State) (fs : List File) (bs : List Bank). All (HasItsSize (contents (seen t))) fs → AreSaid (items_of (map (named_file (contents (seen t))) fs)) bs pcrs in
    moved P s now files seen_files banks seen_banks same is_files is_banks found sizes

-- and how many bytes of them are read
pub taken_of : (s now : State) (words : CalculateWords) (paths : List (List ℕ × Path)) (files seen_files : List File) (start middle after : ℕ) → now ≡ s → seen_files ≡ files
    → each (under_name path_in) (present_parts (part_words words)) ≡ Ok paths → each (under_name (bytes_at (seen s))) paths ≡ Ok (map (named_file (contents (seen s))) files)
    → All (HasItsSize (contents (seen s))) files → middle ≤ start + 0
    → (All (HasItsSize (contents (seen now))) seen_files → after ≤ middle + sum_by (λ part. length part.1) (map (named_file (contents (seen now))) seen_files))
    → after ≤ start + named_length (seen s) words
taken_of s now words paths files seen_files start middle after same is_files paths_are parts_are sizes first second =
    let P =
    λ (t : State) (fs : List File) (bs : List Bank). All (HasItsSize (contents (seen t))) fs → after ≤ middle + sum_by
    (λ (part : List ℕ × List ℕ). length part.1) (map (named_file (contents (seen t))) fs) in
    let found = moved P s now files seen_files [] [] same is_files refl second sizes in
    omega (arith, first, found, lengths_made (seen s) (present_parts (part_words words)) paths (map (named_file (contents (seen s))) files) paths_are parts_are)

-- the registers that are predicted from the parts of files
pub registers_predicted : (reading : Reading) (files : List File) (parts seen_parts : List Measurable) (banks : List Bank) (pcrs : List Pcr) → seen_parts ≡ parts
    → map (named_bytes reading) parts ≡ map (named_file reading) files → HaveSizes reading parts
    → (HaveSizes reading seen_parts → map pcr_value pcrs ≡ map (fold_pcr (items_of (map (named_bytes reading) seen_parts))) banks)
    → AreSaid (items_of (map (named_file reading) files)) banks pcrs
registers_predicted reading files parts seen_parts banks pcrs same are sized found =
    let here = found (subst (HaveSizes reading) (sym same) sized) in
    ap Ok (sym (here ∙ ap (λ (ps : List Measurable). map (fold_pcr (items_of (map (named_bytes reading) ps))) banks) same
    ∙ ap (λ (l : List (List ℕ × List ℕ)). map (fold_pcr (items_of l)) banks) are))

-- and how many bytes of them are read
pub taken_predicted : (reading : Reading) (files : List File) (parts seen_parts : List Measurable) (before after : ℕ) → seen_parts ≡ parts
    → map (named_bytes reading) parts ≡ map (named_file reading) files → HaveSizes reading parts → after ≤ before + files_length seen_parts
    → after ≤ before + sum_by (λ part. length part.1) (map (named_file reading) files)
taken_predicted reading files parts seen_parts before after same are sized taken =
    omega (
      arith,
      taken,
      ap files_length same,
      parts_fit reading parts sized,
      ap (sum_by (λ (part : List ℕ × List ℕ). length part.1)) are,
    )
