-- Printed values are a stub's.
use Rattle.std.proofs.Common.{◌≡◌, ℕ, List, Ok, ap, ◌∙◌}
use Rattle.boot_base.specs.Paths.{Path}
use Rattle.boot_machine.specs.Prelude.{Files}
use Rattle.image_commands.specs.Told.{told_values}
use Rattle.command_plans.proofs.WordErrors.{done_next}
use Rattle.command_plans.specs.Prelude.{bytes_at, each, path_in, banks_of, paths_of}
use Rattle.pcr_values.specs.declared.bank.Bank.{Bank}
use Rattle.stub_replay.specs.Ordered.{part_of, present_parts}
use Rattle.stub_replay.specs.Measured.{Shows, stub_pcr}
use Rattle.stub_replay.proofs.Predicting.{predicted_is_replayed}
use Rattle.tool_words.specs.declared.command.CalculateWords.{CalculateWords}
use Rattle.image_commands.specs.Calculating.{calculate_result, part_words, under_name}

pub calculated_values : (view : Files) (words : CalculateWords) (paths : List (List ℕ × Path)) (parts : List (List ℕ × List ℕ)) (image : List ℕ)
    → each (under_name path_in) (present_parts (part_words words)) ≡ Ok paths → each (under_name (bytes_at view)) paths ≡ Ok parts → Shows image (part_of parts)
    → calculate_result view words ≡ Ok (told_values words.json (stub_pcr image) (banks_of words.banks) (paths_of words.phases))
calculated_values view words paths parts image paths_are parts_are shows =
    done_next (each (under_name path_in) (present_parts (part_words words))) paths _ paths_are
    ∙ done_next (each (under_name (bytes_at view)) paths) parts _ parts_are
    ∙ ap (λ (value : Bank → List (List ℕ) → List ℕ). Ok (told_values words.json value (banks_of words.banks) (paths_of words.phases)))
    (λ i bank path. predicted_is_replayed image (part_of parts) bank path shows i)
