-- `measure calculate`: PCR 11 as it is predicted from the files of parts (systemd-measure(1)).
use Rattle.std.specs.Prelude.{ℕ, List, [], ◌∷◌, codes, Option, Some, Result, Ok}
use Rattle.boot_base.specs.declared.refusal.Refusal.{Refusal}
use Rattle.boot_machine.specs.Disk.{Files}
use Rattle.image_commands.specs.Told.{told_values}
use Rattle.stub_replay.specs.Measured.{predicted_pcr}
use Rattle.stub_replay.specs.Ordered.{part_of, present_parts}
use Rattle.tool_words.specs.declared.command.CalculateWords.{CalculateWords}
use Rattle.command_plans.specs.WordErrors.{◌>>=◌, path_in}
use Rattle.command_plans.specs.Files.{bytes_at, each}
use Rattle.command_plans.specs.Choices.{banks_of, paths_of}

-- the names of the measured sections, each with the word of the part's file where one is given
abbrev pub part_words : CalculateWords → List (List ℕ × Option (List ℕ))
part_words words =
    (codes ".linux", Some words.linux)
    ∷ (codes ".osrel", words.parts.osrel)
    ∷ (codes ".cmdline", words.parts.cmdline)
    ∷ (codes ".initrd", words.initrd)
    ∷ (codes ".ucode", words.parts.ucode)
    ∷ (codes ".splash", words.parts.splash)
    ∷ (codes ".dtb", words.parts.dtb)
    ∷ (codes ".uname", words.parts.uname)
    ∷ (codes ".sbat", words.parts.sbat)
    ∷ (codes ".pcrpkey", words.parts.pcrpkey)
    ∷ []

-- the words that are given, each under the name of its part
abbrev pub given_words : CalculateWords → List (List ℕ × List ℕ)
given_words words = present_parts (part_words words)

-- what is made of a part, under the part's name, or the refusal
abbrev pub under_name : {A B : Type 0} → (A → Result B Refusal) → List ℕ × A → Result (List ℕ × B) Refusal
under_name f part = f part.1 >>= λ made. Ok (part.0, made)

-- all words that are given are read as paths, then each part's file is read, then the values are printed
abbrev pub calculate_result : Files → CalculateWords → Result (List ℕ) Refusal
calculate_result view words =
    each (under_name path_in) (given_words words) >>= λ paths.
    each (under_name (bytes_at view)) paths >>= λ parts.
    Ok (told_values words.json (predicted_pcr (part_of parts)) (banks_of words.banks) (paths_of words.phases))
