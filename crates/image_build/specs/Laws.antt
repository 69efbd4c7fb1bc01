-- The printed values of PCR 11 are what a stub comes to that measures an image (systemd's TPM2 PCR document, PCR 11).
-- And what is read of words is not too much for an image.
use Rattle.std.specs.Prelude.{◌≡◌, ◌++◌, List, true, length, Ok}
use Rattle.boot_machine.specs.Disk.{Files}
use Rattle.boot_machine.specs.Rows.{contents}
use Rattle.pcr_values.specs.Phases.{default_phase_paths}
use Rattle.pcr_values.specs.ValueLines.{value_lines}
use Rattle.pcr_values.specs.Banks.{all_banks}
use Rattle.stub_replay.specs.Measured.{stub_pcr}
use Rattle.tool_words.specs.declared.command.BuildWords.{BuildWords}
use Rattle.tool_words.specs.declared.command.Command.TheVariants as command
use Rattle.tool_words.specs.declared.command.One.TheVariants.{Build}
use Rattle.tool_words.specs.Meaning.{meaning}
use Rattle.word_grammar.specs.Grammar.{Word}
use Rattle.image_build.specs.Building.{BuiltImage, build_answer, build_of, built_line, material_of, named_as, named_files}
use Rattle.image_build.specs.Imaged.{IsCountable}
use Rattle.image_build.specs.Reads.{BuiltFrom, material_as}
use Rattle.image_build.specs.declared.build_reads.BuildParts.{BuildParts}
use Rattle.image_build.specs.declared.source.BuildSources.{BuildSources}

-- A build that measures prints the values of the bytes that stand at its output afterwards.
abbrev pub ValuesOfBuilds : Type 0
ValuesOfBuilds =
    (view : Files) (words : BuildWords) (built : BuiltImage) → words.measure ≡ true → build_of view words ≡ Ok built →
    (build_answer view words).text ≡ built_line built.output (length built.image)
    ++ value_lines (stub_pcr (contents (build_answer view words).after built.output)) all_banks default_phase_paths

-- An image's numbers hold what is read of the words of a build, whatever the files hold: `ukify build` is two of at
-- most 16,777,216 words, each other one adds at most one file or text, and no file or text has more than 256 MiB.
abbrev pub BuildsAreCountable : Type 0
BuildsAreCountable = (words : List Word) (build : BuildWords) (from : BuildSources) (built : BuildParts) (view : Files)
    → meaning words ≡ Ok (command.One (Build build)) → named_files build ≡ Ok (named_as from)
    → BuiltFrom from built → material_of view (named_as from) ≡ Ok (material_as (contents view) built)
    → IsCountable built.parts.items built.sbat.items
