-- Printed values are a stub's.
use Rattle.std.proofs.Common.{◌≡◌, ◌++◌, ℕ, List, [], Bool, Option, Ok, Result, true, length, sym, ap, subst, unwrap_or}
use Rattle.std.specs.FinMap.{insert}
use Rattle.boot_base.specs.Paths.{Path}
use Rattle.boot_base.specs.declared.refusal.Refusal.{Refusal}
use Rattle.boot_machine.specs.Prelude.{Files, contents}
use Rattle.boot_machine.specs.proofs.Maps.{get-insert_here}
use Rattle.pcr_values.specs.Prelude.{default_phase_paths, value_lines, all_banks}
use Rattle.stub_replay.specs.Measured.{stub_pcr}
use Rattle.tool_words.specs.declared.command.BuildWords.{BuildWords}
use Rattle.image_build.specs.Building.{BuiltImage, build_answer, build_of, built_answer, built_line}

-- what stands at a path afterwards
there : (view : Files) (path : Path) (image : List ℕ) → contents (insert view path image) path ≡ image
there view path image = ap (λ (o : Option (List ℕ)). unwrap_or o []) (get-insert_here view path image)

pub built_values : (view : Files) (words : BuildWords) (built : BuiltImage) → words.measure ≡ true → build_of view words ≡ Ok built
    → (build_answer view words).text ≡ built_line built.output (length built.image) ++ value_lines (stub_pcr (contents (build_answer view words).after built.output)) all_banks default_phase_paths
built_values view words built asked is =
    subst
    (λ (r : Result BuiltImage Refusal). (built_answer view words.measure r).text ≡ built_line built.output (length built.image) ++ value_lines
    (stub_pcr (contents (built_answer view words.measure r).after built.output)) all_banks default_phase_paths)
    (sym is)
    (subst
    (λ (m : Bool). (built_answer view m (Ok built)).text ≡ built_line built.output (length built.image) ++ value_lines
    (stub_pcr (contents (built_answer view m (Ok built)).after built.output)) all_banks default_phase_paths) (sym asked)
    (ap (λ (image : List ℕ). built_line built.output (length built.image) ++ value_lines (stub_pcr image) all_banks default_phase_paths) (sym (there view built.output built.image))))
