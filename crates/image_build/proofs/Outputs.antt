-- What `ukify build` builds stands where its words say.
use Rattle.std.proofs.Common.{◌≡◌, ℕ, Bool, true, false, List, [], ◌∷◌, ◌++◌, length, Option, Some, None, refl, sym, ap, ◌∙◌, subst, Result, Ok, Err, IfOk, codes, filter, map, option_and_then, if◌then◌else◌, option_map}
use Rattle.boot_base.specs.Paths.{Path}
use Rattle.boot_base.specs.declared.refusal.Refusal.{Refusal}
use Rattle.boot_machine.specs.Prelude.{Files}
use Rattle.pe_reader.specs.Prelude.{Headers}
use Rattle.uki_parts.specs.Names.{padded_name}
use Rattle.uki_parts.specs.declared.name.SectionName.{SectionName}
use Rattle.pe_builder.specs.Refusals.{first_refusal}
use Rattle.pe_builder.specs.Replaced.{sbat_name}
use Rattle.tool_words.specs.declared.command.BuildWords.{BuildWords}
use Rattle.command_plans.specs.Prelude.{each, if_given, ◌>>=◌, path_in}
use Rattle.image_build.specs.Building.{BuiltImage, NamedFiles, build_of, builder_refusal, has_bytes, has_sbat, image_of, image_of_parts, image_or, material_of, named_files, section_of, size_of_part, source_of, sources_of, wanted_parts, with_sbat_text}

-- what is so of each outcome of the next step is so of both together
bind_if : {A B : Type 0} (r : Result A Refusal) (f : A → Result B Refusal) (Q : B → Type 0)
    → ((a : A) → r ≡ Ok a → IfOk (f a) Q) → IfOk (r >>= f) Q
bind_if (Ok a) f Q next = next a refl
bind_if (Err why) f Q next = tt

named_output : (words : BuildWords) → IfOk (named_files words) (λ named. path_in words.output ≡ Ok named.output)
named_output words =
    bind_if (each section_of words.sections) _ _ λ sections is.
    bind_if (path_in words.stub) _ _ λ stub is.
    bind_if (path_in words.linux) _ _ λ linux is.
    bind_if (each sources_of (wanted_parts words sections)) _ _ λ parts is.
    bind_if (if_given source_of words.parts.sbat) _ _ λ sbat is.
    bind_if (path_in words.output) _ _ λ output is. is

module _ (output : Path) (headers : Headers) (stub : List ℕ) where
  abbrev AtOutput : Result BuiltImage Refusal → Type 0
  AtOutput result = IfOk result (λ built. built.output ≡ output)

  or_output : (parts : List (SectionName × List ℕ)) (sbat : Option (List ℕ)) (refused : Option Refusal)
      → AtOutput (image_or output headers stub parts sbat refused)
  or_output parts sbat (Some why) = tt
  or_output parts sbat None = refl

  parts_output : (parts : List (SectionName × List ℕ)) (sbat : Option (List ℕ))
      → AtOutput (image_of_parts output headers stub parts sbat)
  parts_output parts sbat =
      or_output parts sbat
      (option_and_then (builder_refusal output) (first_refusal headers (length stub) (map size_of_part parts) (option_map length sbat)))

  either : (b : Bool) (x y : Result BuiltImage Refusal) → AtOutput x → AtOutput y → AtOutput (if b then x else y)
  either true x y p q = p
  either false x y p q = q

  sbat_output : (parts : List (SectionName × List ℕ)) (kernel text : List ℕ)
      → AtOutput (with_sbat_text output headers stub parts kernel text)
  sbat_output parts kernel [] = parts_output (filter has_bytes (parts ++ (padded_name (codes ".linux"), kernel) ∷ [])) None
  sbat_output parts kernel (byte ∷ text) =
      let with_kernel = filter has_bytes (parts ++ (padded_name (codes ".linux"), kernel) ∷ []) in
      let more = (padded_name sbat_name, byte ∷ text) ∷ (padded_name (codes ".linux"), kernel) ∷ [] in
      let with_both = filter has_bytes (parts ++ more) in
      either (has_sbat headers)
      (image_of_parts output headers stub with_kernel (Some (byte ∷ text)))
      (image_of_parts output headers stub with_both None)
      (parts_output with_kernel (Some (byte ∷ text)))
      (parts_output with_both None)

pub build_output : (view : Files) (words : BuildWords)
    → IfOk (build_of view words) (λ built. path_in words.output ≡ Ok built.output)
build_output view words =
    bind_if (named_files words) _ _ λ named is.
    bind_if (material_of view named) _ _ λ m made.
    at (image_of named.output m)
    (subst (λ (r : Result NamedFiles Refusal). IfOk r (λ named. path_in words.output ≡ Ok named.output)) is
    (named_output words))
    (sbat_output named.output m.headers m.stub m.parts m.linux m.sbat)
  where
    at : {output : Path} (r : Result BuiltImage Refusal) → path_in words.output ≡ Ok output
        → IfOk r (λ built. built.output ≡ output) → IfOk r (λ built. path_in words.output ≡ Ok built.output)
    at (Ok built) is p = is ∙ ap Ok (sym p)
    at (Err why) is p = tt
