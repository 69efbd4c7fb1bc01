-- What an image is made of, by what each step read.
use Rattle.std.proofs.Common.{◌≡◌, ℕ, List, Result, Ok, sym, ap, ◌∙◌, subst}
use Rattle.boot_base.specs.declared.refusal.Refusal.{Refusal}
use Rattle.boot_machine.specs.Prelude.{Files, State, contents, seen}
use Rattle.pe_reader.specs.Prelude.{Headers, pe_of}
use Rattle.command_plans.specs.Prelude.{◌>>=◌, headers_or}
use Rattle.image_build.specs.declared.build_reads.BuildFiles.{BuildFiles}
use Rattle.image_build.specs.Building.{Contents, Material, NamedFiles, contents_of, material, material_of, sbat_of}
use Rattle.image_build.specs.Reads.{contents_as}

abbrev made_of : Contents → Headers → List ℕ → List ℕ → Material
made_of c headers linux text = record { headers = headers; stub = c.stub; linux = linux; parts = c.parts; sbat = text }

abbrev text_ok : List ℕ → Result (List ℕ) Refusal
text_ok text = Ok text

inner : (a b : List ℕ) → text_ok a ≡ text_ok b → a ≡ b
inner a b same = cc

made_is : (view : Files) (named : NamedFiles) (c : Contents) (headers : Headers) (linux text : List ℕ) → contents_of view named ≡ Ok c → pe_of c.stub ≡ Ok headers → text ≡ sbat_of c → linux ≡ c.linux
    → material_of view named ≡ Ok (made_of c headers linux text)
made_is view named c headers linux text found reads merged kernel =
    ap (λ r. r >>= material) found
    ∙ ap (λ r. headers_or r >>= λ h. Ok (made_of c h c.linux (sbat_of c))) reads
    ∙ ap (λ (l : List ℕ). Ok (made_of c headers l (sbat_of c))) (sym kernel)
    ∙ ap (λ (l : List ℕ). Ok (made_of c headers linux l)) (sym merged)

-- the state stands while the headers and the SBAT text are read
pub material_is : (s mid last : State) (named : NamedFiles) (found : BuildFiles) (headers : Headers) (linux text : List ℕ) → mid ≡ s → last ≡ mid
    → contents_of (seen s) named ≡ Ok (contents_as (contents (seen s)) found)
    → pe_of (contents (seen mid) found.stub) ≡ Ok headers → text_ok (sbat_of (contents_as (contents (seen last)) found)) ≡ text_ok text → linux ≡ contents (seen s) found.linux
    → material_of (seen s) named ≡ Ok (made_of (contents_as (contents (seen s)) found) headers linux text)
material_is s mid last named found headers linux text first second is reads merged kernel =
    made_is (seen s) named (contents_as (contents (seen s)) found) headers linux text is
    (subst (λ (t : State). pe_of (contents (seen t) found.stub) ≡ Ok headers) first reads)
    (sym (inner _ _ (subst (λ (t : State). text_ok (sbat_of (contents_as (contents (seen t)) found)) ≡ text_ok text) (second ∙ first) merged)))
    kernel
