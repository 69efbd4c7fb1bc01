-- What the plan of an image comes to on a view.
use Rattle.std.proofs.Common.{◌≡◌, ℕ, ◌<◌, Bool, true, false, cond, not, List, [], ◌∷◌, ◌++◌, filter, length, map, Option, None, Some, Result, Ok, Err, refl, sym, ap, subst, ◌∙◌, arith, ◌==◌, All, IsErr, IsErrAnd, codes, option_and_then, option_map}
use Rattle.std.proofs.lemmas.Bool.Decides.{nat_tests}
use Rattle.std.proofs.lemmas.List.{append_assoc, append-nil, map-append}
use Rattle.std.proofs.lemmas.List.Elements.{All-cons, All-filter, All-head, All-nil, All-push, All-tail}
use Rattle.std.proofs.lemmas.List.Sums.{sum_by-cons}
use Rattle.boot_base.specs.Paths.{Path}
use Rattle.boot_base.specs.declared.refusal.Refusal.{Refusal}
use Rattle.boot_machine.specs.Prelude.{Files, contents}
use Rattle.stub_replay.proofs.Taking.{length-bytes_of}
use Rattle.pe_reader.specs.Prelude.{Headers, pe_of}
use Rattle.uki_parts.specs.declared.name.SectionName.{SectionName}
use Rattle.uki_parts.specs.declared.part.Part.{Part}
use Rattle.uki_parts.specs.Names.{padded_name}
use Rattle.uki_parts.specs.declared.piece.Piece.{Piece}
use Rattle.uki_parts.specs.declared.piece.Piece.TheVariants as pieces
use Rattle.uki_parts.specs.Pieces.{Reading, HasSizes, bytes_of, piece_bytes, piece_length, total_length}
use Rattle.pe_builder.specs.declared.fault.LayoutFault.{LayoutFault}
use Rattle.pe_builder.specs.declared.fault.LayoutFault.TheVariants as faults
use Rattle.pe_builder.specs.declared.size.PartSize.{PartSize}
use Rattle.pe_builder.specs.Image.{finished_image}
use Rattle.pe_builder.specs.Planned.{Makes, PlansImage, sbat_if_in_place}
use Rattle.pe_builder.specs.Refusals.{first_refusal}
use Rattle.pe_builder.specs.Replaced.{sbat_name}
use Rattle.pe_builder.specs.Sizes.{size_of, part_flags}
use Rattle.image_writer.specs.Sourced.{IsPieced, IsSourced, new_sbat, part_list, parts_bytes, planned_image, stub_path}
use Rattle.image_writer.specs.declared.sources.Sources.{Sources}
use Rattle.pe_builder.specs.declared.plan.ImageLayout.{ImageLayout}
use Rattle.image_writer.proofs.PlannedImages.{planned_image-is}
use Rattle.image_build.specs.declared.build_plan.ImagePlan.{ImagePlan}
use Rattle.image_build.specs.Building.{BuiltImage, builder_refusal, has_bytes, has_sbat, image_of_parts, image_or, size_of_part}
use Rattle.image_build.specs.Imaged.{AreOrdered, Images, IsPlanOf, IsSbatPart, PlansParts, image_result, is_filled}
use Rattle.image_build.specs.Reads.{part_as}

-- On a view the stub at a path has this length and reads with these headers, and the pieces of all parts have the sizes
-- that they say, which together are the parts'.
pub record AreRead (view : Files) (headers : Headers) (stub_length : ℕ) (stub : Path) (parts : List Part) (linux : Part) : Type 0 where
  pub length_is : length (contents view stub) ≡ stub_length
  pub reads : pe_of (contents view stub) ≡ Ok headers
  pub pieced : All (IsPieced (contents view)) parts
  pub linux_pieced : IsPieced (contents view) linux

-- the bytes of a part are as many as it says
read_length : (files : Reading) (part : Part) → IsPieced files part → length (bytes_of files part.pieces.items) ≡ part.length
read_length files part is = length-bytes_of files part.pieces.items is.sizes ∙ is.total

-- so the sizes of the parts are those of their bytes
sizes_read : (files : Reading) (parts : List Part) → All (IsPieced files) parts → map size_of_part (map (part_as files) parts) ≡ map size_of parts
sizes_read files [] pieced = refl
sizes_read files (part ∷ parts) pieced =
    let here = read_length files part (All-head (IsPieced files) part parts pieced) in
    ap (λ (n : ℕ). (let size : PartSize = record { name = part.name; length = n; flags = part_flags part.name } in size) ∷ map size_of_part (map (part_as files) parts)) here
    ∙ ap (λ (l : List PartSize). size_of part ∷ l) (sizes_read files parts (All-tail (IsPieced files) part parts pieced))

contents_read : (files : Reading) (parts : List Part) → map (λ (p : SectionName × List ℕ). p.1) (map (part_as files) parts) ≡ parts_bytes files parts
contents_read files [] = refl
contents_read files (part ∷ parts) = ap (λ (l : List (List ℕ)). bytes_of files part.pieces.items ∷ l) (contents_read files parts)

pub lengths_read : (files : Reading) (parts : List Part) → All (IsPieced files) parts → map length (parts_bytes files parts) ≡ map (λ p. p.length) (map size_of parts)
lengths_read files [] pieced = refl
lengths_read files (part ∷ parts) pieced =
    let here = read_length files part (All-head (IsPieced files) part parts pieced) in
    ap (λ (n : ℕ). n ∷ map length (parts_bytes files parts)) here
    ∙ ap (λ (l : List ℕ). part.length ∷ l) (lengths_read files parts (All-tail (IsPieced files) part parts pieced))

-- the parts with bytes are those of some length
pub filled_read : (files : Reading) (parts : List Part) → All (IsPieced files) parts → filter has_bytes (map (part_as files) parts) ≡ map (part_as files) (filter is_filled parts)
filled_read files [] pieced = refl
filled_read files (part ∷ parts) pieced =
    let here = read_length files part (All-head (IsPieced files) part parts pieced) in
    let rest = filled_read files parts (All-tail (IsPieced files) part parts pieced) in
    let first = part_as files part in
    ap (λ (n : ℕ). cond (not (n == 0)) (first ∷ filter has_bytes (map (part_as files) parts)) (filter has_bytes (map (part_as files) parts))) here
    ∙ ap (λ (l : List (SectionName × List ℕ)). cond (not (part.length == 0)) (first ∷ l) l) rest
    ∙ elim (part.length == 0) as
    (λ b. cond (not b) (first ∷ map (part_as files) (filter is_filled parts)) (map (part_as files) (filter is_filled parts)) ≡ map (part_as files)
    (cond (not b) (part ∷ filter is_filled parts) (filter is_filled parts))) [
      | true ↦ refl
      | false ↦ refl
    ]

sourced_for : (plan : ImageLayout) (sources : Sources) (view : Files) (h : Headers) (in_place : Option ℕ) → pe_of (contents view (stub_path sources)) ≡ Ok h
    → All (IsPieced (contents view)) (part_list sources) → option_map length (sbat_if_in_place in_place (new_sbat sources)) ≡ in_place
    → PlansImage plan h (length (contents view (stub_path sources))) (map size_of (part_list sources)) in_place → IsSourced plan sources view
sourced_for plan sources view h in_place reads pieced len plans = record {
  plan_is = record {
    headers = h;
    sizes = map size_of (part_list sources);
    in_place = in_place;
    reads = reads;
    plans = plans;
    lengths = lengths_read (contents view) (part_list sources) pieced;
    sbat_length = len;
  };
  pieced = pieced;
}

abbrev built : Path → List ℕ → Result BuiltImage Refusal
built output image = Ok (record { output = output; image = image })

-- of parts that are read, the first refusal goes by the sizes that they say
refusal_read : (output : Path) (h : Headers) (files : Reading) (stub : List ℕ) (parts : List Part) (in_place : Option ℕ) (sbat : List ℕ) (refused : Option LayoutFault)
    → All (IsPieced files) parts → option_map length (sbat_if_in_place in_place sbat) ≡ in_place → first_refusal h (length stub) (map size_of parts) in_place ≡ refused
    → image_of_parts output h stub (map (part_as files) parts) (sbat_if_in_place in_place sbat)
    ≡ image_or output h stub (map (part_as files) parts) (sbat_if_in_place in_place sbat) (option_and_then (builder_refusal output) refused)
refusal_read output h files stub parts in_place sbat refused pieced len is =
    let read = map (part_as files) parts in
    let or : Option LayoutFault → Result BuiltImage Refusal = λ o. image_or output h stub read (sbat_if_in_place in_place sbat) (option_and_then (builder_refusal output) o) in
    ap (λ (l : List PartSize). or (first_refusal h (length stub) l (option_map length (sbat_if_in_place in_place sbat)))) (sizes_read files parts pieced)
    ∙ ap (λ (o : Option ℕ). or (first_refusal h (length stub) (map size_of parts) o)) len
    ∙ ap or is

image_for : (output : Path) (plan : ImageLayout) (sources : Sources) (view : Files) (h : Headers) (in_place : Option ℕ) → pe_of (contents view (stub_path sources)) ≡ Ok h
    → All (IsPieced (contents view)) (part_list sources) → option_map length (sbat_if_in_place in_place (new_sbat sources)) ≡ in_place
    → PlansImage plan h (length (contents view (stub_path sources))) (map size_of (part_list sources)) in_place
    → image_of_parts output h (contents view (stub_path sources)) (map (part_as (contents view)) (part_list sources))
    (sbat_if_in_place in_place (new_sbat sources)) ≡ built output (planned_image plan sources view)
image_for output plan sources view h in_place reads pieced len plans =
    let files = contents view in
    let stub = files (stub_path sources) in
    let parts = part_list sources in
    let sbat = sbat_if_in_place in_place (new_sbat sources) in
    refusal_read output h files stub parts in_place (new_sbat sources) None pieced len plans.buildable.not_refused
    ∙ ap (λ (l : List PartSize). built output (finished_image h l (map (λ p. p.1) (map (part_as files) parts)) sbat stub)) (sizes_read files parts pieced)
    ∙ ap (λ (l : List (List ℕ)). built output (finished_image h (map size_of parts) l sbat stub)) (contents_read files parts)
    ∙ ap (λ (l : List ℕ). built output l) (sym (planned_image-is plan sources view h (map size_of parts) in_place reads plans len))

-- the image of parts and a `.sbat` in place, where it is said
abbrev pub parts_meant : Files → Headers → Path → List Part → Option ℕ → List ℕ → Path → Result BuiltImage Refusal
parts_meant view h stub parts in_place sbat output =
    image_of_parts output h (contents view stub) (map (part_as (contents view)) parts) (sbat_if_in_place in_place sbat)

-- these files and parts are read
pub record Read (view : Files) (h : Headers) (n : ℕ) (stub : Path) (parts : List Part) (in_place : Option ℕ) (sbat : List ℕ) : Type 0 where
  pub length_is : length (contents view stub) ≡ n
  pub reads : pe_of (contents view stub) ≡ Ok h
  pub pieced : All (IsPieced (contents view)) parts
  pub sbat_length : option_map length (sbat_if_in_place in_place sbat) ≡ in_place

images_plan : (view : Files) (h : Headers) (n : ℕ) (in_place : Option ℕ) (image : ImagePlan) → Read view h n (stub_path image.sources) (part_list image.sources) in_place (new_sbat image.sources)
    → PlansImage image.plan h n (map size_of (part_list image.sources)) in_place
    → Images view (parts_meant view h (stub_path image.sources) (part_list image.sources) in_place (new_sbat image.sources)) (Ok image)
images_plan view h n in_place image read plans =
    let sources = image.sources in
    let here = subst (λ (k : ℕ). PlansImage image.plan h k (map size_of (part_list sources)) in_place) (sym read.length_is) plans in (
      sourced_for image.plan sources view h in_place read.reads read.pieced read.sbat_length here,
      λ output. image_for output image.plan sources view h in_place read.reads read.pieced read.sbat_length here,
    )

images_made : (view : Files) (h : Headers) (n : ℕ) (stub : Path) (parts : List Part) (in_place : Option ℕ) (sbat : List ℕ) (image : ImagePlan) → Read view h n stub parts in_place sbat
    → IsPlanOf image h n stub parts in_place sbat → Images view (parts_meant view h stub parts in_place sbat) (Ok image)
images_made view h n stub parts in_place sbat image read is =
    let F : Path → List Part → List ℕ → Type 0 =
    λ p l s. Read view h n p l in_place s → PlansImage image.plan h n (map size_of l) in_place → Images view (parts_meant view h p l in_place s)
    (Ok image) in
    let all : F stub parts sbat =
    subst (λ (p : Path). F p parts sbat) is.stub_is
    (subst (λ (l : List Part). F (stub_path image.sources) l sbat) is.parts_are
    (subst (λ (s : List ℕ). F (stub_path image.sources) (part_list image.sources) s) is.sbat_is (images_plan view h n in_place image))) in
    all read is.plans

images_refused : (view : Files) (h : Headers) (n : ℕ) (stub : Path) (parts : List Part) (in_place : Option ℕ) (sbat : List ℕ) (fault : LayoutFault) → Read view h n stub parts in_place sbat
    → first_refusal h n (map size_of parts) in_place ≡ Some fault → (output : Path) (why : Refusal) → builder_refusal output fault ≡ Some why
    → parts_meant view h stub parts in_place sbat output ≡ Err why
images_refused view h n stub parts in_place sbat fault read is output why told =
    let here = subst (λ (k : ℕ). first_refusal h k (map size_of parts) in_place ≡ Some fault) (sym read.length_is) is in
    refusal_read output h (contents view) (contents view stub) parts in_place sbat (Some fault) read.pieced read.sbat_length here
    ∙ ap (λ (o : Option Refusal). image_or output h (contents view stub) (map (part_as (contents view)) parts) (sbat_if_in_place in_place sbat) o) told

-- so a refusal is the one that is meant
pub refused_as : (view : Files) (meant : Path → Result BuiltImage Refusal) (fault : LayoutFault) (output : Path) (why : Refusal)
    → builder_refusal output fault ≡ Some why → Images view meant (Err fault)
    → meant output ≡ Err why
refused_as view meant faults.Memory output why told images = absurd (cc told)
refused_as view meant fault output why told images = images output why told

-- What a plan of parts comes to where they are read.
pub images_parts : (view : Files) (h : Headers) (n : ℕ) (stub : Path) (parts : List Part) (in_place : Option ℕ) (sbat : List ℕ) (result : Result ImagePlan LayoutFault)
    → Read view h n stub parts in_place sbat → PlansParts h n stub parts in_place sbat result → Images view (parts_meant view h stub parts in_place sbat) result
images_parts view h n stub parts in_place sbat (Ok image) read is = images_made view h n stub parts in_place sbat image read is
images_parts view h n stub parts in_place sbat (Err faults.Memory) read is = tt
images_parts view h n stub parts in_place sbat (Err fault) read is = images_refused view h n stub parts in_place sbat fault read is

pub images_as : (view : Files) (meant other : Path → Result BuiltImage Refusal) (result : Result ImagePlan LayoutFault)
    → ((output : Path) → other output ≡ meant output) → Images view meant result → Images view other result
images_as view meant other (Ok image) same is = (is.0, λ output. same output ∙ is.1 output)
images_as view meant other (Err faults.Memory) same is = tt
images_as view meant other (Err fault) same is = λ output why told. same output ∙ is output why told

-- whether a text is empty
pub is_none : (empty : Bool) (n : ℕ) → empty ≡ (n == 0) → empty ≡ true → n ≡ 0
is_none empty n is holds = grind (arith, nat_tests)

pub is_some : (empty : Bool) (n : ℕ) → empty ≡ (n == 0) → empty ≡ false → 0 < n
is_some empty n is fails = grind (arith, nat_tests)

-- the parts, the kernel behind them
listed_read : (files : Reading) (parts : List Part) (linux : Part) → linux.name ≡ padded_name (codes ".linux") → All (IsPieced files) (parts ++ linux ∷ [])
    → filter has_bytes (map (part_as files) parts ++ (padded_name (codes ".linux"), bytes_of files linux.pieces.items) ∷ []) ≡ map (part_as files) (filter is_filled (parts ++ linux ∷ []))
listed_read files parts linux name pieced =
    ap (λ (n : SectionName). filter has_bytes (map (part_as files) parts ++ (n, bytes_of files linux.pieces.items) ∷ [])) (sym name)
    ∙ ap (filter has_bytes) (sym (map-append (part_as files) parts (linux ∷ [])))
    ∙ filled_read files (parts ++ linux ∷ []) pieced

all_pieced : (view : Files) (h : Headers) (n : ℕ) (stub : Path) (parts : List Part) (linux : Part) → AreRead view h n stub parts linux → All (IsPieced (contents view)) (parts ++ linux ∷ [])
all_pieced view h n stub parts linux read = All-push (IsPieced (contents view)) parts linux read.pieced read.linux_pieced

filled_are_read : (view : Files) (h : Headers) (n : ℕ) (stub : Path) (parts all list : List Part) (linux : Part) (in_place : Option ℕ) (sbat : List ℕ) → AreRead view h n stub parts linux
    → All (IsPieced (contents view)) all → list ≡ filter is_filled all → option_map length (sbat_if_in_place in_place sbat) ≡ in_place → Read view h n stub list in_place sbat
filled_are_read view h n stub parts all list linux in_place sbat read pieced is len = record {
  length_is = read.length_is;
  reads = read.reads;
  pieced = subst (All (IsPieced (contents view))) (sym is) (All-filter is_filled (IsPieced (contents view)) all pieced);
  sbat_length = len;
}

meant_without : (view : Files) (h : Headers) (stub : Path) (parts : List Part) (linux : Part) (sbat : List ℕ) (output : Path) → length sbat ≡ 0
    → image_result view h stub parts linux sbat output
    ≡ image_of_parts output h (contents view stub) (filter has_bytes (map (part_as (contents view)) parts ++ (padded_name (codes ".linux"), bytes_of (contents view) linux.pieces.items) ∷ [])) None
meant_without view h stub parts linux [] output none = refl
meant_without view h stub parts linux (byte ∷ text) output none = absurd (omega arith)

-- without an SBAT text
pub images_without : (view : Files) (h : Headers) (n : ℕ) (stub : Path) (parts list : List Part) (linux : Part) (sbat : List ℕ) (result : Result ImagePlan LayoutFault) → AreOrdered parts linux
    → list ≡ filter is_filled (parts ++ linux ∷ []) → length sbat ≡ 0 → PlansParts h n stub list None sbat result → AreRead view h n stub parts linux
    → Images view (image_result view h stub parts linux sbat) result
images_without view h n stub parts list linux sbat result are is none planned read =
    let pieced = all_pieced view h n stub parts linux read in
    images_as view (parts_meant view h stub list None sbat) (image_result view h stub parts linux sbat) result
    (λ output.
    meant_without view h stub parts linux sbat output none
    ∙ ap (λ (l : List (SectionName × List ℕ)). image_of_parts output h (contents view stub) l None)
    (listed_read (contents view) parts linux are.name pieced ∙ ap (map (part_as (contents view))) (sym is)))
    (images_parts view h n stub list None sbat result (filled_are_read view h n stub parts (parts ++ linux ∷ []) list linux None sbat read pieced is refl) planned)

meant_in_place : (view : Files) (h : Headers) (stub : Path) (parts : List Part) (linux : Part) (sbat : List ℕ) (output : Path) → 0 < length sbat → has_sbat h ≡ true
    → image_result view h stub parts linux sbat output
    ≡ image_of_parts output h (contents view stub)
    (filter has_bytes (map (part_as (contents view)) parts ++ (padded_name (codes ".linux"), bytes_of (contents view) linux.pieces.items) ∷ []))
    (Some sbat)
meant_in_place view h stub parts linux [] output some has = absurd (omega arith)
meant_in_place view h stub parts linux (byte ∷ text) output some has = rw has refl

-- with one in the place of the stub's
pub images_in_place : (view : Files) (h : Headers) (n : ℕ) (stub : Path) (parts list : List Part) (linux : Part) (sbat : List ℕ) (count : ℕ)
    (result : Result ImagePlan LayoutFault)
    → AreOrdered parts linux
    → list ≡ filter is_filled (parts ++ linux ∷ []) → 0 < length sbat → has_sbat h ≡ true → length sbat ≡ count → PlansParts h n stub list (Some count) sbat result → AreRead view h n stub parts linux
    → Images view (image_result view h stub parts linux sbat) result
images_in_place view h n stub parts list linux sbat count result are is some has len planned read =
    let pieced = all_pieced view h n stub parts linux read in
    images_as view (parts_meant view h stub list (Some count) sbat) (image_result view h stub parts linux sbat) result
    (λ output.
    meant_in_place view h stub parts linux sbat output some has
    ∙ ap (λ (l : List (SectionName × List ℕ)). image_of_parts output h (contents view stub) l (Some sbat))
    (listed_read (contents view) parts linux are.name pieced ∙ ap (map (part_as (contents view))) (sym is)))
    (images_parts view h n stub list (Some count) sbat result
    (filled_are_read view h n stub parts (parts ++ linux ∷ []) list linux (Some count) sbat read pieced is
    (ap (λ (k : ℕ). let o : Option ℕ = Some k in o) len)) planned)

text_pieced : (files : Reading) (part : Part) (text : List ℕ) → IsSbatPart part text → IsPieced files part
text_pieced files part text is = record {
  sizes =
      subst (HasSizes files) (sym is.pieces_are)
      (All-cons (λ piece. length (piece_bytes files piece) ≡ piece_length piece) (pieces.Bytes text) [] refl
      (All-nil (λ piece. length (piece_bytes files piece) ≡ piece_length piece)));
  total = ap total_length is.pieces_are ∙ sum_by-cons piece_length (pieces.Bytes text) [] ∙ omega (arith, is.length_is);
}

text_read : (files : Reading) (part : Part) (text : List ℕ) → IsSbatPart part text → part_as files part ≡ (padded_name sbat_name, text)
text_read files part text is =
    ap (λ (n : SectionName). (n, bytes_of files part.pieces.items)) is.name
    ∙ ap (λ (l : List Piece). (padded_name sbat_name, bytes_of files l)) is.pieces_are
    ∙ ap (λ (l : List ℕ). (padded_name sbat_name, l)) (append-nil text)

meant_as_part : (view : Files) (h : Headers) (stub : Path) (parts : List Part) (linux : Part) (sbat : List ℕ) (output : Path) → 0 < length sbat → has_sbat h ≡ false
    → image_result view h stub parts linux sbat output
    ≡ image_of_parts output h (contents view stub)
    (filter has_bytes
    (map (part_as (contents view)) parts ++ (padded_name sbat_name, sbat) ∷
    (padded_name (codes ".linux"), bytes_of (contents view) linux.pieces.items) ∷ []))
    None
meant_as_part view h stub parts linux [] output some has = absurd (omega arith)
meant_as_part view h stub parts linux (byte ∷ text) output some has = rw has refl

text_listed : (files : Reading) (parts : List Part) (linux part : Part) (text : List ℕ) → IsSbatPart part text
    → map (part_as files) parts ++ (padded_name sbat_name, text) ∷ (padded_name (codes ".linux"), bytes_of files linux.pieces.items) ∷ []
    ≡ map (part_as files) (parts ++ part ∷ []) ++ (padded_name (codes ".linux"), bytes_of files linux.pieces.items) ∷ []
text_listed files parts linux part text is =
    let kernel : SectionName × List ℕ = (padded_name (codes ".linux"), bytes_of files linux.pieces.items) in
    ap (λ (p : SectionName × List ℕ). map (part_as files) parts ++ p ∷ kernel ∷ []) (sym (text_read files part text is))
    ∙ sym (append_assoc (map (part_as files) parts) (part_as files part ∷ []) (kernel ∷ []))
    ∙ ap (λ (l : List (SectionName × List ℕ)). l ++ kernel ∷ []) (sym (map-append (part_as files) parts (part ∷ [])))

-- with one as a part
pub images_as_part : (view : Files) (h : Headers) (n : ℕ) (stub : Path) (parts list : List Part) (linux part : Part) (sbat none : List ℕ)
    (result : Result ImagePlan LayoutFault)
    → AreOrdered parts linux → IsSbatPart part sbat
    → list ≡ filter is_filled ((parts ++ part ∷ []) ++ linux ∷ []) → 0 < length sbat → has_sbat h ≡ false → PlansParts h n stub list None none result → AreRead view h n stub parts linux
    → Images view (image_result view h stub parts linux sbat) result
images_as_part view h n stub parts list linux part sbat none result are holds is some has planned read =
    let files = contents view in
    let more = parts ++ part ∷ [] in
    let pieced = All-push (IsPieced files) more linux (All-push (IsPieced files) parts part read.pieced (text_pieced files part sbat holds)) read.linux_pieced in
    images_as view (parts_meant view h stub list None none) (image_result view h stub parts linux sbat) result
    (λ output.
    meant_as_part view h stub parts linux sbat output some has
    ∙ ap (λ (l : List (SectionName × List ℕ)). image_of_parts output h (files stub) (filter has_bytes l) None) (text_listed files parts linux part sbat holds)
    ∙ ap (λ (l : List (SectionName × List ℕ)). image_of_parts output h (files stub) l None) (listed_read files more linux are.name pieced ∙ ap (map (part_as files)) (sym is)))
    (images_parts view h n stub list None none result (filled_are_read view h n stub parts (more ++ linux ∷ []) list linux None none read pieced is refl) planned)

-- the fault of the plan of these parts, as it is handed on
refused_by : (P : ImageLayout → Type 0) (h : Headers) (n : ℕ) (stub : Path) (parts : List Part) (in_place : Option ℕ) (sbat : List ℕ) (fault : LayoutFault)
    → Makes P (Err fault) (first_refusal h n (map size_of parts) in_place) → PlansParts h n stub parts in_place sbat (Err fault)
refused_by P h n stub parts in_place sbat faults.Memory made = tt
refused_by P h n stub parts in_place sbat fault made = made

pub plan_refused : (P : ImageLayout → Type 0) (h : Headers) (n : ℕ) (stub : Path) (parts : List Part) (sizes : List PartSize) (in_place : Option ℕ)
    (sbat : List ℕ) (fault : LayoutFault) (result : Result ImagePlan LayoutFault)
    → sizes ≡ map size_of parts → Makes P (Err fault) (first_refusal h n sizes in_place) → IsErr result → IsErrAnd result (λ e. e ≡ fault) → PlansParts h n stub parts in_place sbat result
plan_refused P h n stub parts sizes in_place sbat fault (Ok image) is made failed same = cc
plan_refused P h n stub parts sizes in_place sbat fault (Err e) is made failed same =
    subst (λ (f : LayoutFault). PlansParts h n stub parts in_place sbat (Err f)) (sym same)
    (refused_by P h n stub parts in_place sbat fault (subst (λ (l : List PartSize). Makes P (Err fault) (first_refusal h n l in_place)) is made))
