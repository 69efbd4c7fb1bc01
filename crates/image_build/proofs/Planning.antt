-- The plan of what a build reads, and how many bytes its image has.
use Rattle.std.proofs.Common.{◌≡◌, ◌≤◌, ◌^◌, ℕ, List, [], ◌∷◌, Result, Ok, Err, append-nil, length, refl, sym, true, false, ◌++◌, ap, subst, ◌∙◌, arith, All, Bool, IfOk, map, sum_by}
use Rattle.std.specs.List.{AllZip}
use Rattle.std.proofs.lemmas.List.Elements.{All-cons, All-head, All-nil, All-tail}
use Rattle.std.proofs.lemmas.List.Sums.{sum_by-cons}
use Rattle.boot_base.specs.Paths.{Path}
use Rattle.boot_base.specs.declared.refusal.Refusal.{Refusal}
use Rattle.boot_base.specs.declared.temp_path.Target.{Target}
use Rattle.boot_machine.specs.Prelude.{Files, State, seen, contents}
use Rattle.std.specs.FinMap.{insert}
use Rattle.command_plans.specs.Prelude.{done_answer, IsIdleIfRefused, IsMakeable, SaysCleaned, Plans, headers_or, PlansWordError, PlansReadError, ◌>>=◌, WordErrorFor, ReadErrorFor}
use Rattle.command_plans.specs.declared.plan.Plan.{Plan as CommandPlan}
use Rattle.command_plans.specs.declared.plan.Change.TheVariants as changes
use Rattle.command_plans.specs.declared.outcome.Outcome.TheVariants as outcomes
use Rattle.command_plans.proofs.Each.{bind_ok}
use Rattle.image_writer.specs.Sourced.{IsPieced, IsSourced, new_sbat, part_list, parts_bytes, planned_image, stub_path}
use Rattle.image_writer.specs.declared.sources.Sources.{Sources}
use Rattle.image_writer.proofs.PlannedImages.{planned_image-is}
use Rattle.pe_builder.specs.declared.plan.ImageLayout.{ImageLayout}
use Rattle.pe_builder.specs.Planned.{PlansImage, planned_length, sbat_if_in_place}
use Rattle.pe_builder.specs.Refusals.{IsBuildable}
use Rattle.pe_builder.proofs.ByPlace.{by_place}
use Rattle.pe_reader.specs.Prelude.{Headers, pe_of, headers_of}
use Rattle.pe_reader.specs.declared.fault.FailedCheck.{FailedCheck}
use Rattle.tool_words.specs.declared.command.BuildWords.{BuildWords}
use Rattle.uki_parts.specs.Kinds.{append_place}
use Rattle.uki_parts.specs.declared.kind.PartKind.TheVariants as kinds
use Rattle.uki_parts.specs.Parts.{part_place}
use Rattle.uki_parts.specs.Pieces.{Reading}
use Rattle.uki_parts.specs.declared.part.Part.{Part}
use Rattle.image_build.specs.Building.{BuiltImage, build_answer, build_of, built_answer, built_line, built_text, Material, NamedFiles, contents_of, material, material_of, build_named, named_as, named_files, sbat_of}
use Rattle.pe_builder.specs.Sizes.{size_of}
use Rattle.image_build.specs.Imaged.{AreFound, AreOrdered, Images, IsCountable, IsOwnPlan, IsSized}
use Rattle.image_build.proofs.Imaged.{AreRead}
use Rattle.image_build.specs.Planning.{HasItsLength, IsPlannable, IsPlannedOn, built_as}
use Rattle.image_build.specs.declared.planned.PlannedBuild.{PlannedBuild}
use Rattle.pcr_values.specs.Prelude.{default_phase_paths, value_lines, all_banks}
use Rattle.stub_replay.specs.Measured.{stub_pcr}
use Rattle.command_plans.specs.declared.word_error.WordError.{WordError}
use Rattle.command_plans.specs.declared.word_error.WordError.TheVariants as word_errors
use Rattle.command_plans.specs.declared.read_error.ReadError.{ReadError}
use Rattle.command_plans.specs.declared.read_error.ReadError.TheVariants as read_errors
use Rattle.image_build.specs.Reads.{BuiltFrom, BuiltHasSizes, PartFrom, PartHasSizes, material_as}
use Rattle.image_build.specs.declared.build_plan.ImagePlan.{ImagePlan}
use Rattle.image_build.specs.declared.build_reads.BuildParts.{BuildParts}
use Rattle.image_build.specs.declared.source.BuildSources.{BuildSources}
use Rattle.image_build.specs.declared.source.PartSources.{PartSources}
use Rattle.image_build.proofs.Ordered.{at_most, in_order, parts_rise}

-- parts that can be counted have the lengths of their pieces
pieced : (files : Reading) (parts : List Part) → All (IsSized files) parts → sum_by (λ part. part.length) parts ≤ 2 ^ 61 → All (IsPieced files) parts
pieced files [] sized short = All-nil (IsPieced files)
pieced files (part ∷ parts) sized short =
    let here = All-head (IsSized files) part parts sized in
    let sum = sum_by-cons (λ (part : Part). part.length) part parts in
    All-cons (IsPieced files) part parts (record { sizes = here.sizes; total = omega (arith, here.total, short, sum) })
    (pieced files parts (All-tail (IsSized files) part parts sized) (omega (arith, short, sum)))

pub found_read : (view : Files) (h : Headers) (n : ℕ) (stub : Path) (parts : List Part) (linux : Part) (sbat : List ℕ) → IsCountable parts sbat
    → AreFound view h n stub parts linux → AreRead view h n stub parts linux
found_read view h n stub parts linux sbat few found = record {
  length_is = found.length_is;
  reads = found.reads;
  pieced = pieced (contents view) parts found.sized few.total;
  linux_pieced = found.linux_pieced;
}

-- what is read of the words can be planned
lengths_from : (sources : List PartSources) (parts : List Part) → AllZip PartFrom sources parts → All HasItsLength parts
lengths_from [] [] all = All-nil HasItsLength
lengths_from [] (part ∷ parts) all = absurd all
lengths_from (source ∷ sources) [] all = absurd all
lengths_from (source ∷ sources) (part ∷ parts) all = All-cons HasItsLength part parts all.0.length_is (lengths_from sources parts all.1)

pub plannable : (words : BuildWords) (found : BuildSources) (built : BuildParts) → named_files words ≡ Ok (named_as found) → BuiltFrom found built → IsPlannable built
plannable words found built is from =
    let rise = parts_rise words found built.parts.items is from.parts in
    record {
      read = from.head;
      linux = from.linux;
      order = in_order part_place built.parts.items 0 (append_place kinds.Extra) rise;
      early = at_most part_place built.parts.items 0 (append_place kinds.Extra) rise;
      lengths = lengths_from found.parts.items built.parts.items from.parts;
    }

pub ordered : (built : BuildParts) → IsPlannable built → AreOrdered built.parts.items built.linux
ordered built is = record { order = is.order; early = is.early; kind = is.linux.kind; name = is.linux.name; small = is.linux.small }

sized_of : (files : Reading) (parts : List Part) → All (PartHasSizes files) parts → All HasItsLength parts → All (IsSized files) parts
sized_of files [] sizes lengths = All-nil (IsSized files)
sized_of files (part ∷ parts) sizes lengths =
    All-cons (IsSized files) part parts (record { sizes = All-head (PartHasSizes files) part parts sizes; total = All-head HasItsLength part parts lengths })
    (sized_of files parts (All-tail (PartHasSizes files) part parts sizes) (All-tail HasItsLength part parts lengths))

pub built_found : (view : Files) (built : BuildParts) → IsPlannable built → BuiltHasSizes (contents view) built → pe_of (contents view built.stub) ≡ Ok (headers_of built.head)
    → AreFound view (headers_of built.head) built.stub_length built.stub built.parts.items built.linux
built_found view built is sizes reads = record {
  length_is = sizes.stub;
  reads = reads;
  sized = sized_of (contents view) built.parts.items sizes.parts is.lengths;
  linux_pieced = record { sizes = sizes.linux; total = sym is.linux.length_is };
}

-- the headers of the material are what the stub reads as
read_or : (read : Result Headers FailedCheck) (headers : Headers) → headers_or read ≡ Ok headers → read ≡ Ok headers
read_or (Ok found) headers is = cc
read_or (Err check) headers is = cc

pub head_read : (view : Files) (files : Reading) (named : NamedFiles) (built : BuildParts) → material_of view named ≡ Ok (material_as files built)
    → pe_of (files built.stub) ≡ Ok (headers_of built.head)
head_read view files named built is =
    let found = bind_ok (contents_of view named) material (material_as files built) is in
    let headers = bind_ok (headers_or (pe_of found.0.stub)) _ (material_as files built) found.2 in
    let same :
    (let made : Material = record
    { headers = headers.0; stub = found.0.stub; linux = found.0.linux; parts = found.0.parts; sbat = sbat_of found.0 } in made)
    ≡ material_as files built =
    cc headers.2 in
    ap (λ (m : Material). pe_of m.stub) (sym same) ∙ read_or (pe_of found.0.stub) headers.0 headers.1 ∙ ap (λ (m : Material). Ok m.headers) same

-- the image by a plan has as many bytes as the plan says
pub length-planned_image : (plan : ImageLayout) (sources : Sources) (view : Files) → IsSourced plan sources view → length (planned_image plan sources view) ≡ planned_length plan
length-planned_image plan sources view is =
    let for = is.plan_is in
    let stub = contents view (stub_path sources) in
    let sbat = sbat_if_in_place for.in_place (new_sbat sources) in
    let finished_is = planned_image-is plan sources view for.headers for.sizes for.in_place for.reads for.plans for.sbat_length in
    let buildable = subst (IsBuildable for.headers (length stub) for.sizes) (sym for.sbat_length) for.plans.buildable in
    let placed = by_place for.headers for.sizes (parts_bytes (contents view) (part_list sources)) sbat stub (record { reads = for.reads; buildable = buildable; lengths = for.lengths }) in
    ap length finished_is ∙ placed.length_is ∙ sym for.plans.image_length

-- a plan that writes it
pub written_plan : (s : State) (plan : PlannedBuild) (target : Target) (measure : Bool) (text : List ℕ) (makeable : IsMakeable (changes.Write plan.image.plan plan.image.sources target))
    → (idle : IsIdleIfRefused outcomes.Done (changes.Write plan.image.plan plan.image.sources target))
    → (says : SaysCleaned (changes.Write plan.image.plan plan.image.sources target) text) → IsSourced plan.image.plan plan.image.sources (seen s)
    → target.path ≡ plan.output → text ≡ built_text measure (built_as (seen s) plan)
    → Plans s
    (record {
      change = changes.Write plan.image.plan plan.image.sources target;
      outcome = outcomes.Done;
      text = text;
      makeable = makeable;
      idle =
          idle;
      says = says;
    })
    (built_answer (seen s) measure (Ok (built_as (seen s) plan)))
written_plan s plan target measure text makeable idle says sourced path_is text_is =
    let image = planned_image plan.image.plan plan.image.sources (seen s) in
    record {
      answer_is = ap (λ (path : Path). done_answer (insert (seen s) path image) text) path_is ∙ ap (done_answer (insert (seen s) plan.output image)) text_is;
      can_make = sourced;
    }

-- the image of a plan is meant, and its plan was made for its sources
pub image_meant_by : (view : Files) (meant : Path → Result BuiltImage Refusal) (image : ImagePlan) (output : Path) → Images view meant (Ok image)
    → meant output ≡ Ok (record { output = output; image = planned_image image.plan image.sources view })
image_meant_by view meant image output images = images.1 output

-- and of what it was made on a view
pub planned_on : (view : Files) (built : BuildParts) (image : ImagePlan) → BuiltHasSizes (contents view) built
    → pe_of (contents view built.stub) ≡ Ok (headers_of built.head) → IsOwnPlan image (headers_of built.head) built.stub_length built.stub
    → IsSourced image.plan image.sources view → IsPlannedOn view (record { image = image; head = built.head; output = built.output })
planned_on view built image sizes reads own sourced =
    let at = ap (contents view) own.stub_is in
    record {
      reads = ap pe_of at ∙ reads;
      own = record {
        in_place = own.in_place;
        plans = subst (λ (n : ℕ). PlansImage image.plan (headers_of built.head) n (map size_of (part_list image.sources)) own.in_place) (sym (ap length at ∙ sizes.stub)) own.plans;
        stub_is = refl;
        sbat_length = own.sbat_length;
      };
      sourced = sourced;
    }

-- what holds of a result holds of it in weaker words
pub ok_weaker : {X E : Type 0} {P Q : X → Type 0} (result : Result X E) → ((x : X) → P x → Q x) → IfOk result P → IfOk result Q
ok_weaker (Ok x) weaker holds = weaker x holds
ok_weaker (Err fault) weaker holds = tt

-- what the words mean is built of what they name
pub build_by_name : (view : Files) (words : BuildWords) (found : BuildSources) → named_files words ≡ Ok (named_as found) → build_of view words ≡ build_named view (named_as found)
build_by_name view words found named = ap (λ (r : Result NamedFiles Refusal). r >>= build_named view) named

-- a refusal of what is built is the answer
pub read_error_plan : (s : State) (words : BuildWords) (found : BuildSources) (why : ReadError) (plan : CommandPlan) → named_files words ≡ Ok (named_as found)
    → ReadErrorFor why (build_named (seen s) (named_as found)) → PlansReadError why plan → Plans s plan (build_answer (seen s) words)
read_error_plan s words found read_errors.Memory plan named meant plans = absurd plans
read_error_plan s words found read_errors.Disk plan named meant plans = absurd plans
read_error_plan s words found (read_errors.Refused why) plan named meant plans =
    subst (λ (r : Result BuiltImage Refusal). Plans s plan (built_answer (seen s) words.measure r)) (sym (build_by_name (seen s) words found named ∙ meant)) (plans s)

-- and so is that of the words
pub word_error_plan : (s : State) (words : BuildWords) (word_error : WordError) (plan : CommandPlan) → WordErrorFor word_error (named_files words)
    → PlansWordError word_error plan → Plans s plan (build_answer (seen s) words)
word_error_plan s words word_errors.Memory plan meant plans = absurd plans
word_error_plan s words (word_errors.Refused why) plan meant plans =
    subst (λ (r : Result BuiltImage Refusal). Plans s plan (built_answer (seen s) words.measure r)) (sym (ap (λ (r : Result NamedFiles Refusal). r >>= build_named (seen s)) meant)) (plans s)

pub word_error_as : (words : BuildWords) (word_error : WordError) (why : Refusal) (plan : CommandPlan) → named_files words ≡ Err why
    → WordErrorFor word_error (named_files words) → PlansWordError word_error plan → PlansWordError (word_errors.Refused why) plan
word_error_as words word_errors.Memory why plan is meant plans = absurd plans
word_error_as words (word_errors.Refused first) why plan is meant plans = subst (λ (r : Refusal). PlansWordError (word_errors.Refused r) plan) (cc (is, meant)) plans

-- words that name what is built are not declined
pub not_word_error : (words : BuildWords) (found : BuildSources) (why : Refusal) → named_files words ≡ Ok (named_as found) → named_files words ≡ Err why → ⊥
not_word_error words found why named is = absurd (cc (named, is))

-- what is said of a plan
pub line_said : (view : Files) (plan : PlannedBuild) (measure : Bool) (size : ℕ) (line : List ℕ) → IsSourced plan.image.plan plan.image.sources view
    → size ≡ planned_length plan.image.plan → line ≡ built_line plan.output size → measure ≡ false
    → ◌≡◌ {A = Result (List ℕ) Refusal} (Ok (built_text measure (built_as view plan))) (Ok line)
line_said view plan measure size line sourced is_size is_line none =
    let long = is_line ∙ ap (built_line plan.output) (is_size ∙ sym (length-planned_image plan.image.plan plan.image.sources view sourced)) in
    ap Ok (ap (λ (m : Bool). built_text m (built_as view plan)) none ∙ append-nil (built_line plan.output (length (planned_image plan.image.plan plan.image.sources view))) ∙ sym long)

pub values_behind : (view : Files) (plan : PlannedBuild) (measure : Bool) (size : ℕ) (line values text : List ℕ)
    → IsSourced plan.image.plan plan.image.sources view → size ≡ planned_length plan.image.plan → line ≡ built_line plan.output size
    → measure ≡ true
    → ◌≡◌ {A = Result (List ℕ) Refusal}
    (Ok (value_lines (stub_pcr (planned_image plan.image.plan plan.image.sources view)) all_banks default_phase_paths)) (Ok values)
    → text ≡ line ++ values
    → ◌≡◌ {A = Result (List ℕ) Refusal} (Ok (built_text measure (built_as view plan))) (Ok text)
values_behind view plan measure size line values text sourced is_size is_line asked said is =
    let found : value_lines (stub_pcr (planned_image plan.image.plan plan.image.sources view)) all_banks default_phase_paths ≡ values = cc said in
    let long = is_line ∙ ap (built_line plan.output) (is_size ∙ sym (length-planned_image plan.image.plan plan.image.sources view sourced)) in
    ap Ok (ap (λ (m : Bool). built_text m (built_as view plan)) asked
    ∙ ap (λ (l : List ℕ). built_line plan.output (length (planned_image plan.image.plan plan.image.sources view)) ++ l) found ∙ ap (λ (l : List ℕ). l ++ values) (sym long) ∙ sym is)

-- the plan is what the words mean
pub meant_plan : (s now : State) (words : BuildWords) (build : PlannedBuild) (plan : CommandPlan) (text : List ℕ) → now ≡ s
    → build_of (seen s) words ≡ Ok (built_as (seen s) build) → IsPlannedOn (seen s) build
    → (IsPlannedOn (seen now) build → ◌≡◌ {A = Result (List ℕ) Refusal} (Ok (built_text words.measure (built_as (seen now) build))) (Ok text))
    →
    ((t : State) (measure : Bool) → IsSourced build.image.plan build.image.sources (seen t) → text ≡ built_text measure (built_as (seen t) build)
    → Plans t plan (built_answer (seen t) measure (Ok (built_as (seen t) build))))
    → Plans s plan (build_answer (seen s) words)
meant_plan s now words build plan text same meant on said plans =
    let here : built_text words.measure (built_as (seen s) build) ≡ text =
    cc (subst (λ (t : State). IsPlannedOn (seen t) build → ◌≡◌ {A = Result (List ℕ) Refusal} (Ok (built_text words.measure (built_as (seen t) build))) (Ok text)) same said on) in
    subst (λ (r : Result BuiltImage Refusal). Plans s plan (built_answer (seen s) words.measure r)) (sym meant) (plans s words.measure on.sourced (sym here))
