-- What the sections of a planned image are going to hold.
use Rattle.std.proofs.Common.{Result, ◌≡◌, ◌<◌, ◌+◌, ℕ, Bool, true, false, cond, List, [], ◌∷◌, ◌++◌, Option, Some, None, Ok, Bor, length, map, take, position, refl, sym, ap, subst, ◌∙◌, find, flat_map, option_map, All, bytes_eq, is_some, sum_by}
use Rattle.std.proofs.lemmas.List.Elements.{All-head, All-tail}
use Rattle.boot_base.specs.Paths.{Path}
use Rattle.boot_base.specs.declared.refusal.Refusal.{Refusal}
use Rattle.boot_machine.specs.Prelude.{Files, contents}
use Rattle.pcr_values.specs.Prelude.{value_lines, default_phase_paths, all_banks, fold_of, fold_pcr, pcr_value}
use Rattle.command_plans.proofs.Registers.{AreSaid}
use Rattle.pcr_values.specs.declared.pcr.Pcr.{Pcr}
use Rattle.pcr_values.specs.declared.bank.Bank.{Bank}
use Rattle.stub_replay.specs.Parts.{content_or, given_part, items_of, named_bytes}
use Rattle.stub_replay.specs.declared.measurable.Content.{Content}
use Rattle.stub_replay.proofs.Pushed.{items_pushed}
use Rattle.stub_replay.proofs.Turns.{IsName, items_more}
use Rattle.stub_replay.specs.declared.measurable.Measurable.{Measurable}
use Rattle.image_writer.specs.Sourced.{IsPieced, new_sbat, part_list, parts_bytes, planned_image}
use Rattle.image_writer.proofs.PlannedImages.{planned_image-is}
use Rattle.stub_replay.specs.declared.measurable.Content.TheVariants as content
use Rattle.pe_builder.specs.Image.{finished_image}
use Rattle.pe_builder.specs.Laws.{HasFinished}
use Rattle.pe_builder.specs.Planned.{sbat_if_in_place, sbat_place}
use Rattle.pe_builder.specs.Refusals.{IsBuildable}
use Rattle.pe_builder.specs.Replaced.{sbat_name}
use Rattle.pe_builder.specs.declared.plan.SbatPlace.{SbatPlace}
use Rattle.pe_reader.specs.Prelude.{Headers, pe_of, is_named, loaded_bytes, range_of, section_at_index, headers_of}
use Rattle.pe_reader.specs.declared.section.LoadedRange.{LoadedRange}
use Rattle.pe_reader.proofs.Finding.{loaded_bytes-none}
use Rattle.stub_replay.specs.Laws.{find_content, kept_of, or_kept}
use Rattle.stub_replay.specs.Measured.{measured_by, measured_length, measured_list, measured_names, section_items, stub_pcr}
use Rattle.stub_replay.proofs.Predicting.{image_shows, same_items}
use Rattle.stub_replay.proofs.Ranges.{found_range}
use Rattle.uki_parts.specs.Names.{name_bytes}
use Rattle.uki_parts.specs.Pieces.{Reading, HasSizes, bytes_of}
use Rattle.uki_parts.specs.declared.part.Part.{Part}
use Rattle.uki_parts.specs.declared.piece.Piece.{Piece}
use Rattle.pe_builder.specs.Sizes.{size_of}
use Rattle.image_build.specs.Planning.{IsContent, IsPlannedOn, kept_bytes, section_bytes, stub_bytes}
use Rattle.image_build.specs.declared.planned.PlannedBuild.{PlannedBuild}
use Rattle.image_build.proofs.Imaged.{lengths_read}
use Rattle.image_build.proofs.Taken.{same_lengths}

-- what the stub has of a name
pub stub_none : (files : Reading) (stub : Path) (name : List ℕ) (h : Headers) → pe_of (files stub) ≡ Ok h → position (is_named name) h.sections ≡ None
    → IsContent files None (loaded_bytes (files stub) name)
stub_none files stub name h reads at = record { bytes_are = sym (loaded_bytes-none (files stub) name h reads at); whole = tt }

pub stub_some : (files : Reading) (stub : Bor Path) (name : List ℕ) (h : Headers) (i : ℕ) (r : LoadedRange) → pe_of (files stub.now) ≡ Ok h
    → position (is_named name) h.sections ≡ Some i → i < length h.sections
    → r ≡ range_of (section_at_index h.sections i) → IsContent files (Some (content.Loaded stub r)) (loaded_bytes (files stub.now) name)
stub_some files stub name h i r reads at inside is =
    let range = found_range (files stub.now) name h i r reads at inside is in
    record { bytes_are = sym range.bytes; whole = range.inside }

-- what is kept where no part has the name
no_place : (h : Headers) (place : Option SbatPlace) (in_place : Option ℕ) → place ≡ sbat_place h in_place → is_some place ≡ false → in_place ≡ None
no_place h place None is none = refl
no_place h place (Some size) is none = absurd (false≢true (sym none ∙ ap is_some is))
  where
    false≢true : false ≡ true → ⊥
    false≢true e = cc

kept_without : (in_place : Option ℕ) (sbat stub name : List ℕ) → in_place ≡ None → loaded_bytes stub name ≡ kept_of (sbat_if_in_place in_place sbat) stub name
kept_without None sbat stub name is = refl
kept_without (Some size) sbat stub name is = cc

kept_beside : (in_place : Option ℕ) (sbat stub name : List ℕ) → bytes_eq sbat_name name ≡ false → loaded_bytes stub name ≡ kept_of (sbat_if_in_place in_place sbat) stub name
kept_beside None sbat stub name other = refl
kept_beside (Some size) sbat stub name other = sym (ap (λ (b : Bool). cond b sbat (loaded_bytes stub name)) other)

pub kept_not_placed : (view : Files) (plan : PlannedBuild) (on : IsPlannedOn view plan) (name : List ℕ) → is_some plan.image.plan.sbat ≡ false
    → loaded_bytes (stub_bytes view plan) name ≡ kept_bytes view plan on.own.in_place name
kept_not_placed view plan on name none =
    kept_without on.own.in_place (new_sbat plan.image.sources) (stub_bytes view plan) name (no_place (headers_of plan.head) plan.image.plan.sbat on.own.in_place on.own.plans.sbat_is none)

pub kept_not_named : (view : Files) (plan : PlannedBuild) (on : IsPlannedOn view plan) (name : List ℕ) → bytes_eq sbat_name name ≡ false
    → loaded_bytes (stub_bytes view plan) name ≡ kept_bytes view plan on.own.in_place name
kept_not_named view plan on name other = kept_beside on.own.in_place (new_sbat plan.image.sources) (stub_bytes view plan) name other

-- the first part of a name
abbrev has_name : List ℕ → Part → Bool
has_name name part = bytes_eq (name_bytes part.name) name

part_found : (files : Reading) (name : List ℕ) (parts : List Part)
    → find_content name (map size_of parts) (parts_bytes files parts) ≡ option_map (λ part. bytes_of files part.pieces.items)
    (find (has_name name) parts)
unfolding find_content
part_found files name [] = refl
part_found files name (part ∷ parts) = by_test (has_name name part) (part_found files name parts)
  where
    by_test : (is : Bool) → find_content name (map size_of parts) (parts_bytes files parts) ≡ option_map (λ part. bytes_of files part.pieces.items) (find (has_name name) parts)
        → cond is (Some (bytes_of files part.pieces.items)) (find_content name (map size_of parts) (parts_bytes files parts)) ≡ option_map
        (λ part. bytes_of files part.pieces.items) (cond is (Some part) (find (has_name name) parts))
    by_test true rest = refl
    by_test false rest = rest

found_all : {X : Type 0} (P : X → Type 0) (test : X → Bool) (xs : List X) (x : X) → All P xs → find test xs ≡ Some x → P x
found_all P test [] x all is = cc
found_all P test (y ∷ ys) x all is = by_test (test y) (found_all P test ys x (All-tail P y ys all)) is
  where
    by_test : (b : Bool) → (find test ys ≡ Some x → P x) → cond b (Some y) (find test ys) ≡ Some x → P x
    by_test true rest same = (let one : y ≡ x = cc same in subst P one (All-head P y ys all))
    by_test false rest same = rest same

pub section_found : (view : Files) (plan : PlannedBuild) (on : IsPlannedOn view plan) (name : List ℕ) (part : Part) (pieces : Bor (List Piece))
    → find (has_name name) (part_list plan.image.sources) ≡ Some part → pieces.now ≡ part.pieces.items
    → IsContent (contents view) (Some (content.Pieces pieces)) (section_bytes view plan on.own.in_place name)
section_found view plan on name part pieces is are =
    let files = contents view in
    let parts = part_list plan.image.sources in
    let pieced = found_all (IsPieced files) (has_name name) parts part on.sourced.pieced is in
    record {
      bytes_are =
          ap (bytes_of files) are
          ∙ sym (ap (λ (o : Option (List ℕ)). or_kept o (kept_bytes view plan on.own.in_place name)) (part_found files name parts ∙ ap (option_map (λ (p : Part). bytes_of files p.pieces.items)) is));
      whole = subst (HasSizes files) (sym are) pieced.sizes;
    }

pub section_kept : (view : Files) (plan : PlannedBuild) (on : IsPlannedOn view plan) (name : List ℕ)
    → find (has_name name) (part_list plan.image.sources) ≡ None
    → kept_bytes view plan on.own.in_place name ≡ section_bytes view plan on.own.in_place name
section_kept view plan on name is =
    let files = contents view in
    sym
    (ap (λ (o : Option (List ℕ)). or_kept o (kept_bytes view plan on.own.in_place name))
    (part_found files name (part_list plan.image.sources) ∙ ap (option_map (λ (p : Part). bytes_of files p.pieces.items)) is))

-- one section more is measured
pub section_more : (files : Reading) (bytes : List ℕ → List ℕ) (i : ℕ) (parts more : List Measurable) (name : Bor (List ℕ)) (part : Option Content) → more ≡ parts ++ given_part name part
    → items_of (map (named_bytes files) parts) ≡ flat_map (λ n. section_items n (bytes n)) (take i measured_names) → content_or files part ≡ bytes name.now → IsName i name.now
    → items_of (map (named_bytes files) more) ≡ flat_map (λ n. section_items n (bytes n)) (take (i + 1) measured_names)
section_more files bytes i parts more name part is before holds at =
    ap (λ (l : List Measurable). items_of (map (named_bytes files) l)) is
    ∙ items_pushed files parts name part
    ∙ ap (λ (l : List (List ℕ)). l ++ section_items name.now (content_or files part)) before
    ∙ ap (λ (b : List ℕ). flat_map (λ n. section_items n (bytes n)) (take i measured_names) ++ section_items name.now b) holds
    ∙ items_more (λ n. section_items n (bytes n)) i name.now at

-- and all of them are what a stub measures of the image
has_finished : (view : Files) (plan : PlannedBuild) (on : IsPlannedOn view plan)
    → HasFinished (headers_of plan.head) (map size_of (part_list plan.image.sources)) (parts_bytes (contents view) (part_list plan.image.sources))
    (sbat_if_in_place on.own.in_place (new_sbat plan.image.sources)) (stub_bytes view plan)
has_finished view plan on = record {
  reads = on.reads;
  buildable = subst (IsBuildable (headers_of plan.head) (length (stub_bytes view plan)) (map size_of (part_list plan.image.sources))) (sym on.own.sbat_length) on.own.plans.buildable;
  lengths = lengths_read (contents view) (part_list plan.image.sources) on.sourced.pieced;
}

pub image_items : (view : Files) (plan : PlannedBuild) (on : IsPlannedOn view plan)
    → flat_map (λ name. section_items name (section_bytes view plan on.own.in_place name)) measured_names ≡ measured_list (planned_image plan.image.plan plan.image.sources view)
unfolding measured_by
image_items view plan on =
    let h = headers_of plan.head in
    let sizes = map size_of (part_list plan.image.sources) in
    let bytes = parts_bytes (contents view) (part_list plan.image.sources) in
    let sbat = sbat_if_in_place on.own.in_place (new_sbat plan.image.sources) in
    let stub = stub_bytes view plan in
    let shows = image_shows h sizes bytes sbat stub (has_finished view plan on) in
    let image_is = planned_image-is plan.image.plan plan.image.sources view h sizes on.own.in_place on.reads on.own.plans on.own.sbat_length in
    sym (same_items (loaded_bytes (finished_image h sizes bytes sbat stub)) (section_bytes view plan on.own.in_place) measured_names shows.same)
    ∙ ap (λ (image : List ℕ). measured_list image) (sym image_is)

-- their bytes are as many as its measured sections have loaded
pub image_long : (view : Files) (plan : PlannedBuild) (on : IsPlannedOn view plan)
    → sum_by (λ name. length (section_bytes view plan on.own.in_place name)) measured_names ≡ measured_length (planned_image plan.image.plan plan.image.sources view)
unfolding measured_length
image_long view plan on =
    let h = headers_of plan.head in
    let sizes = map size_of (part_list plan.image.sources) in
    let bytes = parts_bytes (contents view) (part_list plan.image.sources) in
    let sbat = sbat_if_in_place on.own.in_place (new_sbat plan.image.sources) in
    let stub = stub_bytes view plan in
    let shows = image_shows h sizes bytes sbat stub (has_finished view plan on) in
    let image_is = planned_image-is plan.image.plan plan.image.sources view h sizes on.own.in_place on.reads on.own.plans on.own.sbat_length in
    same_lengths (loaded_bytes (finished_image h sizes bytes sbat stub)) (section_bytes view plan on.own.in_place) measured_names shows.same
    ∙ ap (λ (image : List ℕ). sum_by (λ name. length (loaded_bytes image name)) measured_names) (sym image_is)

-- the registers after them
pub registers_are : (files : Reading) (parts seen_parts : List Measurable) (items : List (List ℕ)) (banks : List Bank) (starts : List (Bank × List ℕ)) → seen_parts ≡ parts
    → items_of (map (named_bytes files) parts) ≡ items → starts ≡ map (fold_pcr (items_of (map (named_bytes files) seen_parts))) banks → AreSaid (map (fold_pcr items) banks) starts
registers_are files parts seen_parts items banks starts are_parts are_items is =
    ap Ok (sym (is ∙ ap (λ (ps : List Measurable). map (fold_pcr (items_of (map (named_bytes files) ps))) banks) are_parts ∙ ap (λ (l : List (List ℕ)). map (fold_pcr l) banks) are_items))

-- and the lines of all of them
pub values_said : (image : List ℕ) (starts : List Pcr) (banks : List Bank) (paths : List (List (List ℕ))) (text : List ℕ) → AreSaid (map (fold_pcr (measured_list image)) banks) (map pcr_value starts)
    → banks ≡ all_banks → paths ≡ default_phase_paths
    →
    ((items : Bank → List (List ℕ)) (bs : List Bank) → map pcr_value starts ≡ map (λ (bank : Bank). fold_pcr (items bank) bank) bs → text ≡
    value_lines (λ bank path. fold_of bank (items bank ++ path)) bs paths)
    → ◌≡◌ {A = Result (List ℕ) Refusal} (Ok (value_lines (stub_pcr image) all_banks default_phase_paths)) (Ok text)
values_said image starts banks paths text are_starts are_banks are_paths is =
    let found : map (fold_pcr (measured_list image)) banks ≡ map pcr_value starts = cc are_starts in
    ap Ok (sym (is (λ bank. measured_list image) banks (sym found)
    ∙ ap (λ (bs : List Bank). value_lines (stub_pcr image) bs paths) are_banks
    ∙ ap (value_lines (stub_pcr image) all_banks) are_paths))
