-- A plan that was made is that of the image.
use Rattle.std.proofs.Common.{◌≡◌, ◌<◌, ◌≤◌, ◌+◌, ◌-◌, ◌*◌, ℕ, List, ◌++◌, length, replicate, Ok, refl, sym, ap, subst, ◌∙◌, arith, length-append, Option, Some, None, option_map, Result, Err, IfOk}
use Rattle.std.specs.List.{AllByRecursion, flat_map}
use Rattle.std.specs.Int.{next_multiple_of}
use Rattle.std.proofs.lemmas.List.{length-replicate}
use Rattle.byteorder.specs.Endian.{little_bytes}
use Rattle.pe_reader.specs.declared.head.Head.{Head}
use Rattle.pe_reader.specs.declared.section.Section.{Section}
use Rattle.pe_reader.specs.Prelude.{Headers, pe_of, is_in_file, section_at_index, no_section}
use Rattle.pe_reader.proofs.Shape.{Shape, stages-shape, pe_of-stages}
use Rattle.pe_reader.proofs.Tables.{at_list_all}
use Rattle.pe_builder.proofs.Fits.{FitsSbat}
use Rattle.pe_builder.proofs.Units.{file_unit}
use Rattle.pe_builder.specs.declared.size.PartSize.{PartSize}
use Rattle.pe_builder.specs.declared.plan.ImageLayout.{ImageLayout}
use Rattle.pe_builder.specs.declared.plan.SbatPlace.{SbatPlace}
use Rattle.pe_builder.specs.Puts.{put}
use Rattle.pe_builder.specs.Layout.{end_after, sections_for, head_with, new_sections, length_after, FitsPart}
use Rattle.pe_builder.specs.Replaced.{sbat_index, with_sbat_size, with_content, MayReplace}
use Rattle.pe_builder.specs.Refusals.{first_refusal, sbat_room}
use Rattle.pe_builder.specs.Image.{section_header, with_fields, with_headers, with_raw, image_with_parts, finished_image}
use Rattle.pe_builder.specs.Planned.{PlansImage, FitsStub, FitsPlace, IsPlanFor, image_by, replaced_by, sbat_if_in_place, head_after, sbat_place}
use Rattle.pe_builder.proofs.Appending.{end_after-append, length-sections_for}
use Rattle.pe_builder.proofs.Putting.{length-put}
use Rattle.pe_builder.proofs.Replacing.{raw_inside}
use Rattle.pe_builder.proofs.Totals.{end_after-sections_for, sum-sections_for, buildable_image, buildable_sbat}

-- what follows of the value of a result
pub if_ok_more : {T E : Type 0} → (r : Result T E) (P Q : T → Type 0) → ((x : T) → P x → Q x) → IfOk r P → IfOk r Q
if_ok_more (Ok x) P Q f h = f x h
if_ok_more (Err e) P Q f h = tt

some_is : (a b : ℕ) → (let o : Option ℕ = Some a in o) ≡ Some b → a ≡ b
some_is a b e = cc

same_head : (h : Head) (a a' b b' c c' : ℕ) → a ≡ a' → b ≡ b' → c ≡ c'
    → (let x : Head = record h { section_count = a; initialized_size = b; image_size = c } in x) ≡ record h { section_count = a'; initialized_size = b'; image_size = c' }
same_head h a a' b b' c c' e1 e2 e3 = cc

pub head_after-is : (h : Headers) (n : ℕ) (parts : List PartSize) → head_after h.head (end_after h.head.header_size h.sections) parts ≡ head_with h (new_sections h n parts)
head_after-is h n parts =
    let a = end_after h.head.header_size h.sections in
    let new = new_sections h n parts in
    same_head h.head _ _ _ _ _ _
    (ap (λ (k : ℕ). h.head.section_count + k) (sym (length-sections_for h.head n a parts)))
    (ap (λ (k : ℕ). h.head.initialized_size + k) (sym (sum-sections_for h.head n a parts)))
    (ap (λ (k : ℕ). next_multiple_of k h.head.section_alignment) (sym (end_after-append h.head.header_size h.sections new ∙ end_after-sections_for h.head n a parts)))

pub plans : (plan : ImageLayout) (h : Headers) (n start : ℕ) (parts : List PartSize) (sbat : Option ℕ)
    → start ≡ end_after h.head.header_size (with_sbat_size h sbat).sections
    → plan.stub_length ≡ n → plan.before ≡ h.head → plan.sections.items ≡ sections_for h.head n start parts → plan.after ≡ head_after h.head start parts
    → plan.sbat ≡ sbat_place h sbat → plan.image_length ≡ length_after h.head n parts
    → AllByRecursion FitsPart parts → MayReplace h sbat → first_refusal h n parts sbat ≡ None → PlansImage plan h n parts sbat
plans plan h n start parts sbat at stub before sections after place total fit may none = record {
  stub_length_is = stub;
  before = before;
  sections = sections ∙ ap (λ (k : ℕ). sections_for h.head n k parts) at;
  after = after ∙ ap (λ (k : ℕ). head_after h.head k parts) at ∙ head_after-is (with_sbat_size h sbat) n parts;
  sbat_is = place;
  image_length = total;
  buildable = record { fit = fit; may_replace = may; not_refused = none };
}

-- what a plan makes of headers with resized sections and of a stub that is changed accordingly
image_by_of : (plan : ImageLayout) (h : Headers) (sizes : List PartSize) (contents : List (List ℕ)) (sbat stub changed : List ℕ) (n : ℕ)
    → plan.before ≡ h.head → plan.after ≡ head_with h (new_sections h n sizes) → plan.sections.items ≡ new_sections h n sizes
    → replaced_by plan.sbat sbat stub ≡ changed → n ≡ length changed
    → image_by plan contents sbat stub ≡ image_with_parts h sizes contents changed
unfolding with_headers
image_by_of plan h sizes contents sbat stub changed n before after sections replaced len =
    ap (λ (b : Head). with_raw b.file_alignment (with_fields b plan.after (flat_map section_header plan.sections.items) (replaced_by plan.sbat sbat stub)) contents) before
    ∙ ap (λ (a : Head). with_raw h.head.file_alignment (with_fields h.head a (flat_map section_header plan.sections.items) (replaced_by plan.sbat sbat stub)) contents) after
    ∙ ap (λ (s : List Section). with_raw h.head.file_alignment
    (with_fields h.head (head_with h (new_sections h n sizes)) (flat_map section_header s) (replaced_by plan.sbat sbat stub)) contents) sections
    ∙ ap (λ (l : List ℕ). with_raw h.head.file_alignment (with_fields h.head (head_with h (new_sections h n sizes)) (flat_map section_header (new_sections h n sizes)) l) contents) replaced
    ∙ ap (λ (k : ℕ). with_raw h.head.file_alignment (with_fields h.head (head_with h (new_sections h k sizes)) (flat_map section_header (new_sections h k sizes)) changed) contents) len

-- where the replaced section stands
pub record Stands (h : Headers) (n size : ℕ) : Type 0 where
  pub room : size ≤ sbat_room h
  pub raw : (section_at_index h.sections (sbat_index h)).raw_place + sbat_room h ≤ n
  pub header : h.head.table_place + 40 * sbat_index h + 8 + 4 ≤ n

pub stands : (h : Headers) (stub : List ℕ) (size : ℕ) → Shape stub h → FitsSbat h (Some size) → Stands h (length stub) size
stands h stub size shape fits =
    let s = section_at_index h.sections (sbat_index h) in
    let ok = at_list_all (is_in_file (length stub) h.head.header_size) h.sections (sbat_index h) no_section fits.2 shape.in_file in
    let range = raw_inside (length stub) h.head.header_size s (omega (arith, fits.0, fits.1)) ok in
    let at = fits.2 in
    let count = shape.count in
    let room = shape.room in
    let inside = shape.inside in
    record { room = fits.1; raw = range.1; header = omega arith }

-- the length of a stub whose `.sbat` was replaced
length_replaced : (place raw n : ℕ) (field fill stub : List ℕ) → length stub ≡ n → length field ≡ 4 → place + 4 ≤ n → raw + length fill ≤ n
    → length (put place field (put raw fill stub)) ≡ n
length_replaced place raw n field fill stub l f a b =
    let l1 : length (put raw fill stub) ≡ n = length-put raw fill stub (omega arith) ∙ l in
    length-put place field (put raw fill stub) (omega arith) ∙ l1

pub length-with_content : (h : Headers) (sbat stub : List ℕ) → Stands h (length stub) (length sbat)
    → length (with_content h (sbat_index h) sbat stub) ≡ length stub
unfolding with_content
length-with_content h sbat stub s =
    let room = s.room in
    let raw = s.raw in
    let header = s.header in
    let l : length (sbat ++ replicate (sbat_room h - length sbat) 0) ≡ sbat_room h =
    length-append sbat _ ∙ ap (λ (k : ℕ). length sbat + k) (length-replicate (sbat_room h - length sbat) 0) ∙ omega arith in
    length_replaced _ _ (length stub) (little_bytes 4 (length sbat)) _ stub refl refl (omega arith) (omega (arith, l))

-- what a plan makes is the finished image
pub image_by-is : (plan : ImageLayout) (h : Headers) (sizes : List PartSize) (contents : List (List ℕ)) (in_place : Option ℕ) (sbat stub : List ℕ)
    → pe_of stub ≡ Ok h → PlansImage plan h (length stub) sizes in_place → option_map length (sbat_if_in_place in_place sbat) ≡ in_place
    → image_by plan contents sbat stub ≡ finished_image h sizes contents (sbat_if_in_place in_place sbat) stub
unfolding with_content
image_by-is plan h sizes contents None sbat stub e p g =
    let R : Option SbatPlace → Type 0 = λ o. replaced_by o sbat stub ≡ stub in
    image_by_of plan h sizes contents sbat stub stub (length stub) p.before p.after p.sections (subst R (sym p.sbat_is) refl) refl
image_by-is plan h sizes contents (Some size) sbat stub e p g =
    let same : length sbat ≡ size = some_is _ _ g in
    let S : ℕ → Type 0 = λ k. PlansImage plan h (length stub) sizes (Some k) in
    let q = subst S (sym same) p in
    let changed = with_content h (sbat_index h) sbat stub in
    let R : Option SbatPlace → Type 0 = λ o. replaced_by o sbat stub ≡ changed in
    let st = stands h stub (length sbat) (stages-shape stub h (pe_of-stages stub h e)) (buildable_sbat _ _ _ _ q.buildable) in
    image_by_of plan (with_sbat_size h (Some (length sbat))) sizes contents sbat stub changed (length stub) q.before q.after q.sections
    (subst R (sym q.sbat_is) refl) (sym (length-with_content h sbat stub st))

-- what a plan writes fits the stub
fits_place : (h : Headers) (stub sbat : List ℕ) (in_place : Option ℕ) → Shape stub h → FitsSbat h in_place → option_map length (sbat_if_in_place in_place sbat) ≡ in_place
    → FitsPlace (sbat_place h in_place) (length stub) (length sbat)
fits_place h stub sbat None shape fits g = tt
fits_place h stub sbat (Some size) shape fits g =
    let same : length sbat ≡ size = some_is _ _ g in
    let s = stands h stub size shape fits in
    (omega (arith, s.room), s.raw, s.header)

pub fitting : (plan : ImageLayout) (stub sbat : List ℕ) (contents : List (List ℕ)) → IsPlanFor plan stub contents sbat → FitsStub plan (length stub) (length sbat)
fitting plan stub sbat contents is =
    let h = is.headers in
    let p = is.plans in
    let shape = stages-shape stub h (pe_of-stages stub h is.reads) in
    let F : Head → Type 0 = λ b. (0 < b.file_alignment) × (b.pe_place + 136 ≤ b.table_place) × (b.table_place + 40 * (b.section_count + length plan.sections.items) ≤ length stub) in
    let k : length plan.sections.items ≡ length is.sizes = ap length p.sections ∙ length-sections_for h.head (length stub) _ is.sizes in
    let room = (buildable_image _ _ _ _ p.buildable).room in
    let inside = shape.inside in
    let table = shape.table_place in
    let large = shape.optional in
    let unit = file_unit stub h is.reads in
    let here : F h.head = (unit, omega arith, omega arith) in
    let all : F plan.before = subst F (sym p.before) here in
    let O : Option SbatPlace → Type 0 = λ o. FitsPlace o (length stub) (length sbat) in
    record {
      alignment = all.0;
      before = all.1;
      table = all.2;
      sbat = subst O (sym p.sbat_is) (fits_place h stub sbat is.in_place shape (buildable_sbat _ _ _ _ p.buildable) is.sbat_length);
    }
