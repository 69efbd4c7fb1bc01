-- The chunks of an image are the image.
use Rattle.std.proofs.Common.{◌≡◌, ◌<◌, ◌≤◌, ◌+◌, ◌-◌, ◌*◌, ℕ, List, [], ◌∷◌, ◌++◌, length, replicate, refl, sym, ap, subst, ◌∙◌, arith, append_assoc, append-nil, length-append, Option, Some, None, option_map, All, flat_map}
use Rattle.std.proofs.lemmas.List.{length-replicate}
use Rattle.byteorder.specs.Endian.{little_bytes}
use Rattle.pe_reader.specs.declared.head.Head.{Head}
use Rattle.pe_reader.specs.declared.section.Section.{Section}
use Rattle.pe_reader.specs.Prelude.{Headers, is_in_file, section_at_index, no_section}
use Rattle.pe_reader.proofs.Shape.{Shape, stages-shape, pe_of-stages}
use Rattle.pe_reader.proofs.Tables.{at_list_all}
use Rattle.uki_parts.specs.declared.part.Part.{Part}
use Rattle.uki_parts.specs.Pieces.{Reading}
use Rattle.pe_builder.specs.declared.plan.ImageLayout.{ImageLayout}
use Rattle.pe_builder.specs.declared.plan.SbatPlace.{SbatPlace}
use Rattle.pe_builder.specs.declared.size.PartSize.{PartSize}
use Rattle.pe_builder.specs.Puts.{put}
use Rattle.pe_builder.specs.Layout.{head_with, new_sections, end_after}
use Rattle.pe_builder.specs.Replaced.{sbat_index, with_sbat_size}
use Rattle.pe_builder.specs.Image.{section_header, with_fields}
use Rattle.pe_builder.specs.Planned.{IsPlanFor, IsFinished, replaced_by, sbat_place, sbat_if_in_place}
use Rattle.pe_builder.proofs.Appending.{length-headers, length-sections_for}
use Rattle.pe_builder.proofs.Fits.{HasImage, FitsSbat}
use Rattle.pe_builder.proofs.Grown.{small_of}
use Rattle.pe_builder.proofs.Putting.{length-put}
use Rattle.pe_builder.specs.Known.{planned_before, planned_stub_length}
use Rattle.pe_builder.proofs.PlannedIs.{fitting, image_by-is}
use Rattle.pe_builder.proofs.Replacing.{raw_inside}
use Rattle.pe_builder.proofs.Totals.{buildable_image, buildable_sbat}
use Rattle.boot_machine.specs.Prelude.{bytes_between}
use Rattle.image_writer.specs.Chunks.{chunks_bytes, number_chunks, table_end, table_chunks, section_chunks, rest_chunks, headers_bytes, new_stub_bytes, behind_stub}
use Rattle.image_writer.specs.Sourced.{parts_bytes, IsPieced}
use Rattle.image_writer.specs.Taken.{chunks_length, kept_length}
use Rattle.image_writer.proofs.Padded.{behind-is}
use Rattle.image_writer.proofs.Rising.{Patch, puts, IsRising, drop-puts, length-puts, put-swap}

-- a header's chunks are the header
seven : (n a b c d z f : List ℕ) → n ++ (a ++ (b ++ (c ++ (d ++ (z ++ (f ++ [])))))) ≡ n ++ a ++ b ++ c ++ d ++ z ++ f
seven n a b c d z f = simp (append_assoc, append-nil)

header_is : (stub sbat : List ℕ) (s : Section) → chunks_bytes stub sbat (section_chunks s) ≡ section_header s
unfolding section_header
header_is stub sbat s =
    seven s.name (little_bytes 4 s.virtual_size) (little_bytes 4 s.virtual_address) (little_bytes 4 s.raw_size) (little_bytes 4 s.raw_place) (replicate 12 0) (little_bytes 4 s.flags)

headers_are : (stub sbat : List ℕ) (sections : List Section) → headers_bytes stub sbat sections ≡ flat_map section_header sections
headers_are stub sbat [] = refl
headers_are stub sbat (s ∷ ss) =
    ap (λ (l : List ℕ). l ++ headers_bytes stub sbat ss) (header_is stub sbat s) ∙ ap (λ (l : List ℕ). section_header s ++ l) (headers_are stub sbat ss)

-- where a replaced `.sbat` stands
abbrev SbatStands : Head → ℕ → ℕ → List ℕ → Option SbatPlace → Type 0
SbatStands before behind n sbat None = Unit {0}
SbatStands before behind n sbat (Some p) =
    (before.pe_place + 136 ≤ p.size_place) × (p.size_place + 4 ≤ table_end before) × (behind ≤ p.raw_place) × (p.raw_place + p.raw_size ≤ n)
    × (length sbat ≡ p.length) × (p.length ≤ p.raw_size)

-- all that is written over the stub stands at places that rise
record IsOrdered (before after : Head) (sections : List Section) (place : Option SbatPlace) (n : ℕ) (sbat : List ℕ) : Type 0 where
  pub fields : before.pe_place + 136 ≤ before.table_place
  pub behind : before.table_place + 40 * after.section_count ≡ table_end before + length (flat_map section_header sections)
  pub inside : before.table_place + 40 * after.section_count ≤ n
  pub replaced : SbatStands before (before.table_place + 40 * after.section_count) n sbat place

-- the bytes up to the stub's end
abbrev row_bytes : Head → Head → List Section → Option SbatPlace → ℕ → List ℕ → List ℕ → List ℕ
row_bytes before after sections place n stub sbat =
    chunks_bytes stub sbat (number_chunks before after) ++ chunks_bytes stub sbat (table_chunks before place) ++ headers_bytes stub sbat sections
    ++ chunks_bytes stub sbat (rest_chunks (before.table_place + 40 * after.section_count) n place)

-- the numbers of a head
abbrev numbers : Head → Head → List Patch → List Patch
numbers before after more =
    record { place = before.pe_place + 6; end = before.pe_place + 8; bytes = little_bytes 2 after.section_count }
    ∷ record { place = before.pe_place + 24 + 8; end = before.pe_place + 24 + 12; bytes = little_bytes 4 after.initialized_size }
    ∷ record { place = before.pe_place + 24 + 56; end = before.pe_place + 24 + 60; bytes = little_bytes 4 after.image_size }
    ∷ record { place = before.pe_place + 24 + 64; end = before.pe_place + 24 + 68; bytes = little_bytes 4 0 }
    ∷ more

join_none : (a c b i d m f z g h k : List ℕ)
    → (a ++ (c ++ (b ++ (i ++ (d ++ (m ++ (f ++ (z ++ [])))))))) ++ (g ++ []) ++ h ++ (k ++ [])
    ≡ a ++ (c ++ (b ++ (i ++ (d ++ (m ++ (f ++ (z ++ (g ++ (h ++ k)))))))))
join_none a c b i d m f z g h k = simp (append_assoc, append-nil)

join_some : (a c b i d m f z g l t h u s r k : List ℕ)
    → (a ++ (c ++ (b ++ (i ++ (d ++ (m ++ (f ++ (z ++ [])))))))) ++ (g ++ (l ++ (t ++ []))) ++ h ++ (u ++ (s ++ (r ++ (k ++ []))))
    ≡ a ++ (c ++ (b ++ (i ++ (d ++ (m ++ (f ++ (z ++ (g ++ (l ++ (t ++ (h ++ (u ++ ((s ++ r) ++ k)))))))))))))
join_some a c b i d m f z g l t h u s r k = simp (append_assoc, append-nil)

abbrev with_numbers : Head → Head → List ℕ → List ℕ
with_numbers before after bytes =
    put (before.pe_place + 6) (little_bytes 2 after.section_count) (
    put (before.pe_place + 24 + 8) (little_bytes 4 after.initialized_size) (
    put (before.pe_place + 24 + 56) (little_bytes 4 after.image_size) (
    put (before.pe_place + 24 + 64) (little_bytes 4 0) bytes)))

-- the bytes are those of the stub with all that is written over it, and as many
record IsAssembled (bytes changed stub : List ℕ) : Type 0 where
  pub is : bytes ≡ changed
  pub long : length changed ≡ length stub

row_none : (before after : Head) (sections : List Section) (stub sbat : List ℕ) → IsOrdered before after sections None (length stub) sbat
    → IsAssembled (row_bytes before after sections None (length stub) stub sbat) (with_fields before after (flat_map section_header sections) stub) stub
row_none before after sections stub sbat o =
    let headers = flat_map section_header sections in
    let behind = before.table_place + 40 * after.section_count in
    let fields = o.fields in
    let ends = o.behind in
    let inside = o.inside in
    let patches = numbers before after (record { place = table_end before; end = behind; bytes = headers } ∷ []) in
    let rising : IsRising 0 (length stub) patches =
    (omega arith, omega arith, (omega arith, omega arith, (omega arith, omega arith, (omega arith, omega arith, (omega arith, ends, inside))))) in
    record {
      is =
          ap (λ (h : List ℕ). chunks_bytes stub sbat (number_chunks before after) ++ chunks_bytes stub sbat (table_chunks before None) ++ h
          ++ chunks_bytes stub sbat (rest_chunks behind (length stub) None)) (headers_are stub sbat sections)
          ∙ join_none (bytes_between stub 0 (before.pe_place + 6)) (little_bytes 2 after.section_count)
          (bytes_between stub (before.pe_place + 8) (before.pe_place + 24 + 8)) (little_bytes 4 after.initialized_size)
          (bytes_between stub (before.pe_place + 24 + 12) (before.pe_place + 24 + 56)) (little_bytes 4 after.image_size)
          (bytes_between stub (before.pe_place + 24 + 60) (before.pe_place + 24 + 64)) (little_bytes 4 0)
          (bytes_between stub (before.pe_place + 24 + 68) (table_end before)) headers (bytes_between stub behind (length stub))
          ∙ sym (drop-puts 0 patches stub rising);
      long = length-puts 0 patches stub rising;
    }

row_some : (before after : Head) (sections : List Section) (p : SbatPlace) (stub sbat : List ℕ) → IsOrdered before after sections (Some p) (length stub) sbat
    → IsAssembled (row_bytes before after sections (Some p) (length stub) stub sbat) (with_fields before after (flat_map section_header sections) (replaced_by (Some p) sbat stub)) stub
row_some before after sections p stub sbat o =
    let headers = flat_map section_header sections in
    let behind = before.table_place + 40 * after.section_count in
    let fill = sbat ++ replicate (p.raw_size - p.length) 0 in
    let size = little_bytes 4 p.length in
    let fields = o.fields in
    let ends = o.behind in
    let inside = o.inside in
    let stands = o.replaced in
    let s0 = stands.0 in
    let s1 = stands.1 in
    let s2 = stands.2 in
    let s3 = stands.3 in
    let s4 = stands.4 in
    let s5 = stands.5 in
    let full : length fill ≡ p.raw_size =
    length-append sbat _ ∙ ap (λ (n : ℕ). length sbat + n) (length-replicate (p.raw_size - p.length) 0) ∙ omega arith in
    let raw_ends : p.raw_place + p.raw_size ≡ p.raw_place + length fill = ap (λ (n : ℕ). p.raw_place + n) (sym full) in
    let patches = numbers before after (
    record { place = p.size_place; end = p.size_place + 4; bytes = size }
    ∷ record { place = table_end before; end = behind; bytes = headers }
    ∷ record { place = p.raw_place; end = p.raw_place + p.raw_size; bytes = fill } ∷ []) in
    let rising : IsRising 0 (length stub) patches = (
      omega arith,
      omega arith,
      (
        omega arith,
        omega arith,
        (
          omega arith,
          omega arith,
          (
            omega arith,
            omega arith,
            (omega arith, refl, (s1, ends, (s2, raw_ends, s3))),
          ),
        ),
      ),
    ) in
    let long : length (put p.raw_place fill stub) ≡ length stub = length-put p.raw_place fill stub (omega (arith, raw_ends, s3)) in
    let swapped : puts patches stub ≡ with_fields before after headers (replaced_by (Some p) sbat stub) =
    ap (λ (l : List ℕ). with_numbers before after l) (sym (put-swap p.size_place (table_end before) size headers (put p.raw_place fill stub) s1 (omega (arith, long, ends, inside))))
    ∙ ap (λ (n : ℕ). with_fields before after headers (put p.size_place size (put p.raw_place (sbat ++ replicate (p.raw_size - n) 0) stub))) (sym s4) in
    record {
      is =
          ap (λ (h : List ℕ). chunks_bytes stub sbat (number_chunks before after) ++ chunks_bytes stub sbat (table_chunks before (Some p)) ++ h
          ++ chunks_bytes stub sbat (rest_chunks behind (length stub) (Some p))) (headers_are stub sbat sections)
          ∙ join_some (bytes_between stub 0 (before.pe_place + 6)) (little_bytes 2 after.section_count)
          (bytes_between stub (before.pe_place + 8) (before.pe_place + 24 + 8)) (little_bytes 4 after.initialized_size)
          (bytes_between stub (before.pe_place + 24 + 12) (before.pe_place + 24 + 56)) (little_bytes 4 after.image_size)
          (bytes_between stub (before.pe_place + 24 + 60) (before.pe_place + 24 + 64)) (little_bytes 4 0)
          (bytes_between stub (before.pe_place + 24 + 68) p.size_place) size (bytes_between stub (p.size_place + 4) (table_end before)) headers
          (bytes_between stub behind p.raw_place) sbat (replicate (p.raw_size - p.length) 0) (bytes_between stub (p.raw_place + p.raw_size) (length stub))
          ∙ sym (drop-puts 0 patches stub rising)
          ∙ swapped;
      long = ap length (sym swapped) ∙ length-puts 0 patches stub rising;
    }

assembled : (before after : Head) (sections : List Section) (place : Option SbatPlace) (stub sbat : List ℕ) → IsOrdered before after sections place (length stub) sbat
    → IsAssembled (row_bytes before after sections place (length stub) stub sbat) (with_fields before after (flat_map section_header sections) (replaced_by place sbat stub)) stub
assembled before after sections None stub sbat o = row_none before after sections stub sbat o
assembled before after sections (Some p) stub sbat o = row_some before after sections p stub sbat o

some_is : (a b : ℕ) → (let o : Option ℕ = Some a in o) ≡ Some b → a ≡ b
some_is a b e = cc

-- where the `.sbat` of a stub that is read stands
stands : (h : Headers) (stub sbat : List ℕ) (behind : ℕ) (in_place : Option ℕ) → Shape stub h → FitsSbat h in_place → option_map length (sbat_if_in_place in_place sbat) ≡ in_place
    → h.head.pe_place + 136 ≤ h.head.table_place → behind ≤ h.head.header_size → SbatStands h.head behind (length stub) sbat (sbat_place h in_place)
stands h stub sbat behind None shape fits len fields room = tt
stands h stub sbat behind (Some size) shape fits len fields room =
    let i = sbat_index h in
    let s = section_at_index h.sections i in
    let ok = at_list_all (is_in_file (length stub) h.head.header_size) h.sections i no_section fits.2 shape.in_file in
    let range = raw_inside (length stub) h.head.header_size s (omega (arith, fits.0, fits.1)) ok in
    let count = shape.count in
    let inside = fits.2 in
    (omega arith, omega arith, omega (arith, room, range.0), range.1, some_is _ _ len, fits.1)

ordered : (h : Headers) (stub sbat : List ℕ) (sizes : List PartSize) (in_place : Option ℕ) → Shape stub h → FitsSbat h in_place
    → HasImage (with_sbat_size h in_place) (length stub) sizes → option_map length (sbat_if_in_place in_place sbat) ≡ in_place
    → (let new = new_sections (with_sbat_size h in_place) (length stub) sizes in
    IsOrdered h.head (head_with (with_sbat_size h in_place) new) new (sbat_place h in_place) (length stub) sbat)
ordered h stub sbat sizes in_place shape fits has len =
    let changed = with_sbat_size h in_place in
    let new = new_sections changed (length stub) sizes in
    let count : length new ≡ length sizes = length-sections_for h.head (length stub) (end_after h.head.header_size changed.sections) sizes in
    let headers = length-headers h.head _ (length stub) (end_after h.head.header_size changed.sections) sizes (small_of stub changed sizes has) in
    let room = has.room in
    let table = shape.table_place in
    let large = shape.optional in
    let inside = shape.inside in
    let fields : h.head.pe_place + 136 ≤ h.head.table_place = omega arith in
    record {
      fields = fields;
      behind = omega (arith, headers, count);
      inside = omega (arith, count);
      replaced = stands h stub sbat _ in_place shape fits len fields (omega (arith, count));
    }

-- the chunks of a plan's image
planned : (plan : ImageLayout) (stub sbat : List ℕ) (contents : List (List ℕ)) → IsPlanFor plan stub contents sbat
    → IsAssembled (new_stub_bytes plan stub sbat) (with_fields plan.before plan.after (flat_map section_header plan.sections.items) (replaced_by plan.sbat sbat stub)) stub
planned plan stub sbat contents is =
    let h = is.headers in
    let p = is.plans in
    let changed = with_sbat_size h is.in_place in
    let new = new_sections changed (length stub) is.sizes in
    let R : Head → Head → List Section → Option SbatPlace → ℕ → Type 0 =
    λ b a s o n. IsAssembled (row_bytes b a s o n stub sbat) (with_fields b a (flat_map section_header s) (replaced_by o sbat stub)) stub in
    let all = ordered h stub sbat is.sizes is.in_place (stages-shape stub h (pe_of-stages stub h is.reads)) (buildable_sbat _ _ _ _ p.buildable)
    (buildable_image _ _ _ _ p.buildable) is.sbat_length in
    let here = assembled h.head (head_with changed new) new (sbat_place h is.in_place) stub sbat all in
    subst (λ (b : Head). R b plan.after plan.sections.items plan.sbat plan.stub_length) (sym p.before)
    (subst (λ (a : Head). R h.head a plan.sections.items plan.sbat plan.stub_length) (sym p.after)
    (subst (λ (s : List Section). R h.head (head_with changed new) s plan.sbat plan.stub_length) (sym p.sections)
    (subst (λ (o : Option SbatPlace). R h.head (head_with changed new) new o plan.stub_length) (sym p.sbat_is)
    (subst (λ (n : ℕ). R h.head (head_with changed new) new (sbat_place h is.in_place) n) (sym p.stub_length_is) here))))

-- The bytes that are appended are the finished image.
pub finished_bytes : (plan : ImageLayout) (stub sbat : List ℕ) (files : Reading) (parts : List Part) → IsPlanFor plan stub (parts_bytes files parts) sbat → All (IsPieced files) parts
    → IsFinished plan stub (parts_bytes files parts) sbat (new_stub_bytes plan stub sbat ++ behind_stub files (planned_before plan).file_alignment (planned_stub_length plan) parts)
finished_bytes plan stub sbat files parts is pieced = λ h sizes in_place reads plans len.
    let contents = parts_bytes files parts in
    let unit = plan.before.file_alignment in
    let fits = fitting plan stub sbat contents is in
    let front = planned plan stub sbat contents is in
    let changed = with_fields plan.before plan.after (flat_map section_header plan.sections.items) (replaced_by plan.sbat sbat stub) in
    ap (λ (l : List ℕ). l ++ behind_stub files unit plan.stub_length parts) front.is
    ∙ sym (behind-is files unit plan.stub_length parts changed fits.alignment pieced (is.plans.stub_length_is ∙ sym front.long))
    ∙ image_by-is plan h sizes contents in_place sbat stub reads plans len

-- raw data are aligned
pub aligned : (plan : ImageLayout) (stub sbat : List ℕ) (contents : List (List ℕ)) → IsPlanFor plan stub contents sbat → 0 < (planned_before plan).file_alignment
aligned plan stub sbat contents is = (fitting plan stub sbat contents is).alignment

-- What a plan was made for has one finished image.
pub one_image : (plan : ImageLayout) (stub sbat : List ℕ) (contents : List (List ℕ)) (a b : List ℕ) → IsPlanFor plan stub contents sbat
    → IsFinished plan stub contents sbat a → IsFinished plan stub contents sbat b → a ≡ b
one_image plan stub sbat contents a b is first second =
    first is.headers is.sizes is.in_place is.reads is.plans is.sbat_length ∙ sym (second is.headers is.sizes is.in_place is.reads is.plans is.sbat_length)

-- how many of the stub's bytes stand in a row up to the stub's end
abbrev row_length : Head → Head → Option SbatPlace → ℕ → ℕ
row_length before after place n =
    chunks_length (number_chunks before after)
    + (chunks_length (table_chunks before place) + chunks_length (rest_chunks (before.table_place + 40 * after.section_count) n place))

row_within : (before after : Head) (sections : List Section) (place : Option SbatPlace) (n : ℕ) (sbat : List ℕ) → IsOrdered before after sections place n sbat → row_length before after place n ≤ n
row_within before after sections None n sbat o = omega (arith, o.fields, o.behind, o.inside)
row_within before after sections (Some p) n sbat o =
    let stands = o.replaced in
    omega (arith, o.fields, o.behind, o.inside, stands.0, stands.1, stands.2, stands.3)

-- No byte of the stub is read twice.
pub kept_within : (plan : ImageLayout) (stub sbat : List ℕ) (contents : List (List ℕ)) → IsPlanFor plan stub contents sbat → kept_length plan ≤ planned_stub_length plan
kept_within plan stub sbat contents is =
    let h = is.headers in
    let p = is.plans in
    let changed = with_sbat_size h is.in_place in
    let new = new_sections changed (length stub) is.sizes in
    let R : Head → Head → Option SbatPlace → ℕ → Type 0 = λ b a o n. row_length b a o n ≤ n in
    let all = ordered h stub sbat is.sizes is.in_place (stages-shape stub h (pe_of-stages stub h is.reads)) (buildable_sbat _ _ _ _ p.buildable)
    (buildable_image _ _ _ _ p.buildable) is.sbat_length in
    let here = row_within h.head (head_with changed new) new (sbat_place h is.in_place) (length stub) sbat all in
    subst (λ (b : Head). R b plan.after plan.sbat plan.stub_length) (sym p.before)
    (subst (λ (a : Head). R h.head a plan.sbat plan.stub_length) (sym p.after)
    (subst (λ (o : Option SbatPlace). R h.head (head_with changed new) o plan.stub_length) (sym p.sbat_is)
    (subst (λ (n : ℕ). R h.head (head_with changed new) (sbat_place h is.in_place) n) (sym p.stub_length_is) here)))

-- What stands in the place of the stub has as many bytes.
pub stub_kept : (plan : ImageLayout) (stub sbat : List ℕ) (contents : List (List ℕ)) → IsPlanFor plan stub contents sbat → length (new_stub_bytes plan stub sbat) ≡ planned_stub_length plan
stub_kept plan stub sbat contents is =
    let front = planned plan stub sbat contents is in
    ap length front.is ∙ front.long ∙ sym is.plans.stub_length_is
