-- What a stub has loaded, whose section was replaced in place.
use Rattle.std.proofs.Common.{◌≡◌, ◌≢◌, ◌<◌, ◌≤◌, ◌+◌, ◌-◌, ◌*◌, ◌⊎◌, inl, inr, ℕ, true, List, [], ◌++◌, length, take, min, replicate, Ok, refl, ap, ◌∙◌, arith, length-append, append_assoc}
use Rattle.std.proofs.lemmas.List.{drop_at, take_at, length-take-le, length-replicate, append-nil}
use Rattle.std.proofs.lemmas.Bool.{cases_lt}
use Rattle.std.proofs.lemmas.Bool.Decides.{nat_tests}
use Rattle.byteorder.specs.Endian.{little_bytes}
use Rattle.pe_reader.specs.declared.section.Section.{Section}
use Rattle.pe_reader.specs.Prelude.{part, Headers, pe_of, is_in_file, is_apart, section_at_index, no_section, loaded_by}
use Rattle.pe_reader.proofs.Tables.{AllApart, sections_of-apart, at_list_all}
use Rattle.pe_reader.proofs.Shape.{pe_of-stages, stages-shape}
use Rattle.pe_builder.proofs.Fits.{FitsSection}
use Rattle.pe_builder.specs.Puts.{put}
use Rattle.pe_builder.proofs.Putting.{length-put}
use Rattle.pe_builder.proofs.Rewriting.{part-put}
use Rattle.pe_builder.specs.Replaced.{resized_section, with_content}
use Rattle.pe_builder.proofs.Replacing.{apart_two, writing_of, TwoWritings}

turned : {A B : Type 0} → A ⊎ B → B ⊎ A
turned (inl a) = inr a
turned (inr b) = inl b

none_apart : AllApart [] no_section
none_apart = record { apart = λ i j lt inside. absurd (omega arith) }

-- what apart means for raw data that aren't empty
apart_ranges : (a b : Section) → is_apart a b ≡ true → 0 < a.raw_size → 0 < b.raw_size
    → (a.raw_place + a.raw_size ≤ b.raw_place) ⊎ (b.raw_place + b.raw_size ≤ a.raw_place)
apart_ranges a b e ha hb = grind (arith, nat_tests)

inside_range : (n header_size : ℕ) (s : Section) → is_in_file n header_size s ≡ true → (s.raw_size ≡ 0) ⊎ ((0 < s.raw_size) × (header_size ≤ s.raw_place) × (s.raw_place + s.raw_size ≤ n))
inside_range n header_size s e = grind (arith, nat_tests)

-- the front of what was written over
part-put_front : (at n : ℕ) (front back bytes : List ℕ) → at ≤ length bytes → length front ≡ n → part (put at (front ++ back) bytes) at n ≡ front
unfolding put
part-put_front at n front back bytes h l =
    ap (take n) (drop_at (take at bytes) _ at (length-take-le at bytes h))
    ∙ ap (take n) (append_assoc front back _)
    ∙ take_at front _ n l

-- the replaced section has the content loaded
pub loaded_by-replaced : (stub content : List ℕ) (h : Headers) (i : ℕ) → pe_of stub ≡ Ok h → FitsSection h i content
    → loaded_by (with_content h i content stub) (resized_section h i (length content)) ≡ content
unfolding with_content
loaded_by-replaced stub content h i e fits =
    let shape = stages-shape stub h (pe_of-stages stub h e) in
    let s = section_at_index h.sections i in
    let v = length content in
    let zeros : List ℕ = replicate (s.raw_size - v) 0 in
    let w = (writing_of stub content h i shape fits).0 in
    let room = fits.room in
    let l : length (content ++ zeros) ≡ s.raw_size = length-append content _ ∙ ap (λ (k : ℕ). v + k) (length-replicate (s.raw_size - v) 0) ∙ omega arith in
    let m : min v s.raw_size ≡ v = omega arith in
    let z : v - v ≡ 0 = omega arith in
    let l1 : length (put s.raw_place (content ++ zeros) stub) ≡ length stub = length-put s.raw_place (content ++ zeros) stub (omega (arith, w.fits)) in
    let apart = w.apart in
    let fit = w.fits in
    let inner : part (put s.raw_place (content ++ zeros) stub) s.raw_place v ≡ content = part-put_front s.raw_place v content zeros stub (omega arith) refl in
    rw (m, z) (append-nil _ ∙ part-put s.raw_place v (h.head.table_place + 40 * i + 8) (little_bytes 4 v) _ (inr (omega arith)) (omega arith) ∙ inner)

-- a section whose raw range is apart from the replaced one has the loaded bytes that it had
kept_by : (p raw n header_size : ℕ) (size fill stub : List ℕ) (s t : Section) → TwoWritings p raw n size fill stub
    → p + 4 ≤ header_size → s.raw_place ≡ raw → length fill ≡ s.raw_size → 0 < s.raw_size
    → (t.raw_size ≡ 0) ⊎ ((0 < t.raw_size) × (header_size ≤ t.raw_place) × (t.raw_place + t.raw_size ≤ n))
    → (is_apart t s ≡ true) ⊎ (is_apart s t ≡ true)
    → loaded_by (put p size (put raw fill stub)) t ≡ loaded_by stub t
kept_by p raw n header_size size fill stub s t w below place filled some (inl none) apart =
    let z : min t.virtual_size t.raw_size ≡ 0 = omega arith in
    rw z refl
kept_by p raw n header_size size fill stub s t w below place filled some (inr range) apart =
    let ranges : (t.raw_place + t.raw_size ≤ s.raw_place) ⊎ (s.raw_place + s.raw_size ≤ t.raw_place) =
    elim apart [ inl a ↦ apart_ranges t s a range.0 some | inr b ↦ turned (apart_ranges s t b some range.0) ] in
    let size_is = w.size_is in
    let r1 = range.1 in
    let first : (t.raw_place + min t.virtual_size t.raw_size ≤ p) ⊎ (p + length size ≤ t.raw_place) = inr (omega arith) in
    let second : (t.raw_place + min t.virtual_size t.raw_size ≤ raw) ⊎ (raw + length fill ≤ t.raw_place) =
    elim ranges [ inl a ↦ inl (omega arith) | inr b ↦ inr (omega arith) ] in
    ap (λ (x : List ℕ). x ++ replicate (t.virtual_size - min t.virtual_size t.raw_size) 0)
    (apart_two p raw n size fill stub t.raw_place (min t.virtual_size t.raw_size) w first second)

-- each other section has the loaded bytes that it had
pub loaded_by-others : (stub content : List ℕ) (h : Headers) (i j : ℕ) → pe_of stub ≡ Ok h → FitsSection h i content → j ≢ i → j < length h.sections
    → loaded_by (with_content h i content stub) (section_at_index h.sections j) ≡ loaded_by stub (section_at_index h.sections j)
unfolding with_content
loaded_by-others stub content h i j e fits ne inside =
    let st = pe_of-stages stub h e in
    let shape = stages-shape stub h st in
    let s = section_at_index h.sections i in
    let t = section_at_index h.sections j in
    let both = writing_of stub content h i shape fits in
    let all = sections_of-apart _ _ _ _ _ _ _ no_section st.sections_is none_apart in
    let room = shape.room in
    let count = shape.count in
    let at = fits.inside in
    let enough = fits.room in
    let some = fits.some in
    let l : length (content ++ replicate (s.raw_size - length content) 0) ≡ s.raw_size =
    length-append content _ ∙ ap (λ (k : ℕ). length content + k) (length-replicate (s.raw_size - length content) 0) ∙ omega arith in
    let apart : (is_apart t s ≡ true) ⊎ (is_apart s t ≡ true) =
    elim (cases_lt j i) [ inl a ↦ inr (all.apart j i a at) | inr b ↦ inl (all.apart i j (omega arith) inside) ] in
    kept_by _ _ _ h.head.header_size _ _ stub s t both.0 (omega arith) refl l (omega arith)
    (inside_range (length stub) h.head.header_size t (at_list_all (is_in_file (length stub) h.head.header_size) h.sections j no_section inside shape.in_file)) apart
