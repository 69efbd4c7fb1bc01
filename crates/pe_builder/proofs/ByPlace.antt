-- The finished image, place by place.
use Rattle.std.proofs.Common.{◌≡◌, ◌<◌, ◌≤◌, ◌+◌, ◌-◌, ◌*◌, inl, inr, ℕ, true, false, nat_lt, List, [], ◌∷◌, ◌++◌, length, map, replicate, get_or, refl, sym, ap, subst, ◌∙◌, arith, length-append, Option, Some, None, option_map, if◌then◌else◌}
use Rattle.std.specs.Int.{next_multiple_of}
use Rattle.std.specs.List.{AllByRecursion, flat_map}
use Rattle.std.proofs.lemmas.Bool.{cases_lt}
use Rattle.std.proofs.lemmas.Bool.Decides.{nat_tests}
use Rattle.std.proofs.lemmas.List.{get_or_append_left, get_or-append_right, get_or-replicate, get_or_past, length-replicate}
use Rattle.pe_reader.specs.declared.head.Head.{Head}
use Rattle.pe_reader.specs.declared.section.Section.{Section}
use Rattle.pe_reader.specs.Prelude.{Headers}
use Rattle.pe_reader.proofs.Shape.{Shape, stages-shape, pe_of-stages}
use Rattle.pe_builder.proofs.Fits.{FitsSbat, HasImage}
use Rattle.pe_builder.specs.declared.size.PartSize.{PartSize}
use Rattle.pe_builder.specs.Puts.{put, pad_to}
use Rattle.pe_builder.specs.Layout.{virtual_end, raw_end, end_after, section_for, sections_for, length_after, new_sections, head_with}
use Rattle.pe_builder.specs.Replaced.{sbat_index, with_sbat_size, with_content, with_sbat}
use Rattle.pe_builder.specs.Refusals.{sbat_room}
use Rattle.pe_builder.specs.Image.{section_header, with_headers, with_raw, finished_image}
use Rattle.pe_builder.specs.Bytes.{Range, covers, byte_of, raw_data, rewritten_fields, rewritten_sbat}
use Rattle.pe_builder.specs.Laws.{HasFinished, IsByPlace}
use Rattle.pe_builder.proofs.Appending.{with_raw-tail, length-with_raw, length-headers}
use Rattle.pe_builder.proofs.Putting.{length-put}
use Rattle.pe_builder.proofs.Pieces.{get_or-put_inside, get_or-put_before, get_or-put_behind}
use Rattle.pe_builder.proofs.Rounding.{length-pad_to}
use Rattle.pe_builder.proofs.Grown.{small_of}
use Rattle.pe_builder.proofs.PlannedIs.{stands}
use Rattle.pe_builder.proofs.Totals.{buildable_sbat}
use Rattle.pe_builder.proofs.FinishedImage.{has_finished}

-- where a range covers a place
covers_before : (r : Range) (k : ℕ) → k < r.place → covers r k ≡ false
covers_before r k h = grind (arith, nat_tests)

covers_inside : (r : Range) (k : ℕ) → r.place ≤ k → k < r.place + length r.bytes → covers r k ≡ true
covers_inside r k a b = grind (arith, nat_tests)

covers_behind : (r : Range) (k : ℕ) → r.place + length r.bytes ≤ k → covers r k ≡ false
covers_behind r k h = grind (arith, nat_tests)

-- bytes written over at ranges, the last range first
puts : List Range → List ℕ → List ℕ
puts [] bytes = bytes
puts (r ∷ ranges) bytes = put r.place r.bytes (puts ranges bytes)

-- the ranges end within so many bytes
abbrev EndWithin : ℕ → Range → Type 0
EndWithin n r = r.place + length r.bytes ≤ n

length-puts : (ranges : List Range) (bytes : List ℕ) → AllByRecursion (EndWithin (length bytes)) ranges → length (puts ranges bytes) ≡ length bytes
unfolding puts
length-puts [] bytes ok = refl
length-puts (r ∷ ranges) bytes ok =
    let next = length-puts ranges bytes ok.1 in
    let fits = ok.0 in
    length-put r.place r.bytes (puts ranges bytes) (omega (arith, next)) ∙ next

-- one range more
over : (r : Range) (bytes : List ℕ) (k rest : ℕ) → EndWithin (length bytes) r → get_or bytes k 0 ≡ rest
    → get_or (put r.place r.bytes bytes) k 0 ≡ (if covers r k then get_or r.bytes (k - r.place) 0 else rest)
over r bytes k rest fits same = elim (cases_lt k r.place) [
  | inl before ↦ rw (covers_before r k before) (get_or-put_before r.place r.bytes bytes k before fits ∙ same)
  | inr from ↦ elim (cases_lt k (r.place + length r.bytes)) [
    | inl inside ↦ rw (covers_inside r k from inside) (get_or-put_inside r.place r.bytes bytes k from inside fits)
    | inr behind ↦ rw (covers_behind r k behind) (get_or-put_behind r.place r.bytes bytes k behind fits ∙ same)
  ]
]

get_or-puts : (ranges : List Range) (bytes : List ℕ) (k : ℕ) (elsewhere : ℕ → ℕ) → AllByRecursion (EndWithin (length bytes)) ranges
    → get_or bytes k 0 ≡ elsewhere k → get_or (puts ranges bytes) k 0 ≡ byte_of ranges elsewhere k
unfolding byte_of puts
get_or-puts [] bytes k elsewhere ok same = same
get_or-puts (r ∷ ranges) bytes k elsewhere ok same =
    let fits = ok.0 in
    over r (puts ranges bytes) k (byte_of ranges elsewhere k) (omega (arith, length-puts ranges bytes ok.1)) (get_or-puts ranges bytes k elsewhere ok.1 same)

-- no range reaches a place
byte_of-behind : (ranges : List Range) (n k : ℕ) (elsewhere : ℕ → ℕ) → AllByRecursion (EndWithin n) ranges → n ≤ k
    → byte_of ranges elsewhere k ≡ elsewhere k
unfolding byte_of
byte_of-behind [] n k elsewhere ok h = refl
byte_of-behind (r ∷ ranges) n k elsewhere ok h =
    let fits = ok.0 in
    rw (covers_behind r k (omega arith)) (byte_of-behind ranges n k elsewhere ok.1 h)

-- filled up with zeros
get_or-same : (m j z : ℕ) → get_or (replicate m z) j z ≡ z
get_or-same m j z = elim (cases_lt j m) [
  | inl below ↦ get_or-replicate m j z z below
  | inr past ↦ get_or_past (replicate m z) j z (omega (arith, length-replicate m z))
]

get_or-pad_to : (unit : ℕ) (xs : List ℕ) (j : ℕ) → get_or (pad_to unit xs) j 0 ≡ get_or xs j 0
unfolding pad_to
get_or-pad_to unit xs j = elim (cases_lt j (length xs)) [
  | inl below ↦ get_or_append_left xs _ 0 j below
  | inr past ↦ get_or-append_right xs _ (length xs) j 0 refl past ∙ get_or-same _ (j - length xs) 0 ∙ sym (get_or_past xs j 0 past)
]

-- before the raw data of all parts
raw_before : (h : Head) (n a k : ℕ) (sizes : List PartSize) (contents : List (List ℕ)) → k < n
    → byte_of (raw_data (sections_for h n a sizes) contents) (λ _. 0) k ≡ 0
unfolding byte_of raw_data sections_for
raw_before h n a k [] contents below = refl
raw_before h n a k (p ∷ ps) [] below = refl
raw_before h n a k (p ∷ ps) (c ∷ cs) below =
    let s = section_for h n a p in
    let r : Range = record { place = s.raw_place; bytes = c } in
    rw (covers_before r k (omega arith)) (raw_before h (raw_end s) (virtual_end s) k ps cs (omega arith))

-- behind bytes the byte at a place is that of the part whose raw data stand there
raw_byte : (h : Head) (sizes : List PartSize) (contents : List (List ℕ)) (bytes : List ℕ) (n a k : ℕ)
    → length bytes ≡ n → map length contents ≡ map (λ p. p.length) sizes → n ≤ k
    → get_or (with_raw h.file_alignment bytes contents) k 0 ≡ byte_of (raw_data (sections_for h n a sizes) contents) (λ _. 0) k
unfolding byte_of raw_data sections_for with_raw
raw_byte h [] [] bytes n a k len e from = get_or_past bytes k 0 (omega arith)
raw_byte h [] (c ∷ cs) bytes n a k len e from = cc
raw_byte h (p ∷ ps) [] bytes n a k len e from = cc
raw_byte h (p ∷ ps) (c ∷ cs) bytes n a k len e from =
    let unit = h.file_alignment in
    let s = section_for h n a p in
    let r : Range = record { place = s.raw_place; bytes = c } in
    let front = pad_to unit bytes in
    let whole = front ++ pad_to unit c in
    let e1 : length c ≡ p.length = cc in
    let e2 : map length cs ≡ map (λ p. p.length) ps = cc in
    let lf : length front ≡ s.raw_place = length-pad_to unit bytes ∙ ap (λ (m : ℕ). next_multiple_of m unit) len in
    let lc : length (pad_to unit c) ≡ s.raw_size = length-pad_to unit c ∙ ap (λ (m : ℕ). next_multiple_of m unit) e1 in
    let lw : length whole ≡ raw_end s = length-append front (pad_to unit c) ∙ omega arith in
    let t = with_raw-tail unit whole cs in
    let left : k < raw_end s → get_or (with_raw unit whole cs) k 0 ≡ get_or whole k 0 =
    λ below. ap (λ (l : List ℕ). get_or l k 0) t.1 ∙ get_or_append_left whole t.0 0 k (omega arith) in
    let here : s.raw_place ≤ k → get_or whole k 0 ≡ get_or c (k - s.raw_place) 0 =
    λ at. get_or-append_right front (pad_to unit c) s.raw_place k 0 lf at ∙ get_or-pad_to unit c (k - s.raw_place) in
    elim (cases_lt k (raw_end s)) [
      | inl below ↦
          let none = raw_before h (raw_end s) (virtual_end s) k ps cs below in
          elim (cases_lt k s.raw_place) [
            | inl gap ↦ rw (covers_before r k gap) (left below ∙ get_or_append_left front (pad_to unit c) 0 k (omega arith)
                ∙ get_or-pad_to unit bytes k ∙ get_or_past bytes k 0 (omega arith) ∙ sym none)
            | inr at ↦ elim (cases_lt k (s.raw_place + length c)) [
              | inl inside ↦ rw (covers_inside r k at inside) (left below ∙ here at)
              | inr behind ↦ rw (covers_behind r k behind) (left below ∙ here at ∙ get_or_past c (k - s.raw_place) 0 (omega arith) ∙ sym none)
            ]
          ]
      | inr past ↦
          rw (covers_behind r k (omega arith)) (raw_byte h ps cs whole (raw_end s) (virtual_end s) k lw e2 past)
    ]

within : {k n : ℕ} → k < n → (a b : ℕ) → a ≡ (if nat_lt k n then a else b)
within h a b = grind (arith, nat_tests)

beyond : {k n : ℕ} → n ≤ k → (a b : ℕ) → (if nat_lt k n then a else b) ≡ b
beyond h a b = grind (arith, nat_tests)

-- the byte at a place of bytes written over, with raw data behind them
whole_byte : (h : Head) (sizes : List PartSize) (contents : List (List ℕ)) (ranges : List Range) (stub : List ℕ) (a k : ℕ)
    → AllByRecursion (EndWithin (length stub)) ranges → map length contents ≡ map (λ p. p.length) sizes
    → get_or (with_raw h.file_alignment (puts ranges stub) contents) k 0
    ≡ byte_of ranges (λ j. if nat_lt j (length stub) then get_or stub j 0 else byte_of (raw_data (sections_for h (length stub) a sizes) contents) (λ _. 0) j) k
whole_byte h sizes contents ranges stub a k ok e =
    let behind : ℕ → ℕ = byte_of (raw_data (sections_for h (length stub) a sizes) contents) (λ _. 0) in
    let elsewhere : ℕ → ℕ = λ j. if nat_lt j (length stub) then get_or stub j 0 else behind j in
    let written = puts ranges stub in
    let len = length-puts ranges stub ok in
    let t = with_raw-tail h.file_alignment written contents in
    elim (cases_lt k (length stub)) [
      | inl below ↦
          let in_stub : get_or stub k 0 ≡ elsewhere k = within below (get_or stub k 0) (behind k) in
          ap (λ (l : List ℕ). get_or l k 0) t.1 ∙ get_or_append_left written t.0 0 k (omega arith) ∙ get_or-puts ranges stub k elsewhere ok in_stub
      | inr from ↦
          let past : elsewhere k ≡ behind k = beyond from (get_or stub k 0) (behind k) in
          raw_byte h sizes contents written (length stub) a k len e from ∙ sym (byte_of-behind ranges (length stub) k elsewhere ok from ∙ past)
    ]

-- the fields and headers of an image lie in the stub
fields_within : (stub : List ℕ) (h changed : Headers) (sizes : List PartSize) (more : List Range) → Shape stub h → changed.head ≡ h.head
    → HasImage changed (length stub) sizes → AllByRecursion (EndWithin (length stub)) more
    → AllByRecursion (EndWithin (length stub)) (rewritten_fields h.head (head_with changed (new_sections changed (length stub) sizes))
    (flat_map section_header (new_sections changed (length stub) sizes)) more)
fields_within stub h changed sizes more shape same has rest =
    let n = length stub in
    let len = length-headers changed.head _ n (end_after changed.head.header_size changed.sections) sizes (small_of stub changed sizes has) in
    let R : Head → Type 0 = λ k. k.table_place + 40 * (k.section_count + length sizes) ≤ k.header_size in
    let room : R h.head = subst R same has.room in
    let inside = shape.inside in
    let table = shape.table_place in
    let large = shape.optional in
    let a : h.head.pe_place + 6 + 2 ≤ n = omega arith in
    let b : h.head.pe_place + 24 + 8 + 4 ≤ n = omega arith in
    let c : h.head.pe_place + 24 + 56 + 4 ≤ n = omega arith in
    let d : h.head.pe_place + 24 + 64 + 4 ≤ n = omega arith in
    let f : h.head.table_place + 40 * h.head.section_count + length (flat_map section_header (new_sections changed n sizes)) ≤ n = omega (arith, len, room) in
    (a, (b, (c, (d, (f, rest)))))

-- a stub with the new `.sbat` over its own
sbat_within : (h : Headers) (sbat : Option (List ℕ)) (stub : List ℕ) → Shape stub h → FitsSbat h (option_map length sbat)
    → AllByRecursion (EndWithin (length stub)) (rewritten_sbat h sbat)
sbat_within h None stub shape fits = tt
sbat_within h (Some sbat) stub shape fits =
    let st = stands h stub (length sbat) shape fits in
    let room = st.room in
    let raw = st.raw in
    let header : h.head.table_place + 40 * sbat_index h + 8 + 4 ≤ length stub = st.header in
    let filled : length (sbat ++ replicate (sbat_room h - length sbat) 0) ≡ sbat_room h =
    length-append sbat _ ∙ ap (λ (m : ℕ). length sbat + m) (length-replicate (sbat_room h - length sbat) 0) ∙ omega arith in
    (header, (omega (arith, filled), tt))

sbat_puts : (h : Headers) (sbat : Option (List ℕ)) (stub : List ℕ) → with_sbat h sbat stub ≡ puts (rewritten_sbat h sbat) stub
unfolding with_content puts
sbat_puts h None stub = refl
sbat_puts h (Some sbat) stub = refl

pub length-with_sbat : (h : Headers) (sbat : Option (List ℕ)) (stub : List ℕ) → Shape stub h → FitsSbat h (option_map length sbat)
    → length (with_sbat h sbat stub) ≡ length stub
length-with_sbat h sbat stub shape fits =
    ap length (sbat_puts h sbat stub) ∙ length-puts (rewritten_sbat h sbat) stub (sbat_within h sbat stub shape fits)

-- the headers of an image as bytes written over the stub
headers_puts : (h : Headers) (sbat : Option (List ℕ)) (new : List Section) (stub : List ℕ)
    → with_headers (with_sbat_size h (option_map length sbat)) new (with_sbat h sbat stub)
    ≡ puts (rewritten_fields h.head (head_with (with_sbat_size h (option_map length sbat)) new) (flat_map section_header new) (rewritten_sbat h sbat)) stub
unfolding with_headers puts
headers_puts h sbat new stub =
    ap (λ (l : List ℕ). with_headers (with_sbat_size h (option_map length sbat)) new l) (sbat_puts h sbat stub)

-- the finished image, place by place
pub by_place : (h : Headers) (sizes : List PartSize) (contents : List (List ℕ)) (sbat : Option (List ℕ)) (stub : List ℕ)
    → HasFinished h sizes contents sbat stub → IsByPlace h sizes contents sbat stub
by_place h sizes contents sbat stub f =
    let n = length stub in
    let size = option_map length sbat in
    let changed = with_sbat_size h size in
    let new = new_sections changed n sizes in
    let has = has_finished h sizes contents sbat stub f in
    let shape = stages-shape stub h (pe_of-stages stub h f.reads) in
    let fits = buildable_sbat h n sizes size f.buildable in
    let ranges = rewritten_fields h.head (head_with changed new) (flat_map section_header new) (rewritten_sbat h sbat) in
    let ok = fields_within stub h changed sizes (rewritten_sbat h sbat) shape refl has (sbat_within h sbat stub shape fits) in
    let same : finished_image h sizes contents sbat stub ≡ with_raw h.head.file_alignment (puts ranges stub) contents =
    ap (λ (m : ℕ). with_raw h.head.file_alignment (with_headers changed (new_sections changed m sizes) (with_sbat h sbat stub)) contents) (length-with_sbat h sbat stub shape fits)
    ∙ ap (λ (l : List ℕ). with_raw h.head.file_alignment l contents) (headers_puts h sbat new stub) in
    record {
      length_is = ap length same ∙ length-with_raw h.head (puts ranges stub) sizes contents f.lengths ∙ ap (λ (m : ℕ). length_after h.head m sizes) (length-puts ranges stub ok);
      byte_is = λ k. ap (λ (l : List ℕ). get_or l k 0) same ∙ whole_byte h.head sizes contents ranges stub (end_after h.head.header_size changed.sections) k ok f.lengths;
    }
