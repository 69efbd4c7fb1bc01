-- A stub whose section is replaced in place reads as PE again.
use Rattle.std.proofs.Common.{◌≡◌, ◌<◌, ◌≤◌, ◌+◌, ◌-◌, ◌*◌, ◌^◌, ◌⊎◌, inl, inr, ℕ, zero, suc, Bool, true, List, [], ◌∷◌, ◌++◌, length, take, drop, set, get_or, replicate, Ok, Result, refl, sym, ap, subst, ◌∙◌, arith, length-append, append_assoc}
use Rattle.std.specs.List.{list_all}
use Rattle.std.proofs.Math.Seq.{take-add}
use Rattle.pe_reader.specs.declared.fault.FailedCheck.{FailedCheck}
use Rattle.std.proofs.lemmas.List.{length-drop, length-take-le, length-replicate, take-take, drop-drop, set_at, get_or_at, drop_at}
use Rattle.std.proofs.lemmas.List.Folds.{list_all-append}
use Rattle.std.proofs.lemmas.Bool.{and_parts}
use Rattle.std.proofs.lemmas.Bool.Decides.{nat_tests}
use Rattle.byteorder.specs.Endian.{little_bytes}
use Rattle.pe_reader.specs.declared.section.Section.{Section}
use Rattle.pe_reader.specs.Prelude.{u32_at, part, ◌>>=◌, Headers, pe_of, pe_place_of, coff_of, optional_of, check_section, is_in_file, is_apart, section_at, sections_of, section_at_index, no_section}
use Rattle.pe_reader.proofs.Checks.{bind_ok}
use Rattle.pe_reader.proofs.Tables.{sections_of-more, sections_of-split, sections_of-rest, section_at-append, checked_is}
use Rattle.pe_reader.proofs.Shape.{optional_of_is, Shape, pe_of-stages, pe_of-from_stages, stages-shape}
use Rattle.pe_reader.proofs.Places.{u32_at-part}
use Rattle.pe_builder.proofs.Fits.{FitsSection}
use Rattle.pe_builder.specs.Puts.{put}
use Rattle.pe_builder.proofs.Putting.{length-put, u32_at-put}
use Rattle.pe_builder.proofs.Rewriting.{part-put, u32_field}
use Rattle.pe_builder.proofs.HeaderBytes.{same_section}
use Rattle.pe_builder.specs.Replaced.{resized_headers, with_content}

-- a part in two
part-split : (xs : List ℕ) (at m n : ℕ) → at + m ≤ length xs → part xs at (m + n) ≡ part xs at m ++ part xs (at + m) n
part-split xs at m n h = take-add m n (drop at xs) ∙ ap (λ (l : List ℕ). take m (drop at xs) ++ take n l) (drop-drop m at xs)

pub length-part : (xs : List ℕ) (at n : ℕ) → at + n ≤ length xs → length (part xs at n) ≡ n
length-part xs at n h = length-take-le n (drop at xs) (omega (arith, length-drop at xs))

-- raw data that aren't empty lie in the file
pub raw_inside : (n header_size : ℕ) (s : Section) → 0 < s.raw_size → is_in_file n header_size s ≡ true → (header_size ≤ s.raw_place) × (s.raw_place + s.raw_size ≤ n)
raw_inside n header_size s some e = (grind (arith, nat_tests), grind (arith, nat_tests))

-- the checks of a section with another VirtualSize
check_section-resized : (n header_size : ℕ) (earlier : List Section) (place v : ℕ) (s t : Section)
    → check_section n header_size earlier place s ≡ Ok t → v ≤ 268435456 → s.virtual_address + v ≤ 4294967296
    → check_section n header_size earlier place (record s { virtual_size = v }) ≡ Ok (record s { virtual_size = v })
unfolding check_section
check_section-resized n header_size earlier place v s t e small fits = grind (arith, nat_tests)

-- two lists whose raw ranges every section meets alike
abbrev MetAlike : List Section → List Section → Type 0
MetAlike others sections = (x : Section) → list_all (is_apart x) others ≡ list_all (is_apart x) sections

alike-resized : (middle : List Section) (t : Section) (v : ℕ) → MetAlike (middle ++ record t { virtual_size = v } ∷ []) (middle ++ t ∷ [])
alike-resized middle t v x =
    list_all-append (is_apart x) middle (record t { virtual_size = v } ∷ []) ∙ sym (list_all-append (is_apart x) middle (t ∷ []))

table-from : (n header_size i k place v : ℕ) (before header other behind : List ℕ) (out middle rest : List Section) (d : Section)
    → length before ≡ 40 * i → length header ≡ 40 → length other ≡ 40
    → section_at other ≡ record (section_at header) { virtual_size = v }
    → v ≤ 268435456 → (section_at header).virtual_address + v ≤ 4294967296
    → length middle ≡ i
    → sections_of n header_size i place [] before ≡ Ok middle
    → check_section n header_size middle (place + 40 * i) (section_at header) ≡ Ok (section_at header)
    → out ≡ (middle ++ section_at header ∷ []) ++ rest
    → ((others : List Section) → MetAlike others (middle ++ section_at header ∷ []) → sections_of n header_size k (place + 40 * i + 40) others behind ≡ Ok (others ++ rest))
    → sections_of n header_size (i + suc k) place [] (before ++ (other ++ behind)) ≡ Ok (set out i (record (get_or out i d) { virtual_size = v }))
unfolding sections_of
table-from n header_size i k place v before header other behind out middle rest d lb lh lo same small fits lm mid passes whole f =
    let t = section_at header in
    let t' : Section = record t { virtual_size = v } in
    let out_is : out ≡ middle ++ t ∷ rest = whole ∙ append_assoc middle (t ∷ []) rest in
    let got : get_or out i d ≡ t = ap (λ (l : List Section). get_or l i d) out_is ∙ get_or_at middle t rest d i lm in
    let now : section_at (other ++ behind) ≡ t' = section_at-append other behind (omega arith) ∙ same in
    let again : check_section n header_size middle (place + 40 * i) (section_at (other ++ behind)) ≡ Ok t' =
    ap (λ (x : Section). check_section n header_size middle (place + 40 * i) x) now ∙ check_section-resized n header_size middle (place + 40 * i) v t t passes small fits in
    let first = sections_of-more n n header_size (suc k) i place [] before (other ++ behind) middle (omega arith) lb mid in
    let step : sections_of n header_size (suc k) (place + 40 * i) middle (other ++ behind) ≡ sections_of n header_size k (place + 40 * i + 40) (middle ++ t' ∷ []) (drop 40 (other ++ behind)) =
    ap (λ (x : Result Section FailedCheck). x >>= λ y. sections_of n header_size k (place + 40 * i + 40) (middle ++ y ∷ []) (drop 40 (other ++ behind))) again in
    let back : drop 40 (other ++ behind) ≡ behind = drop_at other behind 40 lo in
    let changed : set out i (record (get_or out i d) { virtual_size = v }) ≡ middle ++ t' ∷ rest =
    ap (λ (l : List Section). set l i (record (get_or out i d) { virtual_size = v })) out_is
    ∙ ap (λ (q : Section). set (middle ++ t ∷ rest) i (record q { virtual_size = v })) got
    ∙ set_at middle t rest t' i lm in
    first ∙ step ∙ ap (λ (l : List ℕ). sections_of n header_size k (place + 40 * i + 40) (middle ++ t' ∷ []) l) back
    ∙ f (middle ++ t' ∷ []) (alike-resized middle t v)
    ∙ ap (λ (l : List Section). Ok l) (append_assoc middle (t' ∷ []) rest ∙ sym changed)

-- One header of the table has another VirtualSize, and the old one is that of the section that the stub's table gave.
table-from_any : (n header_size i k place v : ℕ) (before header other behind : List ℕ) (out middle rest : List Section) (s d : Section)
    → length before ≡ 40 * i → length header ≡ 40 → length other ≡ 40
    → section_at other ≡ record (section_at header) { virtual_size = v }
    → v ≤ 268435456 → (get_or out i d).virtual_address + v ≤ 4294967296
    → length middle ≡ i
    → sections_of n header_size i place [] before ≡ Ok middle
    → check_section n header_size middle (place + 40 * i) (section_at header) ≡ Ok s
    → s ≡ section_at header
    → out ≡ (middle ++ s ∷ []) ++ rest
    → ((others : List Section) → MetAlike others (middle ++ s ∷ []) → sections_of n header_size k (place + 40 * i + 40) others behind ≡ Ok (others ++ rest))
    → sections_of n header_size (i + suc k) place [] (before ++ (other ++ behind)) ≡ Ok (set out i (record (get_or out i d) { virtual_size = v }))
table-from_any n header_size i k place v before header other behind out middle rest s d lb lh lo same small fits lm mid passes is whole f =
    let t = section_at header in
    let whole' : out ≡ (middle ++ t ∷ []) ++ rest = whole ∙ ap (λ (x : Section). (middle ++ x ∷ []) ++ rest) is in
    let out_is : out ≡ middle ++ t ∷ rest = whole' ∙ append_assoc middle (t ∷ []) rest in
    let got : get_or out i d ≡ t = ap (λ (l : List Section). get_or l i d) out_is ∙ get_or_at middle t rest d i lm in
    let address = ap (λ (q : Section). q.virtual_address) got in
    let F : Section → Type 0 = λ x. (others : List Section) → MetAlike others (middle ++ x ∷ []) → sections_of n header_size k (place + 40 * i + 40) others behind ≡ Ok (others ++ rest) in
    table-from n header_size i k place v before header other behind out middle rest d lb lh lo same small (omega (arith, address, fits)) lm mid
    (passes ∙ ap (λ (x : Section). Ok x) is) whole' (subst F is f)

-- One header of the table has another VirtualSize.
table-resized : (n header_size i k place v : ℕ) (before header other behind : List ℕ) (out : List Section) (d : Section)
    → length before ≡ 40 * i → length header ≡ 40 → length other ≡ 40
    → section_at other ≡ record (section_at header) { virtual_size = v }
    → v ≤ 268435456 → (get_or out i d).virtual_address + v ≤ 4294967296
    → sections_of n header_size (i + suc k) place [] (before ++ (header ++ behind)) ≡ Ok out
    → sections_of n header_size (i + suc k) place [] (before ++ (other ++ behind)) ≡ Ok (set out i (record (get_or out i d) { virtual_size = v }))
unfolding sections_of
table-resized n header_size i k place v before header other behind out d lb lh lo same small fits e =
    let a = sections_of-split n header_size (suc k) i place [] before (header ++ behind) out lb e in
    let middle = a.0 in
    let b = bind_ok (check_section n header_size middle (place + 40 * i) (section_at (header ++ behind))) _ out a.3 in
    let c = sections_of-rest n header_size k (place + 40 * i + 40) (middle ++ b.0 ∷ []) (drop 40 (header ++ behind)) out b.2 in
    let front = section_at-append header behind (omega arith) in
    table-from_any n header_size i k place v before header other behind out middle c.0 b.0 d lb lh lo same small fits
    (omega (arith, a.1)) a.2
    (ap (λ (x : Section). check_section n header_size middle (place + 40 * i) x) (sym front) ∙ b.1)
    ((checked_is n header_size middle (place + 40 * i) (section_at (header ++ behind)) b.0 b.1).0 ∙ front)
    c.1
    (λ others h. ap (λ (l : List ℕ). sections_of n header_size k (place + 40 * i + 40) others l) (sym (drop_at header behind 40 lh)) ∙ c.2 others h)

-- where the two writings of a replaced section stand
pub record TwoWritings (at raw n : ℕ) (size fill stub : List ℕ) : Type 0 where
  pub size_is : length size ≡ 4
  pub apart : at + 4 ≤ raw
  pub fits : raw + length fill ≤ n
  pub length_is : length stub ≡ n

pub apart_two : (p raw n : ℕ) (size fill stub : List ℕ) (at count : ℕ) → TwoWritings p raw n size fill stub
    → (at + count ≤ p) ⊎ (p + length size ≤ at) → (at + count ≤ raw) ⊎ (raw + length fill ≤ at)
    → part (put p size (put raw fill stub)) at count ≡ part stub at count
apart_two p raw n size fill stub at count w h1 h2 =
    let l1 : length (put raw fill stub) ≡ n = length-put raw fill stub (omega arith) ∙ w.length_is in
    part-put at count p size (put raw fill stub) h1 (omega arith) ∙ part-put at count raw fill stub h2 (omega arith)

-- the header of the replaced section
header_resized : (p raw n v : ℕ) (fill stub : List ℕ) (start : ℕ) → TwoWritings p raw n (little_bytes 4 v) fill stub → start + 8 ≡ p → start + 40 ≤ raw → v < 2 ^ 32
    → section_at (part (put p (little_bytes 4 v) (put raw fill stub)) start 40) ≡ record (section_at (part stub start 40)) { virtual_size = v }
unfolding section_at
header_resized p raw n v fill stub start w at room small =
    let new = put p (little_bytes 4 v) (put raw fill stub) in
    let l1 : length (put raw fill stub) ≡ n = length-put raw fill stub (omega arith) ∙ w.length_is in
    same_section _ _ _ v _ _ _ _ _ _ _ _
    (take-take 8 40 (drop start new) (omega arith) ∙ apart_two p raw n (little_bytes 4 v) fill stub start 8 w (inl (omega arith)) (inl (omega arith))
    ∙ sym (take-take 8 40 (drop start stub) (omega arith)))
    (u32_at-part new start 40 8 (omega arith) ∙ ap (u32_at new) at ∙ u32_at-put p v (put raw fill stub) (omega arith) small)
    (u32_field new stub start 40 12 (omega arith) (apart_two p raw n (little_bytes 4 v) fill stub (start + 12) 4 w (inr (omega arith)) (inl (omega arith))))
    (u32_field new stub start 40 16 (omega arith) (apart_two p raw n (little_bytes 4 v) fill stub (start + 16) 4 w (inr (omega arith)) (inl (omega arith))))
    (u32_field new stub start 40 20 (omega arith) (apart_two p raw n (little_bytes 4 v) fill stub (start + 20) 4 w (inr (omega arith)) (inl (omega arith))))
    (u32_field new stub start 40 36 (omega arith) (apart_two p raw n (little_bytes 4 v) fill stub (start + 36) 4 w (inr (omega arith)) (inl (omega arith))))

-- the table in three parts
table-parts : (xs : List ℕ) (t i k : ℕ) → t + 40 * (i + suc k) ≤ length xs
    → part xs t (40 * (i + suc k)) ≡ part xs t (40 * i) ++ (part xs (t + 40 * i) 40 ++ part xs (t + 40 * i + 40) (40 * k))
table-parts xs t i k h =
    let a : 40 * (i + suc k) ≡ 40 * i + (40 + 40 * k) = omega arith in
    ap (part xs t) a ∙ part-split xs t (40 * i) (40 + 40 * k) (omega arith)
    ∙ ap (λ (l : List ℕ). part xs t (40 * i) ++ l) (part-split xs (t + 40 * i) 40 (40 * k) (omega arith))

-- a section of a list that passed a test
at_list_all : (p : Section → Bool) (xs : List Section) (i : ℕ) (d : Section) → i < length xs → list_all p xs ≡ true → p (get_or xs i d) ≡ true
at_list_all p [] i d h e = absurd (omega arith)
at_list_all p (x ∷ xs) zero d h e = (and_parts (p x) (list_all p xs) e).0
at_list_all p (x ∷ xs) (suc i) d h e = at_list_all p xs i d (omega arith) (and_parts (p x) (list_all p xs) e).1

-- what the section's place says of the two writings
pub writing_of : (stub content : List ℕ) (h : Headers) (i : ℕ) → Shape stub h → FitsSection h i content
    → TwoWritings (h.head.table_place + 40 * i + 8) (section_at_index h.sections i).raw_place (length stub) (little_bytes 4 (length content))
    (content ++ replicate ((section_at_index h.sections i).raw_size - length content) 0) stub
    × (h.head.header_size ≤ (section_at_index h.sections i).raw_place)
writing_of stub content h i shape fits =
    let s = section_at_index h.sections i in
    let ok = at_list_all (is_in_file (length stub) h.head.header_size) h.sections i no_section fits.inside shape.in_file in
    let range = raw_inside (length stub) h.head.header_size s (omega (arith, fits.some, fits.room)) ok in
    let room = shape.room in
    let count = shape.count in
    let inside = fits.inside in
    let enough = fits.room in
    let l : length (content ++ replicate (s.raw_size - length content) 0) ≡ s.raw_size =
    length-append content _ ∙ ap (λ (k : ℕ). length content + k) (length-replicate (s.raw_size - length content) 0) ∙ omega arith in
    (record { size_is = refl; apart = omega (arith, range.0); fits = omega (arith, l, range.1); length_is = refl }, range.0)

-- The stub with a section replaced reads as PE, with that section's new VirtualSize.
pub pe_of-with_content : (stub content : List ℕ) (h : Headers) (i : ℕ) → pe_of stub ≡ Ok h → FitsSection h i content
    → pe_of (with_content h i content stub) ≡ Ok (resized_headers h i (length content))
unfolding with_content
pe_of-with_content stub content h i e fits =
    let st = pe_of-stages stub h e in
    let shape = stages-shape stub h st in
    let s = section_at_index h.sections i in
    let v = length content in
    let fill = content ++ replicate (s.raw_size - v) 0 in
    let p = h.head.table_place + 40 * i + 8 in
    let n = length stub in
    let new = put p (little_bytes 4 v) (put s.raw_place fill stub) in
    let both = writing_of stub content h i shape fits in
    let w = both.0 in
    let behind = both.1 in
    let room = shape.room in
    let count = shape.count in
    let inside = fits.inside in
    let table = shape.table_place in
    let hin = shape.inside in
    let size = fits.size in
    let l1 : length (put s.raw_place fill stub) ≡ n = length-put s.raw_place fill stub (omega (arith, w.fits)) in
    let len : length new ≡ n = length-put p (little_bytes 4 v) _ (omega (arith, w.fits, w.apart)) ∙ l1 in
    let from = optional_of_is n h.head.pe_place st.coff _ h.head st.head_is in
    let same_size = from.optional_size in
    let place = h.head.pe_place in
    let t = h.head.table_place in
    let k = h.head.section_count - i - 1 in
    let counted : h.head.section_count ≡ i + suc k = omega arith in
    let front : part new 0 64 ≡ part stub 0 64 = apart_two p s.raw_place n _ fill stub 0 64 w (inl (omega (arith, shape.place))) (inl (omega (arith, shape.place))) in
    let coff : part new place 24 ≡ part stub place 24 = apart_two p s.raw_place n _ fill stub place 24 w (inl (omega arith)) (inl (omega arith)) in
    let optional : part new (place + 24) st.coff.optional_size ≡ part stub (place + 24) st.coff.optional_size =
    apart_two p s.raw_place n _ fill stub (place + 24) st.coff.optional_size w (inl (omega arith)) (inl (omega arith)) in
    let old : sections_of n h.head.header_size (i + suc k) t [] (part stub t (40 * i) ++ (part stub (t + 40 * i) 40 ++ part stub (t + 40 * i + 40) (40 * k))) ≡ Ok h.sections =
    ap (λ (l : List ℕ). sections_of n h.head.header_size (i + suc k) t [] l) (sym (table-parts stub t i k (omega arith)))
    ∙ ap (λ (c : ℕ). sections_of n h.head.header_size c t [] (part stub t (40 * c))) (sym counted) ∙ st.sections_is in
    let header = header_resized p s.raw_place n v fill stub (t + 40 * i) w refl (omega arith) (omega arith) in
    let lb : length (part stub t (40 * i)) ≡ 40 * i = length-part stub t (40 * i) (omega arith) in
    let lh : length (part stub (t + 40 * i) 40) ≡ 40 = length-part stub (t + 40 * i) 40 (omega arith) in
    let lo : length (part new (t + 40 * i) 40) ≡ 40 = length-part new (t + 40 * i) 40 (omega (arith, len)) in
    let resized_table = table-resized n h.head.header_size i k t v (part stub t (40 * i)) (part stub (t + 40 * i) 40)
    (part new (t + 40 * i) 40) (part stub (t + 40 * i + 40) (40 * k)) h.sections no_section lb lh lo header size fits.memory old in
    let b0 : part new t (40 * i) ≡ part stub t (40 * i) = apart_two p s.raw_place n _ fill stub t (40 * i) w (inl (omega arith)) (inl (omega arith)) in
    let b2 : part new (t + 40 * i + 40) (40 * k) ≡ part stub (t + 40 * i + 40) (40 * k) =
    apart_two p s.raw_place n _ fill stub (t + 40 * i + 40) (40 * k) w (inr (omega (arith, w.size_is))) (inl (omega arith)) in
    let now : part new t (40 * (i + suc k)) ≡ part stub t (40 * i) ++ (part new (t + 40 * i) 40 ++ part stub (t + 40 * i + 40) (40 * k)) =
    table-parts new t i k (omega (arith, len))
    ∙ ap (λ (l : List ℕ). l ++ (part new (t + 40 * i) 40 ++ part new (t + 40 * i + 40) (40 * k))) b0
    ∙ ap (λ (l : List ℕ). part stub t (40 * i) ++ (part new (t + 40 * i) 40 ++ l)) b2 in
    pe_of-from_stages new (resized_headers h i v) (record {
      coff = st.coff;
      place_is = ap (λ (m : ℕ). pe_place_of m (part new 0 64)) len ∙ ap (pe_place_of n) front ∙ st.place_is;
      coff_is = ap (λ (m : ℕ). coff_of m place (part new place 24)) len ∙ ap (coff_of n place) coff ∙ st.coff_is;
      head_is = ap (λ (m : ℕ). optional_of m place st.coff (part new (place + 24) st.coff.optional_size)) len ∙ ap (optional_of n place st.coff) optional ∙ st.head_is;
      sections_is = ap (λ (m : ℕ). sections_of m h.head.header_size h.head.section_count t [] (part new t (40 * h.head.section_count))) len
          ∙ ap (λ (c : ℕ). sections_of n h.head.header_size c t [] (part new t (40 * c))) counted
          ∙ ap (λ (l : List ℕ). sections_of n h.head.header_size (i + suc k) t [] l) now
          ∙ resized_table;
    })
