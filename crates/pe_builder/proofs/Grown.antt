-- The image reads as PE, with the sections of the stub and the new ones.
use Rattle.std.proofs.Common.{◌≡◌, ◌<◌, ◌≤◌, ◌+◌, ◌-◌, ◌*◌, ◌^◌, ◌⊎◌, inl, inr, ℕ, List, [], ◌++◌, length, take, drop, map, Ok, refl, sym, ap, subst, ◌∙◌, arith, flat_map}
use Rattle.std.proofs.lemmas.List.{drop-append-le, take-append-le, length-drop, length-take-le}
use Rattle.byteorder.specs.Endian.{little_bytes}
use Rattle.pe_reader.specs.declared.head.Head.{Head}
use Rattle.pe_reader.specs.declared.head.Coff.{Coff}
use Rattle.pe_reader.specs.Prelude.{u16_at, u32_at, part, Headers, pe_of, pe_place_of, sections_of}
use Rattle.pe_reader.proofs.Places.{u32_at-part, u16_at-part, u32_at-append, u16_at-append}
use Rattle.pe_reader.proofs.Checks.{pe_place_of-more, coff_of-more, optional_of-more, SameButSizes}
use Rattle.pe_reader.proofs.Tables.{sections_of-more}
use Rattle.pe_reader.proofs.Shape.{optional_of_is, Stages, Shape, pe_of-stages, pe_of-from_stages, stages-shape}
use Rattle.pe_builder.proofs.Fits.{HasImage}
use Rattle.pe_builder.specs.declared.size.PartSize.{PartSize}
use Rattle.pe_builder.specs.Puts.{put}
use Rattle.pe_builder.proofs.Putting.{length-put, u32_at-put, u16_at-put, u32_at-put_behind}
use Rattle.pe_builder.specs.Layout.{end_after, length_after, new_sections, head_with, headers_with}
use Rattle.pe_builder.specs.Image.{section_header, with_headers, image_with_parts}
use Rattle.pe_builder.proofs.Rewriting.{part-put, part-put_end, u32_field, u16_field, u32_field_behind}
use Rattle.pe_builder.proofs.Appending.{Small, with_raw-tail, length-with_raw, le-length_after, length-sections_for, end_after-append, sections_of-new, length-headers}

-- five fields written over: where they stand, and that they lie one behind the other
record Rewrite (place size table n : ℕ) (count initialized image checksum headers stub : List ℕ) : Type 0 where
  count_is : length count ≡ 2
  initialized_is : length initialized ≡ 4
  image_is : length image ≡ 4
  checksum_is : length checksum ≡ 4
  before : place + 24 + size ≤ table
  large : 112 ≤ size
  fits : table + length headers ≤ n
  length_is : length stub ≡ n

-- the bytes with these fields
abbrev five : (place table : ℕ) (count initialized image checksum headers stub : List ℕ) → List ℕ
five place table count initialized image checksum headers stub =
    put (place + 6) count (
    put (place + 24 + 8) initialized (
    put (place + 24 + 56) image (
    put (place + 24 + 64) checksum (
    put table headers stub))))

-- the lengths of the bytes after each writing
record Lengths (place table n : ℕ) (count initialized image checksum headers stub : List ℕ) : Type 0 where
  l1 : length (put table headers stub) ≡ n
  l2 : length (put (place + 24 + 64) checksum (put table headers stub)) ≡ n
  l3 : length (put (place + 24 + 56) image (put (place + 24 + 64) checksum (put table headers stub))) ≡ n
  l4 : length (put (place + 24 + 8) initialized (put (place + 24 + 56) image (put (place + 24 + 64) checksum (put table headers stub)))) ≡ n
  l5 : length (five place table count initialized image checksum headers stub) ≡ n

lengths : (place size table n : ℕ) (c i g z hs stub : List ℕ) → Rewrite place size table n c i g z hs stub → Lengths place table n c i g z hs stub
lengths place size table n c i g z hs stub r =
    let l1 : length (put table hs stub) ≡ n = length-put table hs stub (omega arith) ∙ r.length_is in
    let l2 : length (put (place + 24 + 64) z (put table hs stub)) ≡ n = length-put (place + 24 + 64) z (put table hs stub) (omega arith) ∙ l1 in
    let l3 : length (put (place + 24 + 56) g (put (place + 24 + 64) z (put table hs stub))) ≡ n = length-put (place + 24 + 56) g _ (omega arith) ∙ l2 in
    let l4 : length (put (place + 24 + 8) i (put (place + 24 + 56) g (put (place + 24 + 64) z (put table hs stub)))) ≡ n = length-put (place + 24 + 8) i _ (omega arith) ∙ l3 in
    record {
      l1 = l1;
      l2 = l2;
      l3 = l3;
      l4 = l4;
      l5 = length-put (place + 6) c _ (omega arith) ∙ l4;
    }

shift : {a b c d x : ℕ} → (a ≤ b) ⊎ (c ≤ x) → c ≡ d → (a ≤ b) ⊎ (d ≤ x)
shift (inl h) e = inl h
shift (inr h) e = inr (omega arith)

-- a part that meets none of the five
apart_five : (place size table n : ℕ) (c i g z hs stub : List ℕ) (at count : ℕ) → Rewrite place size table n c i g z hs stub
    → (at + count ≤ place + 6) ⊎ (place + 8 ≤ at)
    → (at + count ≤ place + 24 + 8) ⊎ (place + 24 + 12 ≤ at)
    → (at + count ≤ place + 24 + 56) ⊎ (place + 24 + 60 ≤ at)
    → (at + count ≤ place + 24 + 64) ⊎ (place + 24 + 68 ≤ at)
    → (at + count ≤ table) ⊎ (table + length hs ≤ at)
    → part (five place table c i g z hs stub) at count ≡ part stub at count
apart_five place size table n c i g z hs stub at count r h1 h2 h3 h4 h5 =
    let l = lengths place size table n c i g z hs stub r in
    let k1 : (at + count ≤ place + 6) ⊎ (place + 6 + length c ≤ at) = shift h1 (omega arith) in
    let k2 : (at + count ≤ place + 24 + 8) ⊎ (place + 24 + 8 + length i ≤ at) = shift h2 (omega arith) in
    let k3 : (at + count ≤ place + 24 + 56) ⊎ (place + 24 + 56 + length g ≤ at) = shift h3 (omega arith) in
    let k4 : (at + count ≤ place + 24 + 64) ⊎ (place + 24 + 64 + length z ≤ at) = shift h4 (omega arith) in
    let e1 = l.l1 in let e2 = l.l2 in let e3 = l.l3 in let e4 = l.l4 in
    part-put at count (place + 6) c _ k1 (omega arith)
    ∙ part-put at count (place + 24 + 8) i _ k2 (omega arith)
    ∙ part-put at count (place + 24 + 56) g _ k3 (omega arith)
    ∙ part-put at count (place + 24 + 64) z _ k4 (omega arith)
    ∙ part-put at count table hs stub h5 (omega arith)

-- what a file that begins with the five fields written over reads as
record Agrees (place size table n : ℕ) (c i g z hs stub tail : List ℕ) : Type 0 where
  front : part (five place table c i g z hs stub ++ tail) 0 64 ≡ part stub 0 64
  signature : u32_at (part (five place table c i g z hs stub ++ tail) place 24) 0 ≡ u32_at (part stub place 24) 0
  optional_size : u16_at (part (five place table c i g z hs stub ++ tail) place 24) 20 ≡ u16_at (part stub place 24) 20
  same : SameButSizes (part stub (place + 24) size) (part (five place table c i g z hs stub ++ tail) (place + 24) size)
  table_is : (k : ℕ) → length hs ≡ k → (at count : ℕ) → place + 24 + size ≡ at → at + count ≡ table
      → part (five place table c i g z hs stub ++ tail) at (count + k) ≡ part stub at count ++ hs

part-append : (xs ys : List ℕ) (at count : ℕ) → at + count ≤ length xs → part (xs ++ ys) at count ≡ part xs at count
part-append xs ys at count h =
    ap (take count) (drop-append-le at xs ys (omega arith)) ∙ take-append-le count (drop at xs) ys (omega (arith, length-drop at xs))

agrees : (place size table n : ℕ) (c i g z hs stub tail : List ℕ) → 64 ≤ place → Rewrite place size table n c i g z hs stub
    → Agrees place size table n c i g z hs stub tail
agrees place size table n c i g z hs stub tail low r =
    let w = five place table c i g z hs stub in
    let l = lengths place size table n c i g z hs stub r in
    let e1 = l.l1 in let e2 = l.l2 in let e3 = l.l3 in let e4 = l.l4 in let e5 = l.l5 in
    let at : (p k : ℕ) → p + k ≤ n → part (w ++ tail) p k ≡ part w p k = λ p k h. part-append w tail p k (omega arith) in
    record {
      front = at 0 64 (omega arith) ∙ apart_five place size table n c i g z hs stub 0 64 r (inl (omega arith)) (inl (omega arith)) (inl (omega arith)) (inl (omega arith)) (inl (omega arith));
      signature = u32_field (w ++ tail) stub place 24 0 (omega arith)
          (at (place + 0) 4 (omega arith) ∙ apart_five place size table n c i g z hs stub (place + 0) 4 r (inl (omega arith)) (inl (omega arith)) (inl (omega arith)) (inl (omega arith)) (inl (omega arith)));
      optional_size = u16_field (w ++ tail) stub place 24 20 (omega arith)
          (at (place + 20) 2 (omega arith) ∙ apart_five place size table n c i g z hs stub (place + 20) 2 r (inr (omega arith)) (inl (omega arith)) (inl (omega arith)) (inl (omega arith)) (inl (omega arith)));
      same = record {
        magic = u16_field (w ++ tail) stub (place + 24) size 0 (omega arith)
            (at (place + 24 + 0) 2 (omega arith) ∙ apart_five place size table n c i g z hs stub (place + 24 + 0) 2 r (inr (omega arith)) (inl (omega arith)) (inl (omega arith)) (inl (omega arith)) (inl (omega arith)));
        section_alignment = u32_field (w ++ tail) stub (place + 24) size 32 (omega arith)
            (at (place + 24 + 32) 4 (omega arith) ∙ apart_five place size table n c i g z hs stub (place + 24 + 32) 4 r (inr (omega arith)) (inr (omega arith)) (inl (omega arith)) (inl (omega arith)) (inl (omega arith)));
        file_alignment = u32_field (w ++ tail) stub (place + 24) size 36 (omega arith)
            (at (place + 24 + 36) 4 (omega arith) ∙ apart_five place size table n c i g z hs stub (place + 24 + 36) 4 r (inr (omega arith)) (inr (omega arith)) (inl (omega arith)) (inl (omega arith)) (inl (omega arith)));
        header_size = u32_field (w ++ tail) stub (place + 24) size 60 (omega arith)
            (at (place + 24 + 60) 4 (omega arith) ∙ apart_five place size table n c i g z hs stub (place + 24 + 60) 4 r (inr (omega arith)) (inr (omega arith)) (inr (omega arith)) (inl (omega arith)) (inl (omega arith)));
        directory_count = u32_field_behind (w ++ tail) stub (place + 24) size 68 40 (omega arith) behind68;
        certificate_size = u32_field_behind (w ++ tail) stub (place + 24) size 68 80 (omega arith) behind68;
      };
      table_is = λ k len p count same_at same_table. table_part k len p count same_at same_table;
    }
  where
    lens : Lengths place table n c i g z hs stub
    lens = lengths place size table n c i g z hs stub r

    behind68 : part (five place table c i g z hs stub ++ tail) (place + 24 + 68) (size - 68) ≡ part stub (place + 24 + 68) (size - 68)
    behind68 =
        let e5 = lens.l5 in
        part-append (five place table c i g z hs stub) tail (place + 24 + 68) (size - 68) (omega arith)
        ∙ apart_five place size table n c i g z hs stub (place + 24 + 68) (size - 68) r (inr (omega arith)) (inr (omega arith)) (inr (omega arith)) (inr (omega arith)) (inl (omega arith))

    table_part : (k : ℕ) → length hs ≡ k → (p count : ℕ) → place + 24 + size ≡ p → p + count ≡ table
        → part (five place table c i g z hs stub ++ tail) p (count + k) ≡ part stub p count ++ hs
    table_part k len p count same_at same_table =
        let e1 = lens.l1 in let e2 = lens.l2 in let e3 = lens.l3 in let e4 = lens.l4 in let e5 = lens.l5 in
        part-append (five place table c i g z hs stub) tail p (count + k) (omega arith)
        ∙ part-put p (count + k) (place + 6) c _ (inr (omega arith)) (omega arith)
        ∙ part-put p (count + k) (place + 24 + 8) i _ (inr (omega arith)) (omega arith)
        ∙ part-put p (count + k) (place + 24 + 56) g _ (inr (omega arith)) (omega arith)
        ∙ part-put p (count + k) (place + 24 + 64) z _ (inr (omega arith)) (omega arith)
        ∙ ap (λ (m : ℕ). part (put table hs stub) p (count + m)) (sym len)
        ∙ part-put_end p count table hs stub same_table (omega arith)

-- the fields that were written
record Writes (place size table n : ℕ) (count initialized image : ℕ) (z hs stub tail : List ℕ) : Type 0 where
  count_is : u16_at (part (five place table (little_bytes 2 count) (little_bytes 4 initialized) (little_bytes 4 image) z hs stub ++ tail) place 24) 6 ≡ count
  initialized_is : u32_at (part (five place table (little_bytes 2 count) (little_bytes 4 initialized) (little_bytes 4 image) z hs stub ++ tail) (place + 24) size) 8 ≡ initialized
  image_is : u32_at (part (five place table (little_bytes 2 count) (little_bytes 4 initialized) (little_bytes 4 image) z hs stub ++ tail) (place + 24) size) 56 ≡ image

writes : (place size table n count initialized image : ℕ) (z hs stub tail : List ℕ)
    → Rewrite place size table n (little_bytes 2 count) (little_bytes 4 initialized) (little_bytes 4 image) z hs stub
    → count < 2 ^ 16 → initialized < 2 ^ 32 → image < 2 ^ 32
    → Writes place size table n count initialized image z hs stub tail
writes place size table n count initialized image z hs stub tail r small_count small_initialized small_image =
    let c = little_bytes 2 count in
    let i = little_bytes 4 initialized in
    let g = little_bytes 4 image in
    let w = five place table c i g z hs stub in
    let l = lengths place size table n c i g z hs stub r in
    let e1 = l.l1 in let e2 = l.l2 in let e3 = l.l3 in let e4 = l.l4 in let e5 = l.l5 in
    record {
      count_is = u16_at-part (w ++ tail) place 24 6 (omega arith) ∙ u16_at-append w tail (place + 6) (omega arith)
          ∙ u16_at-put (place + 6) count _ (omega arith) small_count;
      initialized_is = u32_at-part (w ++ tail) (place + 24) size 8 (omega arith) ∙ u32_at-append w tail (place + 24 + 8) (omega arith)
          ∙ u32_at-put_behind (place + 6) c _ (place + 24 + 8) (omega arith) (omega arith)
          ∙ u32_at-put (place + 24 + 8) initialized _ (omega arith) small_initialized;
      image_is = u32_at-part (w ++ tail) (place + 24) size 56 (omega arith) ∙ u32_at-append w tail (place + 24 + 56) (omega arith)
          ∙ u32_at-put_behind (place + 6) c _ (place + 24 + 56) (omega arith) (omega arith)
          ∙ u32_at-put_behind (place + 24 + 8) i _ (place + 24 + 56) (omega arith) (omega arith)
          ∙ u32_at-put (place + 24 + 56) image _ (omega arith) small_image;
    }

-- what the parts' sizes say of the new sections
pub small_of : (stub : List ℕ) (h : Headers) (parts : List PartSize) → HasImage h (length stub) parts
    → Small h.head (length stub) (end_after h.head.header_size h.sections) parts (length_after h.head (length stub) parts)
small_of stub h parts has =
    let new = new_sections h (length stub) parts in
    let whole = end_after-append h.head.header_size h.sections new in
    let image = has.image_size in
    record {
      fits = has.fit;
      file = omega arith;
      small = has.file_length;
      memory = omega (arith, whole, image);
    }

-- the writing of the header fields of an image
rewrite_of : (stub : List ℕ) (h : Headers) (parts : List PartSize) → Shape stub h → HasImage h (length stub) parts
    → Rewrite h.head.pe_place h.head.optional_size (h.head.table_place + 40 * h.head.section_count) (length stub)
    (little_bytes 2 (head_with h (new_sections h (length stub) parts)).section_count)
    (little_bytes 4 (head_with h (new_sections h (length stub) parts)).initialized_size)
    (little_bytes 4 (head_with h (new_sections h (length stub) parts)).image_size)
    (little_bytes 4 0) (flat_map section_header (new_sections h (length stub) parts)) stub
rewrite_of stub h parts shape has =
    let small = small_of stub h parts has in
    let len = length-headers h.head _ (length stub) (end_after h.head.header_size h.sections) parts small in
    let room = has.room in
    let inside = shape.inside in
    let table = shape.table_place in
    let large = shape.optional in
    record {
      count_is = refl;
      initialized_is = refl;
      image_is = refl;
      checksum_is = refl;
      before = omega arith;
      large = large;
      fits = omega arith;
      length_is = refl;
    }

-- the image's stages, as those of a stub
image_stages : (stub tail : List ℕ) (h : Headers) (parts : List PartSize) → Stages stub h → HasImage h (length stub) parts
    → length (with_headers h (new_sections h (length stub) parts) stub ++ tail) ≡ length_after h.head (length stub) parts
    → Stages (with_headers h (new_sections h (length stub) parts) stub ++ tail) (headers_with h (new_sections h (length stub) parts))
unfolding with_headers
image_stages stub tail h parts s has len =
    let new = new_sections h (length stub) parts in
    let a = end_after h.head.header_size h.sections in
    let shape = stages-shape stub h s in
    let image = with_headers h new stub ++ tail in
    let n = length stub in
    let m = length image in
    let small = small_of stub h parts has in
    let place = h.head.pe_place in
    let size = s.coff.optional_size in
    let table_place = h.head.table_place in
    let sc = h.head.section_count in
    let table = table_place + 40 * sc in
    let from = optional_of_is n place s.coff _ h.head s.head_is in
    let same_size : h.head.optional_size ≡ size = from.optional_size in
    let low = shape.place in
    let room = has.room in
    let few = has.few in
    let inside = shape.inside in
    let at = shape.table_place in
    let after = head_with h new in
    let headers = flat_map section_header new in
    let k : length new ≡ length parts = length-sections_for h.head n a parts in
    let hs : length headers ≡ 40 * length new = length-headers h.head _ n a parts small ∙ ap (λ (j : ℕ). 40 * j) (sym k) in
    let grown : n ≤ m = omega (arith, len, le-length_after h.head n parts) in
    let R : ℕ → Type 0 = λ z. Rewrite place z table n (little_bytes 2 after.section_count) (little_bytes 4 after.initialized_size) (little_bytes 4 after.image_size) (little_bytes 4 0) headers stub in
    let r : R size = subst R same_size (rewrite_of stub h parts shape has) in
    let agree = agrees place size table n _ _ _ (little_bytes 4 0) headers stub tail low r in
    let write = writes place size table n after.section_count after.initialized_size after.image_size (little_bytes 4 0) headers stub tail r (omega arith) has.initialized_size has.image_size in
    let S : ℕ → Type 0 = λ z. Small h.head n a parts z in
    let small_here : S m = subst S (sym len) small in
    let twice : 40 * (sc + length new) ≡ 40 * sc + 40 * length new = omega arith in
    let whole : part image table_place (40 * (sc + length new)) ≡ part stub table_place (40 * sc) ++ headers =
    ap (λ (z : ℕ). part image table_place z) twice ∙ agree.table_is (40 * length new) hs table_place (40 * sc) (omega arith) refl in
    let table_length : length (part stub table_place (40 * sc)) ≡ 40 * sc = length-take-le (40 * sc) (drop table_place stub) (omega (arith, length-drop table_place stub)) in
    let old = sections_of-more n m h.head.header_size (length parts) sc table_place [] (part stub table_place (40 * sc)) headers h.sections grown table_length s.sections_is in
    let added = sections_of-new h.head m h.head.header_size n a parts (table_place + 40 * sc) h.sections small_here inside shape.in_file in
    record {
      coff = record { section_count = after.section_count; optional_size = size };
      place_is = ap (pe_place_of m) agree.front ∙ pe_place_of-more n m _ place grown s.place_is;
      coff_is = coff_of-more n m place _ (part image place 24) s.coff grown agree.signature agree.optional_size (omega (arith, write.count_is)) s.coff_is
          ∙ ap (λ (z : ℕ). let c : Coff = record { section_count = z; optional_size = size } in Ok c) write.count_is;
      head_is = optional_of-more n m place after.section_count s.coff _ (part image (place + 24) size) h.head grown agree.same (omega arith) s.head_is
          ∙ ap (λ (z : ℕ). let c : Head = record h.head {
            section_count = after.section_count;
            initialized_size =
                z;
            image_size = u32_at (part image (place + 24) size) 56;
          } in Ok c) write.initialized_is
          ∙ ap (λ (z : ℕ). let c : Head = record h.head { section_count = after.section_count; initialized_size = after.initialized_size; image_size = z } in Ok c) write.image_is;
      sections_is = ap (λ (z : List ℕ). sections_of m h.head.header_size (sc + length new) table_place [] z) whole
          ∙ ap (λ (z : ℕ). sections_of m h.head.header_size (sc + z) table_place [] (part stub table_place (40 * sc) ++ headers)) k
          ∙ old ∙ added;
    }

pub length-with_headers : (stub : List ℕ) (h : Headers) (parts : List PartSize) → Shape stub h → HasImage h (length stub) parts
    → length (with_headers h (new_sections h (length stub) parts) stub) ≡ length stub
unfolding with_headers
length-with_headers stub h parts shape has = (lengths _ _ _ _ _ _ _ _ _ _ (rewrite_of stub h parts shape has)).l5

-- The image of a stub and parts reads as PE, with the stub's sections and the new ones.
pub pe_of-image : (stub : List ℕ) (h : Headers) (parts : List PartSize) (contents : List (List ℕ))
    → pe_of stub ≡ Ok h → HasImage h (length stub) parts → map length contents ≡ map (λ p. p.length) parts
    → pe_of (image_with_parts h parts contents stub) ≡ Ok (headers_with h (new_sections h (length stub) parts))
pe_of-image stub h parts contents e has sizes =
    let s = pe_of-stages stub h e in
    let shape = stages-shape stub h s in
    let w = with_headers h (new_sections h (length stub) parts) stub in
    let lw = length-with_headers stub h parts shape has in
    let t = with_raw-tail h.head.file_alignment w contents in
    let len : length (w ++ t.0) ≡ length_after h.head (length stub) parts =
    ap length (sym t.1) ∙ length-with_raw h.head w parts contents sizes ∙ ap (λ (k : ℕ). length_after h.head k parts) lw in
    ap pe_of t.1 ∙ pe_of-from_stages (w ++ t.0) _ (image_stages stub t.0 h parts s has len)

-- what stands behind the headers stays
pub part-with_headers : (stub : List ℕ) (h : Headers) (parts : List PartSize) (at count : ℕ) → Shape stub h → HasImage h (length stub) parts
    → h.head.header_size ≤ at → part (with_headers h (new_sections h (length stub) parts) stub) at count ≡ part stub at count
unfolding with_headers
part-with_headers stub h parts at count shape has behind =
    let room = has.room in
    let table = shape.table_place in
    let large = shape.optional in
    let len = length-headers h.head _ (length stub) (end_after h.head.header_size h.sections) parts (small_of stub h parts has) in
    apart_five _ _ _ _ _ _ _ _ _ _ at count (rewrite_of stub h parts shape has) (inr (omega arith)) (inr (omega arith)) (inr (omega arith)) (inr (omega arith)) (inr (omega (arith, len)))
