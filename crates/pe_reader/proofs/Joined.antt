-- A file that is made of the bytes that the stages of the reading were given, with zeros between and behind them.
use Rattle.std.proofs.Common.{◌≡◌, ◌≤◌, ◌+◌, ◌-◌, ◌*◌, ℕ, List, [], ◌++◌, length, take, replicate, Ok, refl, ap, ◌∙◌, arith, length-append, append_assoc}
use Rattle.std.proofs.lemmas.List.{drop_at, length-replicate, take-append-le}
use Rattle.std.proofs.Math.Seq.{take-length}
use Rattle.pe_reader.specs.declared.head.Head.{Head}
use Rattle.pe_reader.specs.declared.head.Coff.{Coff}
use Rattle.pe_reader.specs.declared.pe.Pe.{Pe}
use Rattle.pe_reader.specs.Prelude.{part, Headers, pe_place_of, coff_of, optional_of, sections_of, head_of, pe_of, FromBytes, HeadFrom, ReadFrom, headers_of}
use Rattle.pe_reader.proofs.Shape.{pe_place_of_is, optional_of_is}

-- the part that stands between two others
part-middle : (before middle after : List ℕ) (at count : ℕ) → length before ≡ at → length middle ≡ count
    → part (before ++ (middle ++ after)) at count ≡ middle
part-middle before middle after at count a b =
    ap (take count) (drop_at before (middle ++ after) at a)
    ∙ take-append-le count middle after (omega arith)
    ∙ ap (λ (n : ℕ). take n middle) (omega arith)
    ∙ take-length middle

-- the head of bytes that have these parts
head_of-parts : (bytes front header optional : List ℕ) (size place : ℕ) (coff : Coff) (head : Head)
    → length bytes ≡ size → part bytes 0 64 ≡ front → part bytes place 24 ≡ header → part bytes (place + 24) coff.optional_size ≡ optional
    → pe_place_of size front ≡ Ok place → coff_of size place header ≡ Ok coff → optional_of size place coff optional ≡ Ok head
    → head_of bytes ≡ Ok head
unfolding head_of
head_of-parts bytes front header optional size place coff head long a b c p q r = rw (long, a, p, b, q, c, r) refl

pe_of-parts : (bytes table : List ℕ) (size : ℕ) (h : Headers)
    → length bytes ≡ size → head_of bytes ≡ Ok h.head → part bytes h.head.table_place (40 * h.head.section_count) ≡ table
    → sections_of size h.head.header_size h.head.section_count h.head.table_place [] table ≡ Ok h.sections
    → pe_of bytes ≡ Ok h
unfolding pe_of
pe_of-parts bytes table size h long a b s = rw (a, long, b, s) refl

-- The head, by the bytes of its three stages: they stand behind one another, with zeros between the first 64 bytes and
-- the PE header.
pub head_joined : (size place : ℕ) (coff : Coff) (head : Head)
    → FromBytes 64 (pe_place_of size) place
    → FromBytes 24 (coff_of size place) coff
    → FromBytes coff.optional_size (optional_of size place coff) head
    → HeadFrom head size
head_joined size place coff head f h o =
    let gap = replicate (place - 64) 0 in
    let past = pe_place_of_is size f.bytes place f.reads in
    let is = optional_of_is size place coff o.bytes head o.reads in
    let front_gap : length (f.bytes ++ gap) ≡ place = omega (arith, length-append f.bytes gap, length-replicate {A = ℕ} (place - 64) 0, f.length_is) in
    let to_optional : length ((f.bytes ++ gap) ++ h.bytes) ≡ place + 24 = omega (arith, length-append (f.bytes ++ gap) h.bytes, front_gap, h.length_is) in
    record {
      before = ((f.bytes ++ gap) ++ h.bytes) ++ o.bytes;
      length_is = omega (arith, length-append ((f.bytes ++ gap) ++ h.bytes) o.bytes, to_optional, o.length_is, is.table_place);
      reads = λ after long.
          let bytes = (((f.bytes ++ gap) ++ h.bytes) ++ o.bytes) ++ after in
          let first : bytes ≡ [] ++ (f.bytes ++ (gap ++ (h.bytes ++ (o.bytes ++ after)))) = simp append_assoc in
          let second : bytes ≡ (f.bytes ++ gap) ++ (h.bytes ++ (o.bytes ++ after)) = simp append_assoc in
          let third : bytes ≡ ((f.bytes ++ gap) ++ h.bytes) ++ (o.bytes ++ after) = append_assoc ((f.bytes ++ gap) ++ h.bytes) o.bytes after in
          head_of-parts bytes f.bytes h.bytes o.bytes size place coff head long
          (ap (λ (l : List ℕ). part l 0 64) first ∙ part-middle [] f.bytes (gap ++ (h.bytes ++ (o.bytes ++ after))) 0 64 refl f.length_is)
          (ap (λ (l : List ℕ). part l place 24) second ∙ part-middle (f.bytes ++ gap) h.bytes (o.bytes ++ after) place 24 front_gap h.length_is)
          (ap (λ (l : List ℕ). part l (place + 24) coff.optional_size) third ∙ part-middle ((f.bytes ++ gap) ++ h.bytes) o.bytes after (place + 24) coff.optional_size to_optional o.length_is)
          f.reads h.reads o.reads;
    }

-- The table stands behind the head, and zeros behind the table.
pub pe_joined : (pe : Pe) (size : ℕ) → size ≤ 268435456 → pe.head.table_place + 40 * pe.head.section_count ≤ size
    → HeadFrom pe.head size
    → FromBytes (40 * pe.head.section_count) (sections_of size pe.head.header_size pe.head.section_count pe.head.table_place []) pe.sections.items
    → ReadFrom pe size
pe_joined pe size small inside h t =
    let place = pe.head.table_place in
    let count = 40 * pe.head.section_count in
    let rest = replicate (size - (place + count)) 0 in
    let bytes = h.before ++ (t.bytes ++ rest) in
    let long : length bytes ≡ size = omega (arith, length-append h.before (t.bytes ++ rest), length-append t.bytes rest, length-replicate {A = ℕ} (size - (place + count)) 0, h.length_is, t.length_is) in
    record {
      small = small;
      bytes = bytes;
      length_is = long;
      reads = pe_of-parts bytes t.bytes size (headers_of pe) long (h.reads (t.bytes ++ rest) long) (part-middle h.before t.bytes rest place count h.length_is t.length_is) t.reads;
    }
