-- The grammar and the nineteen facts, each from the other.
use Rattle.std.proofs.Common.{◌≡◌, ◌≤◌, ◌+◌, ◌*◌, ℕ, nat_le, List, [], length, Ok, Err, Result, subst, refl, sym, ap, ◌∙◌, arith, IsOk, ◌↔◌, if◌then◌else◌}
use Rattle.std.proofs.lemmas.Bool.Decides.{nat_tests}
use Rattle.pe_reader.specs.declared.fault.FailedCheck.{FailedCheck}
use Rattle.pe_reader.specs.declared.head.Head.{Head}
use Rattle.pe_reader.specs.declared.head.Coff.{Coff}
use Rattle.pe_reader.specs.declared.section.Section.{Section}
use Rattle.pe_reader.specs.Prelude.{u16_at, u32_at, part, Headers, pe_of, pe_place_of, coff_of, optional_of, sections_of, IsPe, Describes, signature_place, optional_place, section_count, optional_size, table_place, section_alignment, file_alignment, header_size, directory_count, section_in}
use Rattle.pe_reader.proofs.Places.{u16_at-part, u32_at-part}
use Rattle.pe_reader.proofs.Shape.{Stages, pe_of-stages, pe_of-from_stages}
use Rattle.pe_reader.proofs.TableFacts.{table_sections}
use Rattle.pe_reader.proofs.FieldPlaces.{Front, front_facts, front_reads, CoffFacts, coff_facts, coff_reads, OptionalFacts, optional_facts, optional_head, optional_is, optional_reads}
use Rattle.pe_reader.proofs.FactLemmas.{TableShown, table_shown, table_reads, apart_test, passes_test}

-- fields of the parts, at their places in the whole
front_magic : (bytes : List ℕ) → u16_at (part bytes 0 64) 0 ≡ u16_at bytes 0
front_magic bytes = u16_at-part bytes 0 64 0 (omega arith)

front_place : (bytes : List ℕ) → u32_at (part bytes 0 64) 60 ≡ signature_place bytes
front_place bytes = u32_at-part bytes 0 64 60 (omega arith)

coff_signature : (bytes : List ℕ) (p : ℕ) → u32_at (part bytes p 24) 0 ≡ u32_at bytes p
coff_signature bytes p = u32_at-part bytes p 24 0 (omega arith) ∙ ap (u32_at bytes) (omega arith)

optional_magic : (bytes : List ℕ) (o z : ℕ) → 2 ≤ z → u16_at (part bytes o z) 0 ≡ u16_at bytes o
optional_magic bytes o z h = u16_at-part bytes o z 0 (omega arith) ∙ ap (u16_at bytes) (omega arith)

-- the certificate size looks at its field only where the directory is there
certificate : (bytes : List ℕ) (o z d : ℕ) → 112 + 8 * d ≤ z
    → (if nat_le 5 d then u32_at (part bytes o z) 148 else 0) ≡ (if nat_le 5 d then u32_at bytes (o + 148) else 0)
certificate bytes o z d h =
    let same : 5 ≤ d → u32_at (part bytes o z) 148 ≡ u32_at bytes (o + 148) = λ five. u32_at-part bytes o z 148 (omega arith) in
    grind (arith, nat_tests)

-- the head by its fields in the whole
place_head : (bytes : List ℕ) (p count z : ℕ) → Head
place_head bytes p count z = record {
  pe_place = p;
  section_count = count;
  optional_size = z;
  initialized_size = u32_at bytes (p + 24 + 8);
  section_alignment = u32_at bytes (p + 24 + 32);
  file_alignment = u32_at bytes (p + 24 + 36);
  image_size = u32_at bytes (p + 24 + 56);
  header_size = u32_at bytes (p + 24 + 60);
  directory_count = u32_at bytes (p + 24 + 108);
  certificate_size = (if nat_le 5 (u32_at bytes (p + 24 + 108)) then u32_at bytes (p + 24 + 148) else 0);
  table_place = p + 24 + z;
}

head_shown : (bytes : List ℕ) (p count z : ℕ) → 112 ≤ z → 112 + 8 * u32_at bytes (p + 24 + 108) ≤ z
    → optional_head p (record { section_count = count; optional_size = z }) (part bytes (p + 24) z) ≡ place_head bytes p count z
unfolding optional_head place_head
head_shown bytes p count z h d =
    let o = p + 24 in
    rw (u32_at-part bytes o z 8 (omega arith), u32_at-part bytes o z 32 (omega arith), u32_at-part bytes o z 36 (omega arith), u32_at-part bytes o z 56 (omega arith), u32_at-part bytes o z 60 (omega arith), u32_at-part bytes o z 108 (omega arith), certificate bytes o z (u32_at bytes (o + 108)) d) refl

-- what the stages show, at the fields' places
record IsShown (bytes : List ℕ) (h : Headers) : Type 0 where
  pub front : Front (length bytes) (u16_at bytes 0) (signature_place bytes)
  pub coff : CoffFacts (length bytes) (signature_place bytes) (u32_at bytes (signature_place bytes)) (section_count bytes) (optional_size bytes)
  pub optional : OptionalFacts (length bytes) (table_place bytes) (section_count bytes) (optional_size bytes) (u16_at bytes (optional_place bytes)) (section_alignment bytes) (file_alignment bytes) (directory_count bytes) (header_size bytes)
  pub head : h.head ≡ place_head bytes (signature_place bytes) (section_count bytes) (optional_size bytes)
  pub table : TableShown bytes (header_size bytes) (section_count bytes) (table_place bytes) h.sections

optional_stage : (bytes : List ℕ) (size p count z : ℕ) (head : Head) → 112 ≤ z
    → optional_of size p (record { section_count = count; optional_size = z }) (part bytes (p + 24) z) ≡ Ok head
    → OptionalFacts size (p + 24 + z) count z (u16_at bytes (p + 24)) (u32_at bytes (p + 24 + 32)) (u32_at bytes (p + 24 + 36)) (u32_at bytes (p + 24 + 108)) (u32_at bytes (p + 24 + 60))
    × (head ≡ place_head bytes p count z)
optional_stage bytes size p count z head long e =
    let c : Coff = record { section_count = count; optional_size = z } in
    let facts = optional_facts size p c (part bytes (p + 24) z) head e in
    let is = optional_is size p c (part bytes (p + 24) z) head e in
    let shown : OptionalFacts size (p + 24 + z) count z (u16_at bytes (p + 24)) (u32_at bytes (p + 24 + 32)) (u32_at bytes (p + 24 + 36)) (u32_at bytes (p + 24 + 108)) (u32_at bytes (p + 24 + 60)) =
    rw (optional_magic bytes (p + 24) z (omega arith), u32_at-part bytes (p + 24) z 32 (omega arith), u32_at-part bytes (p + 24) z 36 (omega arith), u32_at-part bytes (p + 24) z 108 (omega arith), u32_at-part bytes (p + 24) z 60 (omega arith)) at facts in
    (shown, is ∙ head_shown bytes p count z long shown.directories_inside)

table_stage : (bytes : List ℕ) (p count z : ℕ) (head : Head) (sections : List Section) → head ≡ place_head bytes p count z
    → sections_of (length bytes) head.header_size head.section_count head.table_place [] (part bytes head.table_place (40 * head.section_count)) ≡ Ok sections
    → TableShown bytes (u32_at bytes (p + 24 + 60)) count (p + 24 + z) sections
unfolding place_head
table_stage bytes p count z head sections is e =
    let P : Head → Type 0 = λ k. sections_of (length bytes) k.header_size k.section_count k.table_place [] (part bytes k.table_place (40 * k.section_count)) ≡ Ok sections in
    table_shown bytes (u32_at bytes (p + 24 + 60)) count (p + 24 + z) sections (subst P is e)

shown_of : (bytes : List ℕ) (h : Headers) (c : Coff) (place : ℕ)
    → pe_place_of (length bytes) (part bytes 0 64) ≡ Ok place
    → coff_of (length bytes) place (part bytes place 24) ≡ Ok c
    → optional_of (length bytes) place c (part bytes (place + 24) c.optional_size) ≡ Ok h.head
    → sections_of (length bytes) h.head.header_size h.head.section_count h.head.table_place [] (part bytes h.head.table_place (40 * h.head.section_count)) ≡ Ok h.sections
    → IsShown bytes h
shown_of bytes h c place at coff optional sections =
    let p = signature_place bytes in
    let front = front_facts (length bytes) (u16_at bytes 0) p place (part bytes 0 64) (front_magic bytes) (front_place bytes) at in
    let P : ℕ → Type 0 = λ k. coff_of (length bytes) k (part bytes k 24) ≡ Ok c in
    let here : coff_of (length bytes) p (part bytes p 24) ≡ Ok c = subst P (sym front.1) coff in
    let f = coff_facts (length bytes) p (u32_at bytes p) (section_count bytes) (optional_size bytes) (part bytes p 24) c (coff_signature bytes p) (u16_at-part bytes p 24 6 (omega arith)) (u16_at-part bytes p 24 20 (omega arith)) here in
    let Q : ℕ → Type 0 = λ k. optional_of (length bytes) k c (part bytes (k + 24) c.optional_size) ≡ Ok h.head in
    let R : Coff → Type 0 = λ k. optional_of (length bytes) p k (part bytes (p + 24) k.optional_size) ≡ Ok h.head in
    let next = subst R f.1 (subst Q (sym front.1) optional) in
    let o = optional_stage bytes (length bytes) p (section_count bytes) (optional_size bytes) h.head f.0.long next in
    record {
      front = front.0;
      coff = f.0;
      optional = o.0;
      head = o.1;
      table = table_stage bytes p (section_count bytes) (optional_size bytes) h.head h.sections o.1 sections;
    }

shown : (bytes : List ℕ) (h : Headers) → pe_of bytes ≡ Ok h → IsShown bytes h
shown bytes h e =
    let s = pe_of-stages bytes h e in
    shown_of bytes h s.coff h.head.pe_place s.place_is s.coff_is s.head_is s.sections_is

-- Bytes that the grammar accepts have the nineteen facts.
pub facts_of : (bytes : List ℕ) (h : Headers) → pe_of bytes ≡ Ok h → IsPe bytes
facts_of bytes h e =
    let s = shown bytes h e in
    let f = s.front in
    let c = s.coff in
    let o = s.optional in
    let t = s.table in
    record {
      long_enough = f.long;
      begins_with_mz = f.magic_is;
      signature_past_start = f.past_start;
      coff_header_inside = c.inside;
      signature_is_pe = c.signature_is;
      few_sections = c.few;
      optional_long_enough = c.long;
      optional_inside = c.optional_inside;
      is_not_pe32 = λ old. (let same = o.magic_is in absurd (omega arith));
      is_pe32_plus = o.magic_is;
      memory_aligned = (search (o.memory_power), o.memory_bound);
      file_aligned = (search (o.file_power), o.file_bound);
      directories_inside = o.directories_inside;
      table_inside = o.table_inside;
      headers_inside = (o.room, o.inside);
      sizes_bounded = λ i lt. (t.pass i lt).virtual_size;
      addresses_bounded = λ i lt. (t.pass i lt).address;
      raw_data_inside = λ i lt. (t.pass i lt).inside;
      raw_data_apart = t.apart;
    }

-- What they say is what stands at the fields' places.
pub describes : (bytes : List ℕ) (h : Headers) → pe_of bytes ≡ Ok h → Describes bytes h
unfolding place_head
describes bytes h e =
    let s = shown bytes h e in
    record {
      head_is = s.head;
      count_is = s.table.count_is;
      sections_are = s.table.are;
    }

-- the other way: the stages, each from its facts
optional_from : (bytes : List ℕ) (size p count z : ℕ) → 112 ≤ z
    → OptionalFacts size (p + 24 + z) count z (u16_at bytes (p + 24)) (u32_at bytes (p + 24 + 32)) (u32_at bytes (p + 24 + 36)) (u32_at bytes (p + 24 + 108)) (u32_at bytes (p + 24 + 60))
    → optional_of size p (record { section_count = count; optional_size = z }) (part bytes (p + 24) z) ≡ Ok (place_head bytes p count z)
optional_from bytes size p count z long facts =
    let c : Coff = record { section_count = count; optional_size = z } in
    let parts : OptionalFacts size (p + 24 + z) count z (u16_at (part bytes (p + 24) z) 0) (u32_at (part bytes (p + 24) z) 32) (u32_at (part bytes (p + 24) z) 36) (u32_at (part bytes (p + 24) z) 108) (u32_at (part bytes (p + 24) z) 60) =
    rw (optional_magic bytes (p + 24) z (omega arith), u32_at-part bytes (p + 24) z 32 (omega arith), u32_at-part bytes (p + 24) z 36 (omega arith), u32_at-part bytes (p + 24) z 108 (omega arith), u32_at-part bytes (p + 24) z 60 (omega arith)) facts in
    optional_reads size p c (part bytes (p + 24) z) parts ∙ ap (λ (k : Head). Ok k) (head_shown bytes p count z long facts.directories_inside)

optional_of_facts : (bytes : List ℕ) → IsPe bytes
    → OptionalFacts (length bytes) (table_place bytes) (section_count bytes) (optional_size bytes) (u16_at bytes (optional_place bytes)) (section_alignment bytes) (file_alignment bytes) (directory_count bytes) (header_size bytes)
optional_of_facts bytes f =
    let memory = f.memory_aligned in
    let file = f.file_aligned in
    let headers = f.headers_inside in
    record {
      magic_is = f.is_pe32_plus;
      memory_power = search (memory.0);
      memory_bound = memory.1;
      file_power = search (file.0);
      file_bound = file.1;
      directories_inside = f.directories_inside;
      table_inside = f.table_inside;
      room = headers.0;
      inside = headers.1;
    }

coff_of_facts : (bytes : List ℕ) → IsPe bytes
    → CoffFacts (length bytes) (signature_place bytes) (u32_at bytes (signature_place bytes)) (section_count bytes) (optional_size bytes)
coff_of_facts bytes f = record {
  inside = f.coff_header_inside;
  signature_is = f.signature_is_pe;
  few = f.few_sections;
  long = f.optional_long_enough;
  optional_inside = f.optional_inside;
}

headers_in : List ℕ → Headers
headers_in bytes = record {
  head = place_head bytes (signature_place bytes) (section_count bytes) (optional_size bytes);
  sections = table_sections (section_count bytes) (part bytes (table_place bytes) (40 * section_count bytes));
}

stages_of_facts : (bytes : List ℕ) → IsPe bytes → Stages bytes (headers_in bytes)
unfolding headers_in place_head
stages_of_facts bytes f =
    let p = signature_place bytes in
    let count = section_count bytes in
    let z = optional_size bytes in
    let front : Front (length bytes) (u16_at bytes 0) p = record {
      long = f.long_enough;
      magic_is = f.begins_with_mz;
      past_start = f.signature_past_start;
    } in
    record {
      coff = record { section_count = count; optional_size = z };
      place_is = front_reads (length bytes) (u16_at bytes 0) p (part bytes 0 64) (front_magic bytes) (front_place bytes) front;
      coff_is = coff_reads (length bytes) p (u32_at bytes p) count z (part bytes p 24) (coff_signature bytes p) (u16_at-part bytes p 24 6 (omega arith)) (u16_at-part bytes p 24 20 (omega arith)) (coff_of_facts bytes f);
      head_is = optional_from bytes (length bytes) p count z f.optional_long_enough (optional_of_facts bytes f);
      sections_is = table_reads bytes (header_size bytes) count (table_place bytes)
          (λ i lt. passes_test (length bytes) (header_size bytes) (section_in bytes i) (f.sizes_bounded i lt) (f.addresses_bounded i lt) (f.raw_data_inside i lt))
          (λ i j a b. apart_test (section_in bytes j) (section_in bytes i) (f.raw_data_apart i j a b));
    }

-- Bytes that have the nineteen facts are accepted.
pub reads_facts : (bytes : List ℕ) → IsPe bytes → (h : Headers) × (pe_of bytes ≡ Ok h)
reads_facts bytes f = (headers_in bytes, pe_of-from_stages bytes (headers_in bytes) (stages_of_facts bytes f))

ok_of : (r : Result Headers FailedCheck) → IsOk r → (h : Headers) × (r ≡ Ok h)
ok_of (Ok h) is_ok = (h, refl)
ok_of (Err e) is_ok = cc

ok_from : (r : Result Headers FailedCheck) (h : Headers) → r ≡ Ok h → IsOk r
ok_from r h e = rw e refl

-- The grammar accepts exactly the bytes that have the nineteen facts.
pub accepts_facts : (bytes : List ℕ) → IsOk (pe_of bytes) ↔ IsPe bytes
accepts_facts bytes = (
  λ accepted. (let h = ok_of (pe_of bytes) accepted in facts_of bytes h.0 h.1),
  λ facts. (let h = reads_facts bytes facts in ok_from (pe_of bytes) h.0 h.1),
)
