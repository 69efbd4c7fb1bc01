-- The stages of the reading, by the numbers that stand at the fields' places.
use Rattle.std.proofs.Common.{◌≡◌, ◌<◌, ◌≤◌, ◌+◌, ◌-◌, ◌*◌, ℕ, true, nat_le, List, take, drop, Ok, refl, ap, ◌∙◌, arith, if◌then◌else◌}
use Rattle.std.specs.Int.{is_power_of_two}
use Rattle.std.proofs.lemmas.Bool.Decides.{nat_tests}
use Rattle.std.proofs.lemmas.List.{drop-drop, drop-take, take-take}
use Rattle.pe_reader.specs.declared.head.Head.{Head}
use Rattle.pe_reader.specs.declared.head.Coff.{Coff}
use Rattle.pe_reader.specs.Prelude.{u16_at, u32_at, part, pe_place_of, coff_of, optional_of, section_at, section_from}
use Rattle.pe_reader.proofs.Places.{u32_at-part}

-- the place of the PE header, by the two numbers that are looked at
pub record Front (size magic place : ℕ) : Type 0 where
  pub long : 64 ≤ size
  pub magic_is : magic ≡ 0x5A4D
  pub past_start : 64 ≤ place

pub front_facts : (size magic place p : ℕ) (front : List ℕ) → u16_at front 0 ≡ magic → u32_at front 60 ≡ place
    → pe_place_of size front ≡ Ok p → Front size magic place × (place ≡ p)
unfolding pe_place_of
front_facts size magic place p front a b e = (
  record {
    long = grind (arith, nat_tests);
    magic_is = grind (arith, nat_tests);
    past_start = grind (arith, nat_tests);
  },
  grind (arith, nat_tests),
)

pub front_reads : (size magic place : ℕ) (front : List ℕ) → u16_at front 0 ≡ magic → u32_at front 60 ≡ place
    → Front size magic place → pe_place_of size front ≡ Ok place
unfolding pe_place_of
front_reads size magic place front a b f =
    let long = f.long in
    let magic_is = f.magic_is in
    let past_start = f.past_start in
    grind (arith, nat_tests)

-- the COFF header, by the three numbers that are looked at
pub record CoffFacts (size place signature count optional : ℕ) : Type 0 where
  pub inside : place + 24 ≤ size
  pub signature_is : signature ≡ 0x4550
  pub few : count ≤ 96
  pub long : 112 ≤ optional
  pub optional_inside : place + 24 + optional ≤ size

pub coff_facts : (size place signature count optional : ℕ) (header : List ℕ) (c : Coff)
    → u32_at header 0 ≡ signature → u16_at header 6 ≡ count → u16_at header 20 ≡ optional
    → coff_of size place header ≡ Ok c
    → CoffFacts size place signature count optional × (c ≡ record { section_count = count; optional_size = optional })
unfolding coff_of
coff_facts size place signature count optional header c a b d e = (
  record {
    inside = grind (arith, nat_tests);
    signature_is = grind (arith, nat_tests);
    few = grind (arith, nat_tests);
    long = grind (arith, nat_tests);
    optional_inside = grind (arith, nat_tests);
  },
  grind (arith, nat_tests),
)

pub coff_reads : (size place signature count optional : ℕ) (header : List ℕ)
    → u32_at header 0 ≡ signature → u16_at header 6 ≡ count → u16_at header 20 ≡ optional
    → CoffFacts size place signature count optional
    → coff_of size place header ≡ Ok (record { section_count = count; optional_size = optional })
unfolding coff_of
coff_reads size place signature count optional header a b d f =
    let inside = f.inside in
    let signature_is = f.signature_is in
    let few = f.few in
    let long = f.long in
    let optional_inside = f.optional_inside in
    grind (arith, nat_tests)

-- the optional header, by its fields
pub record OptionalFacts (size table count optional : ℕ) (magic memory_unit file_unit directories headers : ℕ) : Type 0 where
  pub magic_is : magic ≡ 0x20B
  pub memory_power : is_power_of_two memory_unit ≡ true
  pub memory_bound : memory_unit ≤ 65536
  pub file_power : is_power_of_two file_unit ≡ true
  pub file_bound : file_unit ≤ memory_unit
  pub directories_inside : 112 + 8 * directories ≤ optional
  pub table_inside : table + 40 * count ≤ size
  pub room : table + 40 * count ≤ headers
  pub inside : headers ≤ size

pub optional_facts : (size place : ℕ) (c : Coff) (optional : List ℕ) (h : Head) → optional_of size place c optional ≡ Ok h
    → OptionalFacts size (place + 24 + c.optional_size) c.section_count c.optional_size (u16_at optional 0) (u32_at optional 32) (u32_at optional 36) (u32_at optional 108) (u32_at optional 60)
unfolding optional_of
optional_facts size place c optional h e = record {
  magic_is = grind (arith, nat_tests);
  memory_power = grind (arith, nat_tests);
  memory_bound = grind (arith, nat_tests);
  file_power = grind (arith, nat_tests);
  file_bound = grind (arith, nat_tests);
  directories_inside = grind (arith, nat_tests);
  table_inside = grind (arith, nat_tests);
  room = grind (arith, nat_tests);
  inside = grind (arith, nat_tests);
}

unfoldable pub optional_head : (place : ℕ) (c : Coff) (optional : List ℕ) → Head
optional_head place c optional = record {
  pe_place = place;
  section_count = c.section_count;
  optional_size = c.optional_size;
  initialized_size = u32_at optional 8;
  section_alignment = u32_at optional 32;
  file_alignment = u32_at optional 36;
  image_size = u32_at optional 56;
  header_size = u32_at optional 60;
  directory_count = u32_at optional 108;
  certificate_size = (if nat_le 5 (u32_at optional 108) then u32_at optional 148 else 0);
  table_place = place + 24 + c.optional_size;
}

pub optional_is : (size place : ℕ) (c : Coff) (optional : List ℕ) (h : Head) → optional_of size place c optional ≡ Ok h
    → h ≡ optional_head place c optional
unfolding optional_of optional_head
optional_is size place c optional h e = grind (arith, nat_tests)

pub optional_reads : (size place : ℕ) (c : Coff) (optional : List ℕ)
    → OptionalFacts size (place + 24 + c.optional_size) c.section_count c.optional_size (u16_at optional 0) (u32_at optional 32) (u32_at optional 36) (u32_at optional 108) (u32_at optional 60)
    → optional_of size place c optional ≡ Ok (optional_head place c optional)
unfolding optional_of optional_head
optional_reads size place c optional f =
    let magic_is = f.magic_is in
    let memory_power = f.memory_power in
    let memory_bound = f.memory_bound in
    let file_power = f.file_power in
    let file_bound = f.file_bound in
    let directories_inside = f.directories_inside in
    let table_inside = f.table_inside in
    let room = f.room in
    let inside = f.inside in
    grind (arith, nat_tests)

-- a section header is read from the part that is the table
section_at-part : (bytes : List ℕ) (place count : ℕ) → 40 ≤ count → section_at (part bytes place count) ≡ section_from bytes place
unfolding section_at
section_at-part bytes place count h =
    rw (take-take 8 count (drop place bytes) (omega arith), u32_at-part bytes place count 8 (omega arith), u32_at-part bytes place count 12 (omega arith), u32_at-part bytes place count 16 (omega arith), u32_at-part bytes place count 20 (omega arith), u32_at-part bytes place count 36 (omega arith)) refl

drop-part : (bytes : List ℕ) (place i count k : ℕ) → count ≡ i + k → drop i (part bytes place count) ≡ part bytes (place + i) k
drop-part bytes place i count k h =
    ap (λ (n : ℕ). drop i (take n (drop place bytes))) h ∙ drop-take i k (drop place bytes) ∙ ap (take k) (drop-drop i place bytes)

pub section_at-table : (bytes : List ℕ) (place count i : ℕ) → i < count
    → section_at (drop (40 * i) (part bytes place (40 * count))) ≡ section_from bytes (place + 40 * i)
section_at-table bytes place count i h =
    ap section_at (drop-part bytes place (40 * i) (40 * count) (40 * count - 40 * i) (omega arith)) ∙ section_at-part bytes (place + 40 * i) (40 * count - 40 * i) (omega arith)
