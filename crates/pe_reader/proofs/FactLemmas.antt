-- The grammar accepts exactly the bytes of which the nineteen facts hold, and gives the numbers at the fields' places.
use Rattle.std.proofs.Common.{◌≡◌, ◌<◌, ◌≤◌, ◌+◌, ◌*◌, ℕ, true, List, [], length, Ok, inl, inr, get_or, refl, sym, ap, ◌∙◌, arith}
use Rattle.std.proofs.lemmas.Bool.{cases_lt}
use Rattle.std.proofs.lemmas.Bool.Decides.{nat_tests}
use Rattle.pe_reader.specs.declared.section.Section.{Section}
use Rattle.pe_reader.specs.Prelude.{part, sections_of, is_in_file, is_apart, no_section, IsInside, AreApart, section_from}
use Rattle.pe_reader.proofs.Tables.{AllApart, at_list_all, sections_of-apart}
use Rattle.pe_reader.proofs.TableFacts.{passes, table_sections, length-table_sections, get_or-table_sections, list_all-from, sections_of-table, sections_of-from}
use Rattle.pe_reader.proofs.FieldPlaces.{section_at-table}

-- tests of raw data as facts
inside_fact : (headers size : ℕ) (s : Section) → is_in_file size headers s ≡ true → IsInside headers size s
inside_fact headers size s e some = (grind (arith, nat_tests), grind (arith, nat_tests))

inside_some : (headers size : ℕ) (s : Section) → headers ≤ s.raw_place → s.raw_place + s.raw_size ≤ size → is_in_file size headers s ≡ true
inside_some headers size s a b = grind (arith, nat_tests)

inside_none : (headers size : ℕ) (s : Section) → s.raw_size ≤ 0 → is_in_file size headers s ≡ true
inside_none headers size s none = grind (arith, nat_tests)

apart_behind : (a b : Section) → is_apart a b ≡ true → 0 < a.raw_size → 0 < b.raw_size → b.raw_place < a.raw_place + a.raw_size → b.raw_place + b.raw_size ≤ a.raw_place
apart_behind a b e some other not_before = grind (arith, nat_tests)

apart_from_before : (a b : Section) → a.raw_place + a.raw_size ≤ b.raw_place → is_apart a b ≡ true
apart_from_before a b before = grind (arith, nat_tests)

apart_from_behind : (a b : Section) → b.raw_place + b.raw_size ≤ a.raw_place → is_apart a b ≡ true
apart_from_behind a b behind = grind (arith, nat_tests)

apart_first_empty : (a b : Section) → a.raw_size ≤ 0 → is_apart a b ≡ true
apart_first_empty a b none = grind (arith, nat_tests)

apart_second_empty : (a b : Section) → b.raw_size ≤ 0 → is_apart a b ≡ true
apart_second_empty a b none = grind (arith, nat_tests)

inside_test : (headers size : ℕ) (s : Section) → IsInside headers size s → is_in_file size headers s ≡ true
inside_test headers size s h = elim (cases_lt 0 s.raw_size) [
  | inl some ↦
      let f = h some in
      let a = f.0 in
      let b = f.1 in
      inside_some headers size s a b
  | inr none ↦ inside_none headers size s none
]

apart_fact : (a b : Section) → is_apart a b ≡ true → AreApart a b
apart_fact a b e some other = elim (cases_lt b.raw_place (a.raw_place + a.raw_size)) [
  | inl not_before ↦ inr (apart_behind a b e some other not_before)
  | inr before ↦ inl before
]

pub apart_test : (a b : Section) → AreApart a b → is_apart a b ≡ true
apart_test a b h = elim (cases_lt 0 a.raw_size) [
  | inl some ↦ elim (cases_lt 0 b.raw_size) [
    | inl other ↦ elim (h some other) [
      | inl before ↦ apart_from_before a b before
      | inr behind ↦ apart_from_behind a b behind
    ]
    | inr none ↦ apart_second_empty a b none
  ]
  | inr none ↦ apart_first_empty a b none
]

-- what passes the checks of one section, as facts
pub record Passes (size headers : ℕ) (s : Section) : Type 0 where
  pub virtual_size : s.virtual_size ≤ 268435456
  pub address : s.virtual_address + s.virtual_size ≤ 4294967296
  pub inside : IsInside headers size s

passes_facts : (size headers : ℕ) (s : Section) → passes size headers s ≡ true → Passes size headers s
passes_facts size headers s e = record {
  virtual_size = grind (arith, nat_tests);
  address = grind (arith, nat_tests);
  inside = inside_fact headers size s (grind (arith, nat_tests));
}

pub passes_test : (size headers : ℕ) (s : Section) → s.virtual_size ≤ 268435456 → s.virtual_address + s.virtual_size ≤ 4294967296 → IsInside headers size s → passes size headers s ≡ true
passes_test size headers s a b h =
    let c = inside_test headers size s h in
    grind (arith, nat_tests)

-- the sections of a table by their places in the bytes
pub record TableShown (bytes : List ℕ) (headers count place : ℕ) (sections : List Section) : Type 0 where
  pub count_is : length sections ≡ count
  pub are : (i : ℕ) → i < count → get_or sections i no_section ≡ section_from bytes (place + 40 * i)
  pub pass : (i : ℕ) → i < count → Passes (length bytes) headers (section_from bytes (place + 40 * i))
  pub apart : (i j : ℕ) → i < j → j < count → AreApart (section_from bytes (place + 40 * j)) (section_from bytes (place + 40 * i))

none_apart : AllApart [] no_section
none_apart = record { apart = λ i j a b. absurd (omega arith) }

table_at : (bytes : List ℕ) (count place : ℕ) (sections : List Section) → sections ≡ table_sections count (part bytes place (40 * count))
    → (i : ℕ) → i < count → get_or sections i no_section ≡ section_from bytes (place + 40 * i)
table_at bytes count place sections e i h =
    ap (λ (l : List Section). get_or l i no_section) e ∙ get_or-table_sections count (part bytes place (40 * count)) i no_section h ∙ section_at-table bytes place count i h

pub table_shown : (bytes : List ℕ) (headers count place : ℕ) (sections : List Section)
    → sections_of (length bytes) headers count place [] (part bytes place (40 * count)) ≡ Ok sections
    → TableShown bytes headers count place sections
table_shown bytes headers count place sections e =
    let table = part bytes place (40 * count) in
    let t = sections_of-table (length bytes) headers count place [] table sections e in
    let l = length-table_sections count table in
    let len : length sections ≡ count = ap length t.0 ∙ l in
    let apart = sections_of-apart (length bytes) headers count place [] table sections no_section e none_apart in
    let at = table_at bytes count place sections t.0 in
    record {
      count_is = len;
      are = at;
      pass = λ i h.
          let one = at_list_all (passes (length bytes) headers) (table_sections count table) i no_section (omega arith) t.1 in
          let same = get_or-table_sections count table i no_section h ∙ section_at-table bytes place count i h in
          passes_facts (length bytes) headers (section_from bytes (place + 40 * i)) (ap (passes (length bytes) headers) (sym same) ∙ one);
      apart = λ i j a b.
          let two = apart.apart i j a (omega arith) in
          apart_fact (section_from bytes (place + 40 * j)) (section_from bytes (place + 40 * i)) (ap (λ (s : Section). is_apart s (section_from bytes (place + 40 * i))) (sym (at j b)) ∙ ap (is_apart (get_or sections j no_section)) (sym (at i (omega arith))) ∙ two);
    }

-- a table whose sections pass, by their places
pub table_reads : (bytes : List ℕ) (headers count place : ℕ)
    → ((i : ℕ) → i < count → passes (length bytes) headers (section_from bytes (place + 40 * i)) ≡ true)
    → ((i j : ℕ) → i < j → j < count → is_apart (section_from bytes (place + 40 * j)) (section_from bytes (place + 40 * i)) ≡ true)
    → sections_of (length bytes) headers count place [] (part bytes place (40 * count)) ≡ Ok (table_sections count (part bytes place (40 * count)))
table_reads bytes headers count place pass apart =
    let table = part bytes place (40 * count) in
    let l = length-table_sections count table in
    let at = table_at bytes count place (table_sections count table) refl in
    let all = list_all-from (passes (length bytes) headers) (table_sections count table) no_section (λ i h. ap (passes (length bytes) headers) (at i (omega arith)) ∙ pass i (omega arith)) in
    let every : AllApart (table_sections count table) no_section = record {
      apart = λ i j a b. ap (λ (s : Section). is_apart s (get_or (table_sections count table) i no_section)) (at j (omega arith))
          ∙ ap (is_apart (section_from bytes (place + 40 * j))) (at i (omega arith)) ∙ apart i j a (omega arith);
    } in
    sections_of-from (length bytes) headers count place [] table no_section all every
