-- What holds of each file that reads as PE.
use Rattle.std.proofs.Common.{◌≡◌, ◌≤◌, ◌+◌, ◌*◌, ℕ, true, List, [], length, Ok, refl, sym, ap, subst, ◌∙◌, arith}
use Rattle.std.specs.List.{list_all}
use Rattle.std.proofs.lemmas.Bool.Decides.{nat_tests}
use Rattle.pe_reader.specs.declared.head.Head.{Head}
use Rattle.pe_reader.specs.declared.head.Coff.{Coff}
use Rattle.pe_reader.specs.declared.section.Section.{Section}
use Rattle.pe_reader.specs.Prelude.{part, Headers, pe_place_of, coff_of, optional_of, sections_of, head_of, pe_of, is_in_file}
use Rattle.pe_reader.proofs.Checks.{bind_ok}
use Rattle.pe_reader.proofs.Tables.{sections_of-in_file, sections_of-length}

pub pe_place_of_is : (n : ℕ) (front : List ℕ) (p : ℕ) → pe_place_of n front ≡ Ok p → 64 ≤ p
unfolding pe_place_of
pe_place_of_is n front p e = grind (arith, nat_tests)

pub record CoffShape (n place : ℕ) (header : List ℕ) (c : Coff) : Type 0 where
  pub long : 112 ≤ c.optional_size
  pub inside : place + 24 + c.optional_size ≤ n
  pub few : c.section_count ≤ 96

pub coff_of_is : (n place : ℕ) (header : List ℕ) (c : Coff) → coff_of n place header ≡ Ok c → CoffShape n place header c
unfolding coff_of
coff_of_is n place header c e = record {
  long = grind (arith, nat_tests);
  inside = grind (arith, nat_tests);
  few = grind (arith, nat_tests);
}

pub record HeadShape (n place : ℕ) (c : Coff) (h : Head) : Type 0 where
  pub pe_place : h.pe_place ≡ place
  pub section_count : h.section_count ≡ c.section_count
  pub optional_size : h.optional_size ≡ c.optional_size
  pub table_place : h.table_place ≡ place + 24 + c.optional_size
  pub room : h.table_place + 40 * h.section_count ≤ h.header_size
  pub inside : h.header_size ≤ n

pub optional_of_is : (n place : ℕ) (c : Coff) (optional : List ℕ) (h : Head) → optional_of n place c optional ≡ Ok h → HeadShape n place c h
unfolding optional_of
optional_of_is n place c optional h e = record {
  pe_place = grind (arith, nat_tests);
  section_count = grind (arith, nat_tests);
  optional_size = grind (arith, nat_tests);
  table_place = grind (arith, nat_tests);
  room = grind (arith, nat_tests);
  inside = grind (arith, nat_tests);
}

-- the stages of the reading, with what each gave
pub record Stages (bytes : List ℕ) (h : Headers) : Type 0 where
  pub coff : Coff
  pub place_is : pe_place_of (length bytes) (part bytes 0 64) ≡ Ok h.head.pe_place
  pub coff_is : coff_of (length bytes) h.head.pe_place (part bytes h.head.pe_place 24) ≡ Ok coff
  pub head_is : optional_of (length bytes) h.head.pe_place coff (part bytes (h.head.pe_place + 24) coff.optional_size) ≡ Ok h.head
  pub sections_is : sections_of (length bytes) h.head.header_size h.head.section_count h.head.table_place [] (part bytes h.head.table_place (40 * h.head.section_count)) ≡ Ok h.sections

stages_of : (bytes : List ℕ) (h : Headers) (place : ℕ) (coff : Coff) (head : Head) (sections : List Section)
    → pe_place_of (length bytes) (part bytes 0 64) ≡ Ok place
    → coff_of (length bytes) place (part bytes place 24) ≡ Ok coff
    → optional_of (length bytes) place coff (part bytes (place + 24) coff.optional_size) ≡ Ok head
    → sections_of (length bytes) head.header_size head.section_count head.table_place [] (part bytes head.table_place (40 * head.section_count)) ≡ Ok sections
    → (head ≡ h.head) × (sections ≡ h.sections) → Stages bytes h
stages_of bytes h place coff head sections p c o s e =
    let at : head.pe_place ≡ place = (optional_of_is (length bytes) place coff _ head o).pe_place in
    let same : place ≡ h.head.pe_place = sym at ∙ ap (λ (k : Head). k.pe_place) e.0 in
    record {
      coff = coff;
      place_is = p ∙ ap (λ (k : ℕ). Ok k) same;
      coff_is = (let P : ℕ → Type 0 = λ k. coff_of (length bytes) k (part bytes k 24) ≡ Ok coff in subst P same c);
      head_is = (
          let P : ℕ → Type 0 = λ k. optional_of (length bytes) k coff (part bytes (k + 24) coff.optional_size) ≡ Ok h.head in
          subst P same (o ∙ ap (λ (k : Head). Ok k) e.0));
      sections_is = (
          let P : Head → Type 0 = λ k. sections_of (length bytes) k.header_size k.section_count k.table_place [] (part bytes k.table_place (40 * k.section_count)) ≡ Ok h.sections in
          subst P e.0 (s ∙ ap (λ (k : List Section). Ok k) e.1));
    }

pub pe_of-stages : (bytes : List ℕ) (h : Headers) → pe_of bytes ≡ Ok h → Stages bytes h
unfolding pe_of head_of
pe_of-stages bytes h e =
    let a = bind_ok (head_of bytes) _ h e in
    let b = bind_ok (sections_of (length bytes) a.0.header_size a.0.section_count a.0.table_place [] (part bytes a.0.table_place (40 * a.0.section_count))) _ h a.2 in
    let c = bind_ok (pe_place_of (length bytes) (part bytes 0 64)) _ a.0 a.1 in
    let d = bind_ok (coff_of (length bytes) c.0 (part bytes c.0 24)) _ a.0 c.2 in
    let last = b.2 in
    stages_of bytes h c.0 d.0 a.0 b.0 c.1 d.1 d.2 b.1 (cc, cc)

-- The stages together are the reading.
pub pe_of-from_stages : (bytes : List ℕ) (h : Headers) → Stages bytes h → pe_of bytes ≡ Ok h
unfolding pe_of head_of
pe_of-from_stages bytes h s = rw (s.place_is, s.coff_is, s.head_is, s.sections_is) refl

-- what the parts above say of the whole
pub record Shape (bytes : List ℕ) (h : Headers) : Type 0 where
  pub place : 64 ≤ h.head.pe_place
  pub optional : 112 ≤ h.head.optional_size
  pub few : h.head.section_count ≤ 96
  pub table_place : h.head.table_place ≡ h.head.pe_place + 24 + h.head.optional_size
  pub room : h.head.table_place + 40 * h.head.section_count ≤ h.head.header_size
  pub inside : h.head.header_size ≤ length bytes
  pub count : length h.sections ≡ h.head.section_count
  pub in_file : list_all (is_in_file (length bytes) h.head.header_size) h.sections ≡ true

pub stages-shape : (bytes : List ℕ) (h : Headers) → Stages bytes h → Shape bytes h
stages-shape bytes h s =
    let c = coff_of_is _ _ _ s.coff s.coff_is in
    let o = optional_of_is _ _ s.coff _ h.head s.head_is in
    record {
      place = pe_place_of_is _ _ _ s.place_is;
      optional = omega (arith, c.long, o.optional_size);
      few = omega (arith, c.few, o.section_count);
      table_place = omega (arith, o.table_place, o.optional_size);
      room = o.room;
      inside = o.inside;
      count = omega (arith, sections_of-length _ _ _ _ _ _ _ s.sections_is);
      in_file = sections_of-in_file _ _ _ _ _ _ _ refl s.sections_is;
    }
