-- The placing of sections, a step at a time.
use Rattle.std.proofs.Common.{◌≡◌, ◌<◌, ◌≤◌, ◌+◌, ◌^◌, ℕ, List, [], ◌∷◌, ◌++◌, length, drop, get_or, sym, subst, ◌∙◌, arith, append_assoc}
use Rattle.std.proofs.lemmas.List.{drop_more, drop_all, append-nil}
use Rattle.pe_reader.specs.declared.head.Head.{Head}
use Rattle.pe_reader.specs.declared.section.Section.{Section}
use Rattle.pe_builder.specs.declared.size.PartSize.{PartSize}
use Rattle.pe_builder.specs.Layout.{section_for, sections_for, raw_end, virtual_end, length_after, address_after}
use Rattle.pe_builder.proofs.Appending.{le-length_after}
use Rattle.pe_builder.proofs.Totals.{le-address_after}

-- so far these sections stand, and the others will stand behind
pub record ArePlaced (h : Head) (r0 a0 : ℕ) (all : List PartSize) (done : List Section) (r a : ℕ) (rest : List PartSize) : Type 0 where
  pub sections : done ++ sections_for h r a rest ≡ sections_for h r0 a0 all
  pub file : length_after h r rest < 2 ^ 32
  pub memory : address_after h a rest < 2 ^ 32

-- what the next section needs
pub record Room (h : Head) (r a : ℕ) (p : PartSize) : Type 0 where
  pub file : raw_end (section_for h r a p) < 2 ^ 32
  pub memory : virtual_end (section_for h r a p) < 2 ^ 32

room_cons : (h : Head) (r0 a0 : ℕ) (all : List PartSize) (done : List Section) (r a : ℕ) (p : PartSize) (ps : List PartSize)
    → ArePlaced h r0 a0 all done r a (p ∷ ps) → Room h r a p
unfolding length_after address_after
room_cons h r0 a0 all done r a p ps placed =
    let l = le-length_after h (raw_end (section_for h r a p)) ps in
    let e = le-address_after h (virtual_end (section_for h r a p)) ps in
    let f = placed.file in
    let m = placed.memory in
    record { file = omega arith; memory = omega arith }

next_cons : (h : Head) (r0 a0 : ℕ) (all : List PartSize) (done : List Section) (r a : ℕ) (p : PartSize) (ps : List PartSize)
    → ArePlaced h r0 a0 all done r a (p ∷ ps)
    → ArePlaced h r0 a0 all (done ++ section_for h r a p ∷ []) (raw_end (section_for h r a p)) (virtual_end (section_for h r a p)) ps
unfolding length_after address_after sections_for
next_cons h r0 a0 all done r a p ps placed = record {
  sections = append_assoc done (section_for h r a p ∷ []) _ ∙ placed.sections;
  file = placed.file;
  memory = placed.memory;
}

pub room_at : (h : Head) (r0 a0 : ℕ) (all : List PartSize) (done : List Section) (r a i : ℕ) (d : PartSize) → i < length all
    → ArePlaced h r0 a0 all done r a (drop i all) → Room h r a (get_or all i d)
room_at h r0 a0 all done r a i d lt placed =
    let P : List PartSize → Type 0 = λ l. ArePlaced h r0 a0 all done r a l in
    room_cons h r0 a0 all done r a (get_or all i d) (drop (i + 1) all) (subst P (drop_more all i d lt) placed)

pub next_at : (h : Head) (r0 a0 : ℕ) (all : List PartSize) (done : List Section) (r a i : ℕ) (d : PartSize) → i < length all
    → ArePlaced h r0 a0 all done r a (drop i all)
    → ArePlaced h r0 a0 all (done ++ section_for h r a (get_or all i d) ∷ []) (raw_end (section_for h r a (get_or all i d))) (virtual_end (section_for h r a (get_or all i d))) (drop (i + 1) all)
next_at h r0 a0 all done r a i d lt placed =
    let P : List PartSize → Type 0 = λ l. ArePlaced h r0 a0 all done r a l in
    next_cons h r0 a0 all done r a (get_or all i d) (drop (i + 1) all) (subst P (drop_more all i d lt) placed)

pub all_placed : (h : Head) (r0 a0 : ℕ) (all : List PartSize) (done : List Section) (r a i : ℕ) → length all ≤ i
    → ArePlaced h r0 a0 all done r a (drop i all) → done ≡ sections_for h r0 a0 all
unfolding sections_for
all_placed h r0 a0 all done r a i le placed =
    let P : List PartSize → Type 0 = λ l. ArePlaced h r0 a0 all done r a l in
    let none : ArePlaced h r0 a0 all done r a [] = subst P (drop_all i all le) placed in
    sym (append-nil done) ∙ none.sections
