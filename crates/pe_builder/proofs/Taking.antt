-- The search for the first name that is taken, a step at a time.
use Rattle.std.proofs.Common.{◌≡◌, ◌<◌, ◌≤◌, ◌+◌, ℕ, Bool, true, false, cond, not, List, [], ◌∷◌, length, take, drop, get_or, Some, None, refl, sym, ap, ◌∙◌, Bor, ◌||◌, bytes_eq, nat_cmp, Ordering}
use Rattle.std.specs.BTreeMap.{is_at}
use Rattle.std.specs.BTreeSet.{BTreeSet, contains}
use Rattle.std.specs.Cmp.Lexicographic.{slice_cmp, texts_ties}
use Rattle.std.specs.List.{list_any}
use Rattle.std.proofs.lemmas.List.{take_more, drop_more, drop_all}
use Rattle.std.proofs.lemmas.List.Folds.{list_any-append}
use Rattle.pe_reader.specs.Prelude.{is_named}
use Rattle.uki_parts.specs.Names.{name_bytes}
use Rattle.pe_reader.specs.declared.section.Section.{Section}
use Rattle.pe_builder.specs.declared.size.PartSize.{PartSize}
use Rattle.pe_builder.specs.declared.fault.LayoutFault.TheVariants.{SectionTwice}
use Rattle.pe_builder.specs.Refusals.{is_taken, first_taken, part_is_named}

pub taken_here : (ss : List Section) (parts : List PartSize) (i : ℕ) (d : PartSize) → i < length parts
    → is_taken ss (take i parts) (get_or parts i d) ≡ true
    → first_taken ss (take i parts) (drop i parts) ≡ Some (SectionTwice (get_or parts i d).name)
unfolding first_taken
taken_here ss parts i d h e = rw (drop_more parts i d h, e) refl

pub taken_later : (ss : List Section) (parts : List PartSize) (i : ℕ) (d : PartSize) → i < length parts
    → is_taken ss (take i parts) (get_or parts i d) ≡ false
    → first_taken ss (take (i + 1) parts) (drop (i + 1) parts) ≡ first_taken ss (take i parts) (drop i parts)
unfolding first_taken
taken_later ss parts i d h e = rw (drop_more parts i d h, e, take_more parts i d h) refl

pub taken_nowhere : (ss : List Section) (parts : List PartSize) (i : ℕ) → length parts ≤ i
    → first_taken ss (take i parts) (drop i parts) ≡ None
unfolding first_taken
taken_nowhere ss parts i h = rw (drop_all i parts h) refl

-- names in the order of their bytes
abbrev pub by_name : Bor (List ℕ) → Bor (List ℕ) → Ordering
by_name one other = slice_cmp nat_cmp one.now other.now

-- the set tells which names these parts have
pub record HasNames (names : BTreeSet (Bor (List ℕ))) (parts : List PartSize) : Type 0 where
  pub tells : (name : Bor (List ℕ)) → contains by_name names name ≡ list_any (part_is_named name.now) parts

pub no_names : (names : BTreeSet (Bor (List ℕ))) → names.keys ≡ [] → HasNames names []
no_names names empty = record { tells = λ name. ap (list_any (is_at (by_name name))) empty }

or_end : (here before : Bool) → cond here true before ≡ (before || (here || false))
or_end true true = refl
or_end true false = refl
or_end false true = refl
or_end false false = refl

-- and one part more
pub one_name_more : (old new : BTreeSet (Bor (List ℕ))) (parts : List PartSize) (i : ℕ) (d : PartSize) (name : Bor (List ℕ)) → i < length parts → name.now ≡ name_bytes (get_or parts i d).name
    → HasNames old (take i parts) → ((q : Bor (List ℕ)) → contains by_name new q ≡ cond (is_at (by_name name) q) true (contains by_name old q))
    → HasNames new (take (i + 1) parts)
one_name_more old new parts i d name inside is has now =
    let part = get_or parts i d in
    record {
      tells = λ q.
          let here : is_at (by_name name) q ≡ part_is_named q.now part = sym (texts_ties name.now q.now) ∙ ap (λ (n : List ℕ). bytes_eq n q.now) is in
          now q
          ∙ ap (λ (b : Bool). cond b true (contains by_name old q)) here
          ∙ ap (λ (b : Bool). cond (part_is_named q.now part) true b) (has.tells q)
          ∙ or_end (part_is_named q.now part) (list_any (part_is_named q.now) (take i parts))
          ∙ sym (list_any-append (part_is_named q.now) (take i parts) (part ∷ []))
          ∙ ap (list_any (part_is_named q.now)) (sym (take_more parts i d inside));
    }

-- a name that is in the set, or that a section has, is taken
taken_by_name : (sections : List Section) (parts : List PartSize) (i : ℕ) (d : PartSize) (names : BTreeSet (Bor (List ℕ))) (name : Bor (List ℕ)) (found in_section : Bool)
    → name.now ≡ name_bytes (get_or parts i d).name → HasNames names (take i parts) → found ≡ contains by_name names name → in_section ≡ list_any (is_named name.now) sections
    → is_taken sections (take i parts) (get_or parts i d) ≡ (in_section || found)
taken_by_name sections parts i d names name found in_section is has seen there =
    ap (λ (n : List ℕ). list_any (is_named n) sections || list_any (part_is_named n) (take i parts)) (sym is)
    ∙ ap (λ (b : Bool). b || list_any (part_is_named name.now) (take i parts)) (sym there)
    ∙ ap (λ (b : Bool). in_section || b) (sym (has.tells name) ∙ sym seen)

neither : (in_section found is_new : Bool) → is_new ≡ not found → is_new ≡ true → in_section ≡ false → (in_section || found) ≡ false
neither true found is_new added new none = none
neither false true is_new added new none = sym new ∙ added
neither false false is_new added new none = refl

in_set : (in_section found is_new : Bool) → is_new ≡ not found → is_new ≡ false → (in_section || found) ≡ true
in_set true found is_new added old = refl
in_set false true is_new added old = refl
in_set false false is_new added old = sym old ∙ added

pub not_taken : (sections : List Section) (parts : List PartSize) (i : ℕ) (d : PartSize) (names : BTreeSet (Bor (List ℕ))) (name : Bor (List ℕ)) (is_new in_section : Bool)
    → name.now ≡ name_bytes (get_or parts i d).name → HasNames names (take i parts) → is_new ≡ not (contains by_name names name) → in_section ≡ list_any (is_named name.now) sections
    → is_new ≡ true → in_section ≡ false → is_taken sections (take i parts) (get_or parts i d) ≡ false
not_taken sections parts i d names name is_new in_section is has added there new none =
    taken_by_name sections parts i d names name (contains by_name names name) in_section is has refl there ∙ neither in_section (contains by_name names name) is_new added new none

pub taken_in_set : (sections : List Section) (parts : List PartSize) (i : ℕ) (d : PartSize) (names : BTreeSet (Bor (List ℕ))) (name : Bor (List ℕ)) (is_new : Bool)
    → name.now ≡ name_bytes (get_or parts i d).name → HasNames names (take i parts) → is_new ≡ not (contains by_name names name) → is_new ≡ false
    → is_taken sections (take i parts) (get_or parts i d) ≡ true
taken_in_set sections parts i d names name is_new is has added old =
    taken_by_name sections parts i d names name (contains by_name names name) (list_any (is_named name.now) sections) is has refl refl
    ∙ in_set (list_any (is_named name.now) sections) (contains by_name names name) is_new added old

pub taken_in_section : (sections : List Section) (parts : List PartSize) (i : ℕ) (d : PartSize) (names : BTreeSet (Bor (List ℕ))) (name : Bor (List ℕ)) (in_section : Bool)
    → name.now ≡ name_bytes (get_or parts i d).name → HasNames names (take i parts) → in_section ≡ list_any (is_named name.now) sections → in_section ≡ true
    → is_taken sections (take i parts) (get_or parts i d) ≡ true
taken_in_section sections parts i d names name in_section is has there some =
    taken_by_name sections parts i d names name (contains by_name names name) in_section is has refl there
    ∙ ap (λ (b : Bool). b || contains by_name names name) some
