-- The sections of an image that registers measure.
use Rattle.std.proofs.Common.{◌≡◌, ◌<◌, ◌≤◌, ◌+◌, ℕ, List, [], ◌∷◌, ◌++◌, length, drop, slice_index_or, Ok, sym, ap, subst, ◌∙◌, arith, Some, None, position}
use Rattle.std.specs.List.{AllZip}
use Rattle.pe_reader.specs.declared.section.LoadedRange.{LoadedRange}
use Rattle.pe_reader.specs.Prelude.{Headers, pe_of, is_named, section_at_index, range_of, bytes_in, loaded_bytes}
use Rattle.pcr_values.specs.declared.bank.Bank.{Bank}
use Rattle.pcr_values.specs.Prelude.{fold_of, HoldsData, pcr_bank, pcr_bytes}
use Rattle.stub_replay.specs.declared.register.Register.{Register}
use Rattle.stub_replay.specs.Measured.{found_raw_length, named_raw_length, section_items, measured_names, measured_by, measured_list}
use Rattle.stub_replay.specs.Registers.{AllHold, Holds, Takes, Extends}
use Rattle.stub_replay.specs.Taking.{TakesWhere, ExtendsWhere, AreBetween}
use Rattle.pe_reader.proofs.Finding.{find-position, loaded_bytes-none}
use Rattle.stub_replay.proofs.Measuring.{extends_none, extends_more, between_after}
use Rattle.stub_replay.proofs.Ranges.{items_none, found_range}
use Rattle.stub_replay.proofs.Turns.{IsName, items_until, items_more, items_all}

-- nothing of a name that no section has
pub section_none : (P : Type 0) (file name : List ℕ) (h : Headers) (xs : List Register) → (P → pe_of file ≡ Ok h) → position (is_named name) h.sections ≡ None
    → ExtendsWhere P (section_items name (loaded_bytes file name)) xs xs
section_none P file name h xs reads at =
    ([], extends_none xs, λ told. sym (items_none name (loaded_bytes file name) (ap length (loaded_bytes-none file name h (reads told) at))))

-- what the range of a section holds is what is loaded of its name
pub section_some : (P : Type 0) (file seen name : List ℕ) (h : Headers) (i : ℕ) (r : LoadedRange) (xs ys : List Register) → seen ≡ file → (P → pe_of file ≡ Ok h)
    → position (is_named name) h.sections ≡ Some i → i < length h.sections → r ≡ range_of (section_at_index h.sections i)
    → ExtendsWhere (P × (r.length ≤ length (drop r.place seen))) (section_items name (bytes_in seen r)) xs ys
    → ExtendsWhere P (section_items name (loaded_bytes file name)) xs ys
section_some P file seen name h i r xs ys same reads at inside is extends = (
  extends.0,
  extends.1,
  λ told.
      let range = found_range file name h i r (reads told) at inside is in
      let S = λ (f : List ℕ). r.length ≤ length (drop r.place f) in
      extends.2 (told, subst S (sym same) range.inside)
      ∙ ap (λ (f : List ℕ). section_items name (bytes_in f r)) same
      ∙ ap (section_items name) (sym range.bytes),
)

pub section_long : (P : Type 0) (file name : List ℕ) (h : Headers) (i : ℕ) (r : LoadedRange) (before after : ℕ) → (P → pe_of file ≡ Ok h)
    → position (is_named name) h.sections ≡ Some i → i < length h.sections → r ≡ range_of (section_at_index h.sections i)
    → (P → after ≤ before + r.length) → P → after ≤ before + named_raw_length name (pe_of file)
section_long P file name h i r before after reads at inside is taken told =
    let long : named_raw_length name (pe_of file) ≡ r.length =
    ap (named_raw_length name) (reads told)
    ∙ ap found_raw_length (find-position (is_named name) h.sections i at)
    ∙ sym (ap (λ (q : LoadedRange). q.length) is) in
    omega (arith, long, taken told)

-- one section more
pub sections_more : (P : Type 0) (file seen name : List ℕ) (i : ℕ) (xs ys zs : List Register) → (P → seen ≡ file) → IsName i name
    → ExtendsWhere P (items_until file i) xs ys → ExtendsWhere P (section_items name (loaded_bytes seen name)) ys zs → ExtendsWhere P (items_until file (i + 1)) xs zs
sections_more P file seen name i xs ys zs same at first second = (
  first.0 ++ second.0,
  extends_more first.0 second.0 xs ys zs first.1 second.1,
  λ told.
      ap (λ (l : List (List ℕ)). l ++ second.0) (first.2 told)
      ∙ ap (λ (l : List (List ℕ)). items_until file i ++ l) (second.2 told ∙ ap (λ (f : List ℕ). section_items name (loaded_bytes f name)) (same told))
      ∙ items_more (λ name. section_items name (loaded_bytes file name)) i name at,
)

-- and all of them
pub sections_all : (P : Type 0) (file : List ℕ) (i : ℕ) (xs ys : List Register) → length measured_names ≤ i → ExtendsWhere P (items_until file i) xs ys → ExtendsWhere P (measured_list file) xs ys
unfolding measured_by
sections_all P file i xs ys end extends = (extends.0, extends.1, λ told. extends.2 told ∙ items_all (λ name. section_items name (loaded_bytes file name)) i end)

-- the one that a register is related to
first_related : (Q : Register → Type 0) (R : Register → Register → Type 0) (old : Register) (ys : List Register)
    → ((r : Register) → R old r → Q r) → AllZip R (old ∷ []) ys → Q (slice_index_or ys 0 old)
first_related Q R old [] goes all = absurd all
first_related Q R old (y ∷ ys) goes all = goes y all.0

-- registers that something has extended are still between parts
pub between_on : (P : Type 0) (items : List (List ℕ)) (xs ys : List Register) → AreBetween xs → ExtendsWhere P items xs ys → AreBetween ys
between_on P items xs ys between extends = between_after extends.0 xs ys between extends.1

-- registers at the start
pub all_between : (banks : List Bank) (first xs : List Register) → AllHold first banks [] [] → xs ≡ first → AreBetween xs
all_between banks first xs began same = let S = λ (l : List Register). AllHold l banks [] [] in (banks, [], subst S (sym same) began)

pub one_held : (register : Register) (bank : Bank) → Holds register bank [] [] → AllHold (register ∷ []) (bank ∷ []) [] []
one_held register bank holds = (holds, tt)

-- what one register has after all of them
pub one_after : (P : Type 0) (items : List (List ℕ)) (old : Register) (xs ys : List Register) (bank : Bank) → Holds old bank [] [] → xs ≡ old ∷ [] → ExtendsWhere P items xs ys
    → (pcr_bank (slice_index_or ys 0 old).pcr ≡ bank) × (P → pcr_bytes (slice_index_or ys 0 old).pcr ≡ fold_of bank items)
one_after P items old xs ys bank holds one extends =
    let S = λ (l : List Register). AllZip (Extends extends.0) l ys in
    let after = first_related (λ (r : Register). Holds r bank extends.0 []) (Extends extends.0) old ys (λ r extended. extended bank [] holds) (subst S one extends.1) in
    (after.is_of, λ told. after.value ∙ ap (fold_of bank) (extends.2 told))

-- what the hash of one register has taken
pub one_taken : (P : Type 0) (bytes : List ℕ) (old : Register) (xs ys : List Register) (bank : Bank) → Holds old bank [] [] → xs ≡ old ∷ [] → TakesWhere P bytes xs ys
    → (taken : List ℕ) × HoldsData (slice_index_or ys 0 old).hash bank taken × (P → taken ≡ bytes)
one_taken P bytes old xs ys bank holds one takes =
    let S = λ (l : List Register). AllZip (Takes takes.0) l ys in
    let after = first_related (λ (r : Register). Holds r bank [] takes.0) (Takes takes.0) old ys (λ r took. took bank [] [] holds) (subst S one takes.1) in
    (takes.0, after.hashed, takes.2)
