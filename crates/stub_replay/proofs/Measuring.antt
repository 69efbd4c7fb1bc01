-- Items that extend registers one behind the other.
use Rattle.std.proofs.Common.{◌≡◌, ◌<◌, ◌+◌, ℕ, Bool, List, [], ◌∷◌, ◌++◌, length, take, get_or, refl, sym, ap, subst, ◌∙◌, arith, IsTrue, append_assoc, append-nil, map}
use Rattle.std.specs.List.{AllZip}
use Rattle.std.proofs.lemmas.Grind.{flat_map-append}
use Rattle.std.proofs.lemmas.List.{take_more, map-append}
use Rattle.uki_parts.specs.Pieces.{Reading}
use Rattle.stub_replay.specs.Measured.{section_items}
use Rattle.stub_replay.proofs.Ranges.{items_none, items_some}
use Rattle.pcr_values.specs.declared.bank.Bank.{Bank}
use Rattle.pcr_values.specs.declared.pcr.Pcr.{Pcr}
use Rattle.pcr_values.specs.Prelude.{fold_pcr, pcr_bank, pcr_value}
use Rattle.stub_replay.specs.declared.measurable.Content.{Content}
use Rattle.stub_replay.specs.declared.measurable.Measurable.{Measurable}
use Rattle.stub_replay.specs.declared.register.Register.{Register}
use Rattle.stub_replay.specs.Parts.{IsWhole, content_bytes, content_length, named_bytes, items_of, HaveSizes}
use Rattle.stub_replay.specs.Registers.{Holds, AllHold, Takes, Closes, Extends}
use Rattle.stub_replay.specs.Taking.{TakesWhere, ExtendsWhere, AreBetween}
use Rattle.stub_replay.proofs.Taking.{length-content_bytes}
use Rattle.stub_replay.proofs.Zips.{zip_moved}
use Rattle.stub_replay.specs.proofs.TakingLaws.{zip_same, zip_joined}

-- nothing extends the registers
pub extends_none : (xs : List Register) → AllZip (Extends []) xs xs
extends_none xs = zip_same (Extends []) xs (λ x bank items holds. let P = λ (l : List (List ℕ)). Holds x bank l [] in subst P (sym (append-nil items)) holds)

pub measured_none : (P : Type 0) (xs : List Register) → ExtendsWhere P [] xs xs
measured_none P xs = ([], extends_none xs, λ told. refl)

pub extends_more : (a b : List (List ℕ)) (xs ys zs : List Register) → AllZip (Extends a) xs ys → AllZip (Extends b) ys zs → AllZip (Extends (a ++ b)) xs zs
extends_more a b xs ys zs first second =
    zip_joined (Extends a) (Extends b) (Extends (a ++ b)) xs ys zs
    (λ x y z r s bank items holds.
    let P = λ (l : List (List ℕ)). Holds z bank l [] in
    subst P (append_assoc items a b) (s bank (items ++ a) (r bank items holds)))
    first second

items_more : (files : Reading) (parts : List Measurable) (i : ℕ) (d : Measurable) → i < length parts
    → items_of (map (named_bytes files) (take i parts)) ++ section_items (get_or parts i d).name.now (content_bytes files (get_or parts i d).content)
    ≡ items_of (map (named_bytes files) (take (i + 1) parts))
items_more files parts i d inside =
    let part = get_or parts i d in
    let here = section_items part.name.now (content_bytes files part.content) in
    let before = map (named_bytes files) (take i parts) in
    ap (λ (l : List (List ℕ)). items_of before ++ l) (sym (append-nil here))
    ∙ sym (flat_map-append (λ (p : List ℕ × List ℕ). section_items p.0 p.1) before (named_bytes files part ∷ []))
    ∙ ap items_of (sym (map-append (named_bytes files) (take i parts) (part ∷ [])))
    ∙ ap (λ (l : List Measurable). items_of (map (named_bytes files) l)) (sym (take_more parts i d inside))

-- one part more
pub parts_more : (tells : Bool) (files seen : Reading) (parts : List Measurable) (i : ℕ) (part : Measurable) (xs ys zs : List Register) → (IsTrue tells → seen ≡ files)
    → i < length parts → part ≡ get_or parts i part
    → ExtendsWhere (IsTrue tells × HaveSizes files parts) (items_of (map (named_bytes files) (take i parts))) xs ys
    → ExtendsWhere (IsTrue tells × IsWhole seen part.content) (section_items part.name.now (content_bytes seen part.content)) ys zs
    → ExtendsWhere (IsTrue tells × HaveSizes files parts) (items_of (map (named_bytes files) (take (i + 1) parts))) xs zs
parts_more tells files seen parts i part xs ys zs same inside at first second = (
  first.0 ++ second.0,
  extends_more first.0 second.0 xs ys zs first.1 second.1,
  λ told.
      let P = λ (f : Reading). IsWhole f part.content in
      let Q = λ (p : Measurable). IsWhole files p.content in
      let sizes : IsWhole files part.content = subst Q (sym at) (told.1 i part inside) in
      ap (λ (l : List (List ℕ)). l ++ second.0) (first.2 told)
      ∙ ap (λ (l : List (List ℕ)). items_of (map (named_bytes files) (take i parts)) ++ l)
      (second.2 (told.0, subst P (sym (same told.0)) sizes)
      ∙ ap (λ (f : Reading). section_items part.name.now (content_bytes f part.content)) (same told.0)
      ∙ ap (λ (p : Measurable). section_items p.name.now (content_bytes files p.content)) at)
      ∙ items_more files parts i part inside,
)

-- nothing of an empty part
pub part_empty : (tells : Bool) (files : Reading) (name : List ℕ) (content : Content) (xs : List Register) → content_length content ≡ 0
    → ExtendsWhere (IsTrue tells × IsWhole files content) (section_items name (content_bytes files content)) xs xs
part_empty tells files name content xs empty =
    ([], extends_none xs, λ told. sym (items_none name (content_bytes files content) (length-content_bytes files content told.1 ∙ empty)))

-- a name and the bytes of a part
pub part_some : (tells : Bool) (files : Reading) (name : List ℕ) (content : Content) (xs ys zs : List Register) → 0 < content_length content
    → TakesWhere (IsTrue tells × IsWhole files content) (content_bytes files content) xs ys → AllZip (Closes name) ys zs
    → ExtendsWhere (IsTrue tells × IsWhole files content) (section_items name (content_bytes files content)) xs zs
part_some tells files name content xs ys zs some takes closes =
    let bytes = takes.0 in
    let items : List (List ℕ) = (name ++ 0 ∷ []) ∷ bytes ∷ [] in (
      items,
      zip_joined (Takes bytes) (Closes name) (Extends items) xs ys zs (λ x y z r s bank before holds. s bank before bytes (r bank before [] holds)) takes.1 closes,
      λ told.
          ap (λ (l : List ℕ). (name ++ 0 ∷ []) ∷ l ∷ []) (takes.2 told)
          ∙ sym (items_some name (content_bytes files content) (omega (arith, some, length-content_bytes files content told.1))),
    )

pub holds_after : (banks : List Bank) (items more : List (List ℕ)) (xs ys : List Register) → AllHold xs banks items [] → AllZip (Extends more) xs ys → AllHold ys banks (items ++ more) []
holds_after banks items more xs ys before extends =
    zip_moved (Extends more) (λ (r : Register) (b : Bank). Holds r b items []) (λ (r : Register) (b : Bank). Holds r b (items ++ more) []) xs ys banks
    (λ x y bank r holds. r bank items holds) extends before

-- the hashes have taken nothing
pub between_after : (more : List (List ℕ)) (xs ys : List Register) → AreBetween xs → AllZip (Extends more) xs ys → AreBetween ys
between_after more xs ys between extends = (between.0, between.1 ++ more, holds_after between.0 between.1 more xs ys between.2 extends)

shown_all : (items : List (List ℕ)) (xs : List Register) (banks : List Bank) → AllHold xs banks items []
    → map pcr_value (map (λ (r : Register). r.pcr) xs) ≡ map (fold_pcr items) banks
shown_all items [] [] all = refl
shown_all items [] (bank ∷ banks) all = absurd all
shown_all items (x ∷ xs) [] all = absurd all
shown_all items (x ∷ xs) (bank ∷ banks) all =
    let rest = shown_all items xs banks all.1 in
    rw (all.0.is_of, all.0.value, rest) refl

banks_all : (items : List (List ℕ)) (xs : List Register) (banks : List Bank) → AllHold xs banks items [] → map pcr_bank (map (λ (r : Register). r.pcr) xs) ≡ banks
banks_all items [] [] all = refl
banks_all items [] (bank ∷ banks) all = absurd all
banks_all items (x ∷ xs) [] all = absurd all
banks_all items (x ∷ xs) (bank ∷ banks) all = rw (all.0.is_of, banks_all items xs banks all.1) refl

-- the values of registers that began at the start
pub value_banks : (P : Type 0) (items : List (List ℕ)) (banks : List Bank) (first xs ys last : List Register) (pcrs : List Pcr) → AllHold first banks [] [] → xs ≡ first
    → ExtendsWhere P items xs ys → last ≡ ys → pcrs ≡ map (λ (r : Register). r.pcr) last → map pcr_bank pcrs ≡ banks
value_banks P items banks first xs ys last pcrs began at_first extends at_last are =
    let S = λ (l : List Register). AllHold l banks [] [] in
    ap (map pcr_bank) (are ∙ ap (map (λ (r : Register). r.pcr)) at_last)
    ∙ banks_all extends.0 ys banks (holds_after banks [] extends.0 xs ys (subst S (sym at_first) began) extends.1)

pub value_shown : (P : Type 0) (items : List (List ℕ)) (banks : List Bank) (first xs ys last : List Register) (pcrs : List Pcr) → AllHold first banks [] [] → xs ≡ first
    → ExtendsWhere P items xs ys → last ≡ ys → pcrs ≡ map (λ (r : Register). r.pcr) last → P → map pcr_value pcrs ≡ map (fold_pcr items) banks
value_shown P items banks first xs ys last pcrs began at_first extends at_last are told =
    let S = λ (l : List Register). AllHold l banks [] [] in
    ap (map pcr_value) (are ∙ ap (map (λ (r : Register). r.pcr)) at_last)
    ∙ shown_all extends.0 ys banks (holds_after banks [] extends.0 xs ys (subst S (sym at_first) began) extends.1)
    ∙ ap (λ (l : List (List ℕ)). map (fold_pcr l) banks) (extends.2 told)
