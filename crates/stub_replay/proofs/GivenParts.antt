-- The finished image has loaded what is given: no part has the name of a section of the stub.
use Rattle.std.proofs.Common.{◌≡◌, ◌⊎◌, inl, inr, ℕ, Bool, true, false, List, [], ◌∷◌, ◌++◌, length, Ok, refl, sym, ap, subst, ◌∙◌, arith, Option, Some, None, position, unwrap_or, if◌then◌else◌, bytes_eq}
use Rattle.std.specs.List.{find, list_any}
use Rattle.std.proofs.lemmas.Bool.{cases_Bool, or_parts, false≢true}
use Rattle.std.proofs.lemmas.Slice.Eq.{bytes_eq-Decides}
use Rattle.pe_reader.specs.declared.section.Section.{Section}
use Rattle.pe_reader.specs.Prelude.{Headers, pe_of, is_named, loaded_bytes, loaded_in, loaded_of}
use Rattle.pe_reader.proofs.Finding.{find-position}
use Rattle.uki_parts.specs.Names.{name_bytes}
use Rattle.pe_builder.specs.declared.size.PartSize.{PartSize}
use Rattle.pe_builder.specs.declared.fault.LayoutFault.{LayoutFault}
use Rattle.pe_builder.specs.declared.fault.LayoutFault.TheVariants.{SignedStub, SectionTwice}
use Rattle.pe_builder.specs.Replaced.{sbat_name, sbat_index, MayReplace}
use Rattle.pe_builder.specs.Refusals.{refuse, or_else, part_is_named, is_taken, first_taken, first_refusal}
use Rattle.pe_builder.specs.Image.{content_named, loaded_or_part}
use Rattle.pe_builder.specs.Laws.{HasFinished, finished_loaded}
use Rattle.stub_replay.specs.Laws.{find_content, or_kept, given_parts}

not_signed : (b : Bool) (rest : Option LayoutFault) → refuse b SignedStub rest ≡ None → rest ≡ None
not_signed true rest e = cc
not_signed false rest e = e

first_none : (o rest : Option LayoutFault) → or_else o rest ≡ None → o ≡ None
first_none None rest e = refl
first_none (Some f) rest e = cc

-- where nothing is refused, no name is taken
none_taken : (h : Headers) (n : ℕ) (parts : List PartSize) (sbat : Option ℕ) → first_refusal h n parts sbat ≡ None → first_taken h.sections [] parts ≡ None
unfolding first_refusal
none_taken h n parts sbat e = first_none (first_taken h.sections [] parts) _ (not_signed _ _ e)

taken_steps : (b : Bool) (fault : LayoutFault) (rest : Option LayoutFault) → (if b then Some fault else rest) ≡ None → (b ≡ false) × (rest ≡ None)
taken_steps true fault rest e = cc
taken_steps false fault rest e = (refl, e)

-- no part has the name of a section
no_part_named : (sections : List Section) (earlier parts : List PartSize) (contents : List (List ℕ)) (name : List ℕ)
    → first_taken sections earlier parts ≡ None → list_any (is_named name) sections ≡ true → find_content name parts contents ≡ None
unfolding first_taken find_content
no_part_named sections earlier [] contents name free there = refl
no_part_named sections earlier (p ∷ parts) [] name free there = refl
no_part_named sections earlier (p ∷ parts) (content ∷ contents) name free there =
    let steps = taken_steps (is_taken sections earlier p) (SectionTwice p.name) (first_taken sections (earlier ++ p ∷ []) parts) free in
    let apart = (or_parts (list_any (is_named (name_bytes p.name)) sections) (list_any (part_is_named (name_bytes p.name)) earlier) steps.0).0 in
    let rest = no_part_named sections (earlier ++ p ∷ []) parts contents name steps.1 there in
    elim (cases_Bool (bytes_eq (name_bytes p.name) name)) [
      | inl same ↦
          let e : name_bytes p.name ≡ name = (bytes_eq-Decides (name_bytes p.name) name).0 same in
          absurd (false≢true (sym apart ∙ ap (λ (n : List ℕ). list_any (is_named n) sections) e ∙ there))
      | inr other ↦ rw other rest
    ]

-- the content of a name is that of the part, if there is one
content_is : (name : List ℕ) (parts : List PartSize) (contents : List (List ℕ)) → content_named name parts contents ≡ or_kept (find_content name parts contents) []
unfolding content_named find_content
content_is name [] contents = refl
content_is name (p ∷ parts) [] = refl
content_is name (p ∷ parts) (content ∷ contents) = elim (cases_Bool (bytes_eq (name_bytes p.name) name)) [
  | inl same ↦ rw same refl
  | inr other ↦ rw other (content_is name parts contents)
]

-- what a search finds is there
found_any : (p : Section → Bool) (xs : List Section) (s : Section) → find p xs ≡ Some s → list_any p xs ≡ true
found_any p [] s e = cc
found_any p (x ∷ xs) s e = elim (cases_Bool (p x)) [
  | inl passes ↦ rw passes refl
  | inr fails ↦ (let later : find p xs ≡ Some s = rw fails at e in rw fails (found_any p xs s later))
]

option_ends : {A : Type 0} → (o : Option A) → (o ≡ None) ⊎ ((x : A) × (o ≡ Some x))
option_ends None = inl refl
option_ends (Some x) = inr (x, refl)

-- where no section is found there is no index
nowhere : (p : Section → Bool) (xs : List Section) → find p xs ≡ None → position p xs ≡ None
nowhere p xs none = elim (option_ends (position p xs)) [
  | inl e ↦ e
  | inr at ↦ (let here = find-position p xs at.0 at.1 in cc)
]

-- a `.sbat` that is replaced is there
replaced_there : (h : Headers) (size : ℕ) → MayReplace h (Some size) → find (is_named sbat_name) h.sections ≡ None → ⊥
replaced_there h size may none =
    let at : sbat_index h ≡ length h.sections = ap (λ (o : Option ℕ). unwrap_or o (length h.sections)) (nowhere (is_named sbat_name) h.sections none) in
    omega (arith, at, may.1)

-- what the stub has loaded, by its search
stub_loads : (stub name : List ℕ) (h : Headers) (o : Option Section) → pe_of stub ≡ Ok h → find (is_named name) h.sections ≡ o → loaded_bytes stub name ≡ loaded_of stub o
stub_loads stub name h o reads at = ap (loaded_in stub name) reads ∙ ap (loaded_of stub) at

-- the stub's section of a name, or else the part
stub_or_part : (h : Headers) (sizes : List PartSize) (contents : List (List ℕ)) (stub name : List ℕ) → pe_of stub ≡ Ok h → first_taken h.sections [] sizes ≡ None
    → loaded_or_part stub (find (is_named name) h.sections) (content_named name sizes contents) ≡ or_kept (find_content name sizes contents) (loaded_bytes stub name)
unfolding loaded_or_part
stub_or_part h sizes contents stub name reads free = elim (option_ends (find (is_named name) h.sections)) [
  | inl none ↦
      rw none (content_is name sizes contents ∙ ap (or_kept (find_content name sizes contents)) (sym (stub_loads stub name h None reads none)))
  | inr found ↦
      let alone = no_part_named h.sections [] sizes contents name free (found_any (is_named name) h.sections found.0 found.1) in
      rw (found.1, alone) (sym (stub_loads stub name h (Some found.0) reads found.1))
]

-- no part has the name of a `.sbat` that is replaced
sbat_alone : (h : Headers) (sizes : List PartSize) (contents : List (List ℕ)) (size : ℕ) → MayReplace h (Some size) → first_taken h.sections [] sizes ≡ None
    → find_content sbat_name sizes contents ≡ None
sbat_alone h sizes contents size may free = elim (option_ends (find (is_named sbat_name) h.sections)) [
  | inl none ↦ absurd (replaced_there h size may none)
  | inr found ↦ no_part_named h.sections [] sizes contents sbat_name free (found_any (is_named sbat_name) h.sections found.0 found.1)
]

-- The finished image has loaded of each name what is given.
pub given_loaded : (h : Headers) (sizes : List PartSize) (contents : List (List ℕ)) (sbat : Option (List ℕ)) (stub : List ℕ)
    → HasFinished h sizes contents sbat stub → (name : List ℕ) → finished_loaded h sizes contents sbat stub name ≡ given_parts sizes contents sbat stub name
given_loaded h sizes contents None stub has name =
    stub_or_part h sizes contents stub name has.reads (none_taken h (length stub) sizes None has.buildable.not_refused)
given_loaded h sizes contents (Some sbat) stub has name =
    let free = none_taken h (length stub) sizes (Some (length sbat)) has.buildable.not_refused in
    elim (cases_Bool (bytes_eq sbat_name name)) [
      | inl same ↦
          let e : sbat_name ≡ name = (bytes_eq-Decides sbat_name name).0 same in
          let alone : find_content name sizes contents ≡ None =
          subst (λ (n : List ℕ). find_content n sizes contents ≡ None) e (sbat_alone h sizes contents (length sbat) has.buildable.may_replace free) in
          rw (same, alone) refl
      | inr other ↦ rw other (stub_or_part h sizes contents stub name has.reads free)
    ]
