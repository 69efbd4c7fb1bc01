-- The plain function splits each name as the relation of counted names says.
use Rattle.std.proofs.Common.{◌≡◌, ◌≢◌, ℕ, ◌==◌, true, List, [], ◌∷◌, ◌++◌, Option, Some, None, length, refl, ap, sym, ◌∙◌, inl, inr, arith, lit<, append-nil, option_map}
use Rattle.std.proofs.lemmas.Bool.{cases_Bool, eq-eqb, ne_eqb, eqb-true, eqb-false}
use Rattle.std.proofs.lemmas.Bool.Decides.{Decides-eqb}
use Rattle.std.proofs.lemmas.Slice.Eq.{ends_is}
use Rattle.menu_order.specs.declared.counted.Counted.{Counted}
use Rattle.menu_order.specs.declared.counted.Suffix.{Suffix}
use Rattle.menu_order.specs.declared.counted.Suffix.TheVariants.{Conf, Efi}
use Rattle.menu_order.specs.Counter.{suffix_text, is_number, IsNumber, IsDoneText, IsCounter, IsCounted, IsUncounted, counted_of}
use Rattle.menu_order.specs.Splits.{Cut, cut_first, cut_last, cut_here, lengthen_front, number_in, two_numbers, counter_from, counter_in, split_from, split_stem, split_of, has_suffix, stem_of}
use Rattle.menu_order.proofs.CounterCuts.{Lacks, stem_same}
use Rattle.menu_order.proofs.CounterReadings.{number_lacks, counter_lacks, counted_stem}
use Rattle.menu_order.proofs.CounterSteps.{number_test, not_number, counter_from_parts, counted_from_parts}

-- ---- cuts

-- the two parts of a cut are those of the text
abbrev IsCut : ℕ → List ℕ → Cut → Type 0
IsCut byte text None = Unit {0}
IsCut byte text (Some parts) = text ≡ parts.0 ++ byte ∷ parts.1

longer_is : (byte first : ℕ) (later : List ℕ) (cut : Cut) → IsCut byte later cut → IsCut byte (first ∷ later) (lengthen_front first cut)
longer_is byte first later None is = tt
longer_is byte first later (Some parts) is = ap (λ (text : List ℕ). first ∷ text) is

cut_first_is : (byte : ℕ) (text : List ℕ) → IsCut byte text (cut_first byte text)
cut_first_is byte [] = tt
cut_first_is byte (first ∷ later) = elim (cases_Bool (first == byte)) [
  | inl here ↦ rw here (ap (λ b. b ∷ later) (eqb-true first byte here))
  | inr other ↦ rw other (longer_is byte first later (cut_first byte later) (cut_first_is byte later))
]

cut_here_is : (byte first : ℕ) (later : List ℕ) (cut : Cut) → IsCut byte later cut → IsCut byte (first ∷ later) (cut_here byte first later cut)
cut_here_is byte first later None is = elim (cases_Bool (first == byte)) [
  | inl here ↦ rw here (ap (λ b. b ∷ later) (eqb-true first byte here))
  | inr other ↦ rw other tt
]
cut_here_is byte first later (Some parts) is = longer_is byte first later (Some parts) is

cut_last_is : (byte : ℕ) (text : List ℕ) → IsCut byte text (cut_last byte text)
cut_last_is byte [] = tt
cut_last_is byte (first ∷ later) = cut_here_is byte first later (cut_last byte later) (cut_last_is byte later)

cut_first_at : (byte : ℕ) (front back : List ℕ) → Lacks byte front → cut_first byte (front ++ byte ∷ back) ≡ Some (front, back)
cut_first_at byte [] back lacks = rw (eq-eqb byte byte refl) refl
cut_first_at byte (first ∷ front) back lacks = rw (ne_eqb first byte lacks.0) (ap (lengthen_front first) (cut_first_at byte front back lacks.1))

cut_first_none : (byte : ℕ) (text : List ℕ) → Lacks byte text → cut_first byte text ≡ None
cut_first_none byte [] lacks = refl
cut_first_none byte (first ∷ later) lacks = rw (ne_eqb first byte lacks.0) (ap (lengthen_front first) (cut_first_none byte later lacks.1))

cut_last_none : (byte : ℕ) (text : List ℕ) → Lacks byte text → cut_last byte text ≡ None
cut_last_none byte [] lacks = refl
cut_last_none byte (first ∷ later) lacks = ap (cut_here byte first later) (cut_last_none byte later lacks.1) ∙ rw (ne_eqb first byte lacks.0) refl

cut_last_at : (byte : ℕ) (front back : List ℕ) → Lacks byte back → cut_last byte (front ++ byte ∷ back) ≡ Some (front, back)
cut_last_at byte [] back lacks = ap (cut_here byte byte back) (cut_last_none byte back lacks) ∙ rw (eq-eqb byte byte refl) refl
cut_last_at byte (first ∷ front) back lacks = ap (cut_here byte first (front ++ byte ∷ back)) (cut_last_at byte front back lacks)

-- ---- what is found holds

abbrev SaysNumber : List ℕ → Option ℕ → Type 0
SaysNumber text None = Unit {0}
SaysNumber text (Some n) = IsNumber text n

abbrev SaysCounter : List ℕ → Option (ℕ × ℕ) → Type 0
SaysCounter text None = Unit {0}
SaysCounter text (Some numbers) = IsCounter text numbers.0 numbers.1

abbrev SaysCounted : List ℕ → Option Counted → Type 0
SaysCounted name None = Unit {0}
SaysCounted name (Some counted) = (base : List ℕ) × IsCounted name base counted.left counted.done counted.suffix

number_says : (text : List ℕ) → SaysNumber text (number_in text)
number_says text = elim (cases_Bool (is_number text)) [ inl is ↦ rw is (number_test text is) | inr other ↦ rw other tt ]

left_says : (text : List ℕ) (n : Option ℕ) → SaysNumber text n → SaysCounter text (option_map (λ left. (left, 0)) n)
left_says text None is = tt
left_says text (Some left) is = record { left_text = text; done_text = []; parts = sym (append-nil text); left_is = is; done_is = inl (refl, refl) }

numbers_say : (text front back : List ℕ) (m n : Option ℕ) → text ≡ front ++ 45 ∷ back → SaysNumber front m → SaysNumber back n → SaysCounter text (two_numbers m n)
numbers_say text front back None n is l d = tt
numbers_say text front back (Some left) None is l d = tt
numbers_say text front back (Some left) (Some done) is l d = counter_from_parts text front back left done is l d

counter_says : (text : List ℕ) (cut : Cut) → IsCut 45 text cut → SaysCounter text (counter_from text cut)
counter_says text None is = left_says text (number_in text) (number_says text)
counter_says text (Some parts) is = numbers_say text parts.0 parts.1 (number_in parts.0) (number_in parts.1) is (number_says parts.0) (number_says parts.1)

module _ (name stem : List ℕ) (suffix : Suffix) (is : name ≡ stem ++ suffix_text suffix) where
  based_says : (base text : List ℕ) (numbers : Option (ℕ × ℕ)) → stem ≡ base ++ 43 ∷ text → length base ≢ 0 → SaysCounter text numbers
      → SaysCounted name (option_map (λ n. counted_of base n.0 n.1 suffix) numbers)
  based_says base text None cut some says = tt
  based_says base text (Some numbers) cut some says = (base, counted_from_parts name stem base text suffix numbers.0 numbers.1 is cut some says)

  stem_says : (cut : Cut) → IsCut 43 stem cut → SaysCounted name (split_from suffix cut)
  stem_says None cut = tt
  stem_says (Some parts) cut = elim (cases_Bool (length parts.0 == 0)) [
    | inl none ↦ rw none tt
    | inr some ↦ rw some (based_says parts.0 parts.1 (counter_in parts.1) cut (eqb-false (length parts.0) 0 some) (counter_says parts.1 (cut_first 45 parts.1) (cut_first_is 45 parts.1)))
  ]

  split_says : SaysCounted name (split_stem suffix stem)
  split_says = stem_says (cut_last 43 stem) (cut_last_is 43 stem)

-- the name is its stem and its suffix
pub suffix_cut : (suffix : Suffix) (name : List ℕ) → has_suffix suffix name ≡ true → name ≡ stem_of suffix name ++ suffix_text suffix
suffix_cut suffix name has = (ends_is Decides-eqb name (suffix_text suffix) (has_suffix suffix name) refl).0 has

pub suffix_there : (suffix : Suffix) (name stem : List ℕ) → name ≡ stem ++ suffix_text suffix → has_suffix suffix name ≡ true
suffix_there suffix name stem is = (ends_is Decides-eqb name (suffix_text suffix) (has_suffix suffix name) refl).1 stem is

says : (name : List ℕ) → SaysCounted name (split_of name)
unfolding split_of
says name = elim (cases_Bool (has_suffix Conf name)) [
  | inl conf ↦ rw conf (split_says name (stem_of Conf name) Conf (suffix_cut Conf name conf))
  | inr other ↦ rw other (elim (cases_Bool (has_suffix Efi name)) [
    | inl efi ↦ rw efi (split_says name (stem_of Efi name) Efi (suffix_cut Efi name efi))
    | inr none ↦ rw none tt
  ])
]

none_from : (name : List ℕ) (split : Option Counted) → SaysCounted name split → IsUncounted name → split ≡ None
none_from name None says_it none = refl
none_from name (Some counted) says_it none = absurd (none says_it.0 counted.left counted.done counted.suffix says_it.1)

pub split_none : (name : List ℕ) → IsUncounted name → split_of name ≡ None
split_none name none = none_from name (split_of name) (says name) none

-- ---- what holds is found

pub number_found : (text : List ℕ) (n : ℕ) → IsNumber text n → number_in text ≡ Some n
number_found text n is = elim (cases_Bool (is_number text)) [
  | inl short ↦ rw short (ap (λ (m : ℕ). Some m) is.value)
  | inr other ↦ absurd (not_number text other n is)
]

numbers_found : (text front : List ℕ) (left done : ℕ) → IsNumber front left → (back : List ℕ) → IsDoneText back done → text ≡ front ++ back → counter_in text ≡ Some (left, done)
numbers_found text front left done l back (inl none) is =
    let whole : text ≡ front = is ∙ ap (λ (x : List ℕ). front ++ x) none.0 ∙ append-nil front in
    rw (whole, none.1) (rw (cut_first_none 45 front (number_lacks 45 front left (lit< tt) l), number_found front left l) refl)
numbers_found text front left done l back (inr some) is =
    let parts : text ≡ front ++ 45 ∷ some.0 = is ∙ ap (λ (x : List ℕ). front ++ x) some.1 in
    rw parts (rw (cut_first_at 45 front some.0 (number_lacks 45 front left (lit< tt) l), number_found front left l, number_found some.0 done some.2) refl)

counter_found : (text : List ℕ) (left done : ℕ) → IsCounter text left done → counter_in text ≡ Some (left, done)
counter_found text left done r = numbers_found text r.left_text left done r.left_is r.done_text r.done_is r.parts

-- a name has no other suffix than that behind its stem
pub one_suffix : (name stem : List ℕ) (suffix other : Suffix) → name ≡ stem ++ suffix_text suffix → has_suffix other name ≡ true → suffix ≡ other
one_suffix name stem suffix other is has = (stem_same stem (stem_of other name) suffix other (sym is ∙ suffix_cut other name has)).1

stem_is : (name stem : List ℕ) (suffix : Suffix) → name ≡ stem ++ suffix_text suffix → stem_of suffix name ≡ stem
stem_is name stem suffix is = (stem_same (stem_of suffix name) stem suffix suffix (sym (suffix_cut suffix name (suffix_there suffix name stem is)) ∙ is)).0

apart : Conf ≡ Efi → ⊥
apart e = cc

by_suffix : (name stem : List ℕ) (suffix : Suffix) → name ≡ stem ++ suffix_text suffix → split_of name ≡ split_stem suffix stem
unfolding split_of
by_suffix name stem Conf is = rw (suffix_there Conf name stem is) (ap (split_stem Conf) (stem_is name stem Conf is))
by_suffix name stem Efi is = elim (cases_Bool (has_suffix Conf name)) [
  | inl conf ↦ absurd (apart (sym (one_suffix name stem Efi Conf is conf)))
  | inr other ↦ rw (other, suffix_there Efi name stem is) (ap (split_stem Efi) (stem_is name stem Efi is))
]

pub split_some : (name base : List ℕ) (left done : ℕ) (suffix : Suffix) → IsCounted name base left done suffix → split_of name ≡ Some (counted_of base left done suffix)
split_some name base left done suffix r =
    let some : length base ≢ 0 = omega (arith, r.some_base) in
    by_suffix name (base ++ 43 ∷ r.counter) suffix (counted_stem name base left done suffix r)
    ∙ ap (split_from suffix) (cut_last_at 43 base r.counter (counter_lacks r.counter left done r.counter_is))
    ∙ rw (ne_eqb (length base) 0 some, counter_found r.counter left done r.counter_is) refl
