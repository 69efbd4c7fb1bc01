-- A name has one reading.
use Rattle.std.proofs.Common.{◌≡◌, ℕ, ◌<◌, List, ◌∷◌, ◌++◌, ap, sym, ◌∙◌, subst, inl, inr, lit<, append_assoc, append-nil}
use Rattle.menu_order.specs.declared.counted.Suffix.{Suffix}
use Rattle.menu_order.specs.Counter.{suffix_text, IsNumber, IsDoneText, IsCounter, IsCounted}
use Rattle.menu_order.specs.CounterLaws.{OneReading}
use Rattle.menu_order.proofs.CounterCuts.{Lacks, differ, Lacks-at, Lacks-append, Lacks-from_digits, last_cut, first_cut, stem_same}

-- a text writes one number
pub number_same : (text : List ℕ) (m n : ℕ) → IsNumber text m → IsNumber text n → m ≡ n
number_same text m n h k = sym h.value ∙ k.value

-- a number has no hyphen and no plus
pub number_lacks : (c : ℕ) (text : List ℕ) (n : ℕ) → c < 48 → IsNumber text n → Lacks c text
number_lacks c text n low h = Lacks-from_digits c text low h.numeral.1

-- the texts of LEFT and DONE are cut in one way
pub texts_same : (left left' done done' : List ℕ) (m n : ℕ) → Lacks 45 left → Lacks 45 left' → IsDoneText done m → IsDoneText done' n → left ++ done ≡ left' ++ done' → (left ≡ left') × (done ≡ done')
texts_same left left' done done' m n h k (inl d) (inl d') e =
    (sym (append-nil left) ∙ ap (λ x. left ++ x) (sym d.0) ∙ e ∙ ap (λ x. left' ++ x) d'.0 ∙ append-nil left', d.0 ∙ sym d'.0)
texts_same left left' done done' m n h k (inl d) (inr d') e =
    let cut : left ≡ left' ++ (45 ∷ d'.0) = sym (append-nil left) ∙ ap (λ x. left ++ x) (sym d.0) ∙ e ∙ ap (λ x. left' ++ x) d'.1 in
    absurd (Lacks-at 45 left' d'.0 (subst (Lacks 45) cut h))
texts_same left left' done done' m n h k (inr d) (inl d') e =
    let cut : left' ≡ left ++ (45 ∷ d.0) = sym (append-nil left') ∙ ap (λ x. left' ++ x) (sym d'.0) ∙ sym e ∙ ap (λ x. left ++ x) d.1 in
    absurd (Lacks-at 45 left d.0 (subst (Lacks 45) cut k))
texts_same left left' done done' m n h k (inr d) (inr d') e =
    let cut : left ++ (45 ∷ d.0) ≡ left' ++ (45 ∷ d'.0) = ap (λ x. left ++ x) (sym d.1) ∙ e ∙ ap (λ x. left' ++ x) d'.1 in
    let parts = first_cut 45 left left' d.0 d'.0 h k cut in
    (parts.0, d.1 ∙ ap (λ x. 45 ∷ x) parts.1 ∙ sym d'.1)

-- a text says one DONE
pub done_same : (text : List ℕ) (m n : ℕ) → IsDoneText text m → IsDoneText text n → m ≡ n
done_same text m n (inl d) (inl d') = d.1 ∙ sym d'.1
done_same text m n (inl d) (inr d') = let e = sym d.0 ∙ d'.1 in cc
done_same text m n (inr d) (inl d') = let e = sym d'.0 ∙ d.1 in cc
done_same text m n (inr d) (inr d') =
    let e : 45 ∷ d.0 ≡ 45 ∷ d'.0 = sym d.1 ∙ d'.1 in
    let same : d.0 ≡ d'.0 = cc in
    number_same d'.0 m n (subst (λ t. IsNumber t m) same d.2) d'.2

-- a counter says one LEFT and one DONE
pub counter_same : (text : List ℕ) (left left' done done' : ℕ) → IsCounter text left done → IsCounter text left' done' → (left ≡ left') × (done ≡ done')
counter_same text left left' done done' r r' =
    let parts =
    texts_same r.left_text r'.left_text r.done_text r'.done_text done done' (number_lacks 45 r.left_text left (lit< tt) r.left_is)
    (number_lacks 45 r'.left_text left' (lit< tt) r'.left_is) r.done_is r'.done_is (sym r.parts ∙ r'.parts) in (
      number_same r'.left_text left left' (subst (λ t. IsNumber t left) parts.0 r.left_is) r'.left_is,
      done_same r'.done_text done done' (subst (λ t. IsDoneText t done) parts.1 r.done_is) r'.done_is,
    )

done_lacks : (text : List ℕ) (n : ℕ) → IsDoneText text n → Lacks 43 text
done_lacks text n (inl d) = subst (Lacks 43) (sym d.0) tt
done_lacks text n (inr d) = subst (Lacks 43) (sym d.1) (λ e. differ 43 45 (lit< tt) (sym e), number_lacks 43 d.0 n (lit< tt) d.2)

-- a counter has no plus
pub counter_lacks : (text : List ℕ) (left done : ℕ) → IsCounter text left done → Lacks 43 text
counter_lacks text left done r =
    subst (Lacks 43) (sym r.parts) (Lacks-append 43 r.left_text r.done_text (number_lacks 43 r.left_text left (lit< tt) r.left_is) (done_lacks r.done_text done r.done_is))

-- a counted name is its stem and its suffix
pub counted_stem : (name base : List ℕ) (left done : ℕ) (suffix : Suffix) (r : IsCounted name base left done suffix) → name ≡ base ++ (43 ∷ r.counter) ++ suffix_text suffix
counted_stem name base left done suffix r = r.parts ∙ sym (append_assoc base (43 ∷ r.counter) (suffix_text suffix))

-- two readings of a name have the same parts
pub record SameParts (base base' counter counter' : List ℕ) (suffix suffix' : Suffix) : Type 0 where
  pub base_same : base ≡ base'
  pub counter_text : counter ≡ counter'
  pub suffix_same : suffix ≡ suffix'

pub parts_same : (name base base' : List ℕ) (left left' done done' : ℕ) (suffix suffix' : Suffix) (r : IsCounted name base left done suffix)
    (r' : IsCounted name base' left' done' suffix')
    → SameParts base base' r.counter r'.counter suffix suffix'
parts_same name base base' left left' done done' suffix suffix' r r' =
    let stems = stem_same (base ++ (43 ∷ r.counter)) (base' ++ (43 ∷ r'.counter)) suffix suffix' (sym (counted_stem name base left done suffix r) ∙ counted_stem name base' left' done' suffix' r') in
    let cut = last_cut 43 base base' r.counter r'.counter (counter_lacks r.counter left done r.counter_is) (counter_lacks r'.counter left' done' r'.counter_is) stems.0 in
    record { base_same = cut.0; counter_text = cut.1; suffix_same = stems.1 }

pub one_reading : OneReading
one_reading name base base' left left' done done' suffix suffix' r r' =
    let parts = parts_same name base base' left left' done done' suffix suffix' r r' in
    let numbers = counter_same r'.counter left left' done done' (subst (λ t. IsCounter t left done) parts.counter_text r.counter_is) r'.counter_is in
    (parts.base_same, numbers.0, numbers.1, parts.suffix_same)
