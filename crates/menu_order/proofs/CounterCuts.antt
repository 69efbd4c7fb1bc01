-- Where a text is cut at a byte, there is one way to cut it.
use Rattle.std.proofs.Common.{◌≡◌, ◌≢◌, ℕ, ◌<◌, ◌≤◌, List, [], ◌∷◌, ◌++◌, length, get_or, refl, ap, sym, ◌∙◌, subst, arith, lit<, suc}
use Rattle.std.proofs.lemmas.List.{append_assoc, append_cancel_right, same_from_push}
use Rattle.std.proofs.lemmas.Str.Parse.{digit_from_value}
use Rattle.std.specs.List.{AllByRecursion}
use Rattle.std.specs.Str.Parse.{AllDigits}
use Rattle.menu_order.specs.declared.counted.Suffix.{Suffix}
use Rattle.menu_order.specs.declared.counted.Suffix.TheVariants.{Conf, Efi}
use Rattle.menu_order.specs.Counter.{suffix_text}

-- the byte isn't in the text
abbrev pub Lacks : ℕ → List ℕ → Type 0
Lacks c text = AllByRecursion (λ b. b ≢ c) text

pub Lacks-at : (c : ℕ) (xs ys : List ℕ) → Lacks c (xs ++ c ∷ ys) → ⊥
Lacks-at c [] ys h = h.0 refl
Lacks-at c (x ∷ xs) ys h = Lacks-at c xs ys h.1

pub Lacks-append : (c : ℕ) (xs ys : List ℕ) → Lacks c xs → Lacks c ys → Lacks c (xs ++ ys)
Lacks-append c [] ys h k = k
Lacks-append c (x ∷ xs) ys h k = (h.0, Lacks-append c xs ys h.1 k)

digit_above : (c d : ℕ) → c < 48 → 48 ≤ d → d ≡ c → ⊥
digit_above c d low high e = omega arith

-- no byte below the digits is in a text of digits
pub Lacks-from_digits : (c : ℕ) (ds : List ℕ) → c < 48 → AllDigits 10 ds → Lacks c ds
Lacks-from_digits c [] low h = tt
Lacks-from_digits c (d ∷ ds) low h = (λ e. digit_above c d low (digit_from_value d h.0).0 e, Lacks-from_digits c ds low h.1)

-- a byte that stands at no place of a text isn't in it
pub Lacks-from_places : (c : ℕ) (text : List ℕ) → ((i : ℕ) → i < length text → get_or text i 0 ≢ c) → Lacks c text
Lacks-from_places c [] h = tt
Lacks-from_places c (x ∷ xs) h = (h 0 (omega arith), Lacks-from_places c xs (λ i k. h (suc i) (omega arith)))

-- a text is cut in one way at the last such byte
pub last_cut : (c : ℕ) (xs xs' ys ys' : List ℕ) → Lacks c ys → Lacks c ys' → xs ++ c ∷ ys ≡ xs' ++ c ∷ ys' → (xs ≡ xs') × (ys ≡ ys')
last_cut c [] [] ys ys' h k e = (refl, cc)
last_cut c [] (x ∷ xs') ys ys' h k e = let tail : ys ≡ xs' ++ c ∷ ys' = cc in absurd (Lacks-at c xs' ys' (subst (Lacks c) tail h))
last_cut c (x ∷ xs) [] ys ys' h k e = let tail : ys' ≡ xs ++ c ∷ ys = cc in absurd (Lacks-at c xs ys (subst (Lacks c) tail k))
last_cut c (x ∷ xs) (x' ∷ xs') ys ys' h k e =
    let tail : xs ++ c ∷ ys ≡ xs' ++ c ∷ ys' = cc in
    let head : x ≡ x' = cc in
    let rest = last_cut c xs xs' ys ys' h k tail in
    (ap (λ z. z ∷ xs) head ∙ ap (λ zs. x' ∷ zs) rest.0, rest.1)

-- and in one way at the first
pub first_cut : (c : ℕ) (xs xs' ys ys' : List ℕ) → Lacks c xs → Lacks c xs' → xs ++ c ∷ ys ≡ xs' ++ c ∷ ys' → (xs ≡ xs') × (ys ≡ ys')
first_cut c [] [] ys ys' h k e = (refl, cc)
first_cut c [] (x ∷ xs') ys ys' h k e = let head : x ≡ c = cc in absurd (k.0 head)
first_cut c (x ∷ xs) [] ys ys' h k e = let head : x ≡ c = cc in absurd (h.0 head)
first_cut c (x ∷ xs) (x' ∷ xs') ys ys' h k e =
    let tail : xs ++ c ∷ ys ≡ xs' ++ c ∷ ys' = cc in
    let head : x ≡ x' = cc in
    let rest = first_cut c xs xs' ys ys' h.1 k.1 tail in
    (ap (λ z. z ∷ xs) head ∙ ap (λ zs. x' ∷ zs) rest.0, rest.1)

pub differ : (m n : ℕ) → m < n → m ≡ n → ⊥
differ m n h e = omega arith

-- no text ends with both suffixes
one_suffix : (stem stem' : List ℕ) → stem ++ suffix_text Conf ≡ stem' ++ suffix_text Efi → ⊥
one_suffix stem stem' e =
    let last : stem ++ (46 ∷ 99 ∷ 111 ∷ 110 ∷ []) ++ (102 ∷ []) ≡ stem' ++ (46 ∷ 101 ∷ 102 ∷ []) ++ (105 ∷ []) =
    append_assoc stem (46 ∷ 99 ∷ 111 ∷ 110 ∷ []) (102 ∷ []) ∙ e ∙ sym (append_assoc stem' (46 ∷ 101 ∷ 102 ∷ []) (105 ∷ [])) in
    differ 102 105 (lit< tt) (same_from_push (stem ++ (46 ∷ 99 ∷ 111 ∷ 110 ∷ [])) (stem' ++ (46 ∷ 101 ∷ 102 ∷ [])) 102 105 last).1

-- a name has one stem and one suffix
pub stem_same : (stem stem' : List ℕ) (suffix suffix' : Suffix) → stem ++ suffix_text suffix ≡ stem' ++ suffix_text suffix' → (stem ≡ stem') × (suffix ≡ suffix')
stem_same stem stem' Conf Conf e = (append_cancel_right stem stem' (suffix_text Conf) e, refl)
stem_same stem stem' Efi Efi e = (append_cancel_right stem stem' (suffix_text Efi) e, refl)
stem_same stem stem' Conf Efi e = absurd (one_suffix stem stem' e)
stem_same stem stem' Efi Conf e = absurd (one_suffix stem' stem (sym e))
