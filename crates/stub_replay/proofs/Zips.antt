-- What holds of the items of two lists, place by place.
use Rattle.std.proofs.Common.{◌≡◌, ◌<◌, ◌≤◌, ◌+◌, ℕ, zero, suc, List, [], ◌∷◌, ◌++◌, length, take, drop, get_or, set, sym, subst, ◌∙◌, arith, add-one}
use Rattle.std.specs.List.{AllZip}
use Rattle.std.proofs.lemmas.List.{take_more, take_all, take-append-le}

-- R holds of the items at the first n places, and the others are the same
abbrev pub ZipUpTo : {A : Type 0} → (A → A → Type 0) → ℕ → List A → List A → Type 0
ZipUpTo R zero xs ys = xs ≡ ys
ZipUpTo R (suc n) [] ys = [] ≡ ys
ZipUpTo R (suc n) (x ∷ xs) [] = ⊥
ZipUpTo R (suc n) (x ∷ xs) (y ∷ ys) = R x y × ZipUpTo R n xs ys

up_to_suc : {A : Type 0} (R : A → A → Type 0) (n : ℕ) (xs ys : List A) (d new : A) → n < length ys → R (get_or ys n d) new
    → ZipUpTo R n xs ys → ZipUpTo R (suc n) xs (set ys n new)
up_to_suc R zero [] [] d new inside r same = absurd (omega arith)
up_to_suc R zero (x ∷ xs) [] d new inside r same = absurd (omega arith)
up_to_suc R zero [] (y ∷ ys) d new inside r same = cc
up_to_suc {A = A} R zero (x ∷ xs) (y ∷ ys) d new inside r same =
    let first : y ≡ x = cc in
    let rest : xs ≡ ys = cc in
    let P = λ (z : A). R z new in
    (subst P first r, rest)
up_to_suc R (suc n) [] [] d new inside r same = absurd (omega arith)
up_to_suc R (suc n) [] (y ∷ ys) d new inside r same = cc
up_to_suc R (suc n) (x ∷ xs) [] d new inside r same = absurd (omega arith)
up_to_suc R (suc n) (x ∷ xs) (y ∷ ys) d new inside r same = (same.0, up_to_suc R n xs ys d new (omega arith) r same.1)

-- one place more
pub up_to_more : {A : Type 0} (R : A → A → Type 0) (n : ℕ) (xs ys : List A) (d new : A) → n < length ys → R (get_or ys n d) new
    → ZipUpTo R n xs ys → ZipUpTo R (n + 1) xs (set ys n new)
up_to_more R n xs ys d new inside r before =
    let P = λ (k : ℕ). ZipUpTo R k xs (set ys n new) in
    subst P (sym (add-one n)) (up_to_suc R n xs ys d new inside r before)

-- all places
pub up_to_all : {A : Type 0} (R : A → A → Type 0) (n : ℕ) (xs ys : List A) → length xs ≤ n → ZipUpTo R n xs ys → AllZip R xs ys
up_to_all R zero [] [] all h = tt
up_to_all R zero [] (y ∷ ys) all h = cc
up_to_all R zero (x ∷ xs) ys all h = absurd (omega arith)
up_to_all R (suc n) [] [] all h = tt
up_to_all R (suc n) [] (y ∷ ys) all h = cc
up_to_all R (suc n) (x ∷ xs) [] all h = h
up_to_all R (suc n) (x ∷ xs) (y ∷ ys) all h = (h.0, up_to_all R n xs ys (omega arith) h.1)

-- an item behind them has its partner in what the first list had
pub up_to_partner : {A B : Type 0} (R : A → A → Type 0) (S : A → B → Type 0) (n : ℕ) (xs ys : List A) (zs : List B) (d : A) → n < length ys
    → ZipUpTo R n xs ys → AllZip S xs zs → (z : B) × S (get_or ys n d) z
up_to_partner R S zero xs [] zs d inside same all = absurd (omega arith)
up_to_partner R S zero [] (y ∷ ys) zs d inside same all = cc
up_to_partner R S zero (x ∷ xs) (y ∷ ys) [] d inside same all = absurd all
up_to_partner {A = A} R S zero (x ∷ xs) (y ∷ ys) (z ∷ zs) d inside same all =
    let first : x ≡ y = cc in
    let P = λ (w : A). S w z in
    (z, subst P first all.0)
up_to_partner R S (suc n) xs [] zs d inside same all = absurd (omega arith)
up_to_partner R S (suc n) [] (y ∷ ys) zs d inside same all = cc
up_to_partner R S (suc n) (x ∷ xs) (y ∷ ys) [] d inside same all = absurd all
up_to_partner R S (suc n) (x ∷ xs) (y ∷ ys) (z ∷ zs) d inside same all = up_to_partner R S n xs ys zs d (omega arith) same.1 all.1

zip_push : {A B : Type 0} (R : A → B → Type 0) (xs : List A) (ys : List B) (x : A) (y : B) → AllZip R xs ys → R x y → AllZip R (xs ++ x ∷ []) (ys ++ y ∷ [])
zip_push R [] [] x y all r = (r, tt)
zip_push R [] (v ∷ ys) x y all r = absurd all
zip_push R (u ∷ xs) [] x y all r = absurd all
zip_push R (u ∷ xs) (v ∷ ys) x y all r = (all.0, zip_push R xs ys x y all.1 r)

-- the first list grows beside the first items of the second
pub zip_more : {A B : Type 0} (R : A → B → Type 0) (xs : List A) (ys : List B) (n : ℕ) (x : A) (d : B) → n < length ys
    → AllZip R xs (take n ys) → R x (get_or ys n d) → AllZip R (xs ++ x ∷ []) (take (n + 1) ys)
zip_more {B = B} R xs ys n x d inside all r =
    let P = λ (l : List B). AllZip R (xs ++ x ∷ []) l in
    subst P (sym (take_more ys n d inside)) (zip_push R xs (take n ys) x (get_or ys n d) all r)

-- what holds beside a third list goes over to the items that each is related to
pub zip_moved : {A B : Type 0} (R : A → A → Type 0) (S T : A → B → Type 0) (xs ys : List A) (zs : List B) → ((x y : A) (z : B) → R x y → S x z → T y z)
    → AllZip R xs ys → AllZip S xs zs → AllZip T ys zs
zip_moved R S T [] [] [] move r s = tt
zip_moved R S T [] [] (z ∷ zs) move r s = absurd s
zip_moved R S T [] (y ∷ ys) zs move r s = absurd r
zip_moved R S T (x ∷ xs) [] zs move r s = absurd r
zip_moved R S T (x ∷ xs) (y ∷ ys) [] move r s = absurd s
zip_moved R S T (x ∷ xs) (y ∷ ys) (z ∷ zs) move r s = (move x y z r.0 s.0, zip_moved R S T xs ys zs move r.1 s.1)

-- what is written through a slice of a whole list
pub written_back : {A : Type 0} (n : ℕ) (xs ys : List A) → n ≡ length xs → length ys ≡ length xs → take n (ys ++ drop (length ys) xs) ≡ ys
written_back n xs ys whole same = take-append-le n ys (drop (length ys) xs) (omega arith) ∙ take_all n ys (omega arith)
