-- Lists without repetitions.
use Rattle.std.proofs.Common.{◌≡◌, ◌≢◌, ◌+◌, ◌<◌, inl, inr, ℕ, Bool, true, false, not, cond, List, [], ◌∷◌, ◌++◌, get_or, length, map, take, refl, sym, ap, ◌∙◌, arith, ◌||◌, filter}
use Rattle.std.specs.List.{All, AllPairs, list_any}
use Rattle.std.specs.Cmp.{IsEquivalence}
use Rattle.std.proofs.lemmas.Bool.{cases_Bool}
use Rattle.std.proofs.lemmas.List.{append-nil, map-append, take_more}
use Rattle.std.proofs.lemmas.List.Elements.{All-cons, All-nil, filter-append}
use Rattle.std.proofs.lemmas.List.Folds.{list_any-append}
use Rattle.std.proofs.lemmas.List.Kept.{AllPairs-cons, AllPairs-filter}
use Rattle.std.proofs.lemmas.Map.Views.{any-filter_same}
use Rattle.command_plans.specs.Prelude.{without_repeats}

kept_apart : {X : Type 0} (same : X → X → Bool) (x : X) (ys : List X) → All (λ y. same y x ≡ false) (filter (λ y. not (same y x)) ys)
kept_apart same x [] = All-nil (λ y. same y x ≡ false)
kept_apart same x (y ∷ ys) =
    elim (cases_Bool (same y x)) [
      | inl here ↦ rw here (kept_apart same x ys)
      | inr apart ↦ rw apart (All-cons (λ y. same y x ≡ false) y (filter (λ y. not (same y x)) ys) apart (kept_apart same x ys))
    ]

-- no two that are left are the same
pub once_apart : {X : Type 0} (same : X → X → Bool) (xs : List X) → AllPairs (λ one other. same other one ≡ false) (without_repeats same xs)
unfolding without_repeats
once_apart same [] = λ i j d before inside. absurd (omega arith)
once_apart same (x ∷ xs) =
    AllPairs-cons (λ one other. same other one ≡ false) x (filter (λ y. not (same y x)) (without_repeats same xs)) (kept_apart same x (without_repeats same xs))
    (AllPairs-filter (λ one other. same other one ≡ false) (λ y. not (same y x)) (without_repeats same xs) (once_apart same xs))

left_out : {X : Type 0} (p : X → Bool) (x : X) (found : Bool) (rest : List X) → p x ≡ false → filter p (cond found rest (rest ++ x ∷ [])) ≡ filter p rest
left_out p x true rest out = refl
left_out p x false rest out = filter-append p rest (x ∷ []) ∙ rw out (append-nil (filter p rest))

taken_in : {X : Type 0} (p : X → Bool) (x : X) (found : Bool) (rest : List X) → p x ≡ true
    → filter p (cond found rest (rest ++ x ∷ [])) ≡ cond found (filter p rest) (filter p rest ++ x ∷ [])
taken_in p x true rest kept = refl
taken_in p x false rest kept = filter-append p rest (x ∷ []) ∙ rw kept refl

behind : {X : Type 0} (z x : X) (found also : Bool) (front : List X) → also ≡ found
    → z ∷ cond found front (front ++ x ∷ []) ≡ cond also (z ∷ front) (z ∷ (front ++ x ∷ []))
behind z x true also front is = rw is refl
behind z x false also front is = rw is refl

others_stay : {X : Type 0} {same : X → X → Bool} → IsEquivalence same → (z x : X) → same z x ≡ false → (y : X) → same y x ≡ true → not (same y z) ≡ true
others_stay {X} {same} e z x apart y here = ap not (e.congr y x z here ∙ e.symm x z ∙ apart)

-- one more is left out exactly where it is the same as one that is left
pub once_more : {X : Type 0} {same : X → X → Bool} → IsEquivalence same → (xs : List X) (x : X)
    → without_repeats same (xs ++ x ∷ []) ≡ cond (list_any (λ y. same y x) (without_repeats same xs)) (without_repeats same xs) (without_repeats same xs ++ x ∷ [])
unfolding without_repeats
once_more {X} {same} e [] x = refl
once_more {X} {same} e (z ∷ zs) x =
    let p : X → Bool = λ y. not (same y z) in
    let rest = without_repeats same zs in
    let shorter : filter p (without_repeats same (zs ++ x ∷ [])) ≡ filter p (cond (list_any (λ y. same y x) rest) rest (rest ++ x ∷ [])) = ap (filter p) (once_more e zs x) in
    elim (cases_Bool (same z x)) [
      | inl here ↦ rw here (ap (λ (l : List X). z ∷ l) (shorter ∙ left_out p x (list_any (λ y. same y x) rest) rest (ap not (e.symm x z ∙ here))))
      | inr apart ↦ rw apart (ap (λ (l : List X). z ∷ l) (shorter ∙ taken_in p x (list_any (λ y. same y x) rest) rest (ap not (e.symm x z ∙ apart)))
          ∙ behind z x (list_any (λ y. same y x) rest) (list_any (λ y. same y x) (filter p rest)) (filter p rest) (any-filter_same (λ y. same y x) p true (others_stay e z x apart) rest))
    ]

-- what a loop has kept, with one more that isn't the same as any of it, is the list so far without repeats
pub kept_new : {X : Type 0} {same : X → X → Bool} → IsEquivalence same → (xs : List X) (x : X) (kept more : List X) (found : Bool)
    → kept ≡ without_repeats same xs → found ≡ list_any (λ y. same y x) kept → found ≡ false → more ≡ kept ++ x ∷ [] → more ≡ without_repeats same (xs ++ x ∷ [])
kept_new {X} {same} e xs x kept more found is answer none pushed =
    pushed ∙ ap (λ (l : List X). l ++ x ∷ []) is
    ∙ sym
    (once_more e xs x ∙ ap (λ (b : Bool). cond b (without_repeats same xs) (without_repeats same xs ++ x ∷ []))
    (sym (ap (λ (l : List X). list_any (λ y. same y x) l) is) ∙ sym answer ∙ none))

pub kept_seen : {X : Type 0} {same : X → X → Bool} → IsEquivalence same → (xs : List X) (x : X) (kept : List X) (found : Bool)
    → kept ≡ without_repeats same xs → found ≡ list_any (λ y. same y x) kept → found ≡ true → kept ≡ without_repeats same (xs ++ x ∷ [])
kept_seen {X} {same} e xs x kept found is answer some =
    is ∙ sym (once_more e xs x ∙ ap (λ (b : Bool). cond b (without_repeats same xs) (without_repeats same xs ++ x ∷ [])) (sym (ap (λ (l : List X). list_any (λ y. same y x) l) is) ∙ sym answer ∙ some))

itself : {X : Type 0} (same : X → X → Bool) (one other : X) → same one one ≡ true → same other one ≡ false → one ≢ other
itself same one other is apart equal = absurd (cc)

-- those that aren't the same differ
pub differ : {X : Type 0} (same : X → X → Bool) → ((x : X) → same x x ≡ true) → (xs : List X) → AllPairs (λ one other. same other one ≡ false) xs → AllPairs (λ one other. one ≢ other) xs
differ same itself_same xs apart i j d before inside = itself same _ _ (itself_same _) (apart i j d before inside)

-- what is made of one more of a list
pub map_take_more : {A B : Type 0} (f : A → B) (xs : List A) (i : ℕ) (x : A) (y : B) → i < length xs → x ≡ get_or xs i x → y ≡ f x
    → map f (take (i + 1) xs) ≡ map f (take i xs) ++ y ∷ []
map_take_more f xs i x y inside is made =
    ap (map f) (take_more xs i x inside) ∙ map-append f (take i xs) (get_or xs i x ∷ []) ∙ ap (λ z. map f (take i xs) ++ z ∷ []) (ap f (sym is) ∙ sym made)

or_end : (here before : Bool) → cond here true before ≡ (before || (here || false))
or_end true true = refl
or_end true false = refl
or_end false true = refl
or_end false false = refl

pub not_true : (found added : Bool) → added ≡ not found → added ≡ true → found ≡ false
not_true true added is new = absurd (cc (is, new))
not_true false added is new = refl

pub not_false : (found added : Bool) → added ≡ not found → added ≡ false → found ≡ true
not_false true added is old = refl
not_false false added is old = absurd (cc (is, old))

-- a test that tells what is kept tells it after one more
pub tells_more : {X : Type 0} (same : X → X → Bool) (kept : List X) (x : X) (before after : X → Bool)
    → ((q : X) → before q ≡ list_any (λ y. same y q) kept) → ((q : X) → after q ≡ cond (same x q) true (before q))
    → (q : X) → after q ≡ list_any (λ y. same y q) (kept ++ x ∷ [])
tells_more same kept x before after told now q =
    now q ∙ ap (cond (same x q) true) (told q) ∙ or_end (same x q) (list_any (λ y. same y q) kept) ∙ sym (list_any-append (λ y. same y q) kept (x ∷ []))
