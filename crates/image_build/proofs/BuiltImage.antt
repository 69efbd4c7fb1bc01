-- What a build reads, one by one.
use Rattle.std.proofs.Common.{◌≡◌, ◌≤◌, ◌+◌, ◌*◌, ℕ, List, [], ◌∷◌, ◌++◌, length, map, Result, Ok, Err, sym, ap, ◌∙◌, subst, arith, All, IsErr, IsErrAnd, sum_by}
use Rattle.std.specs.List.{AllZip}
use Rattle.std.proofs.lemmas.List.{map-append}
use Rattle.std.proofs.lemmas.List.Elements.{All-append, All-cons, All-head, All-nil, All-tail}
use Rattle.std.proofs.lemmas.List.Sums.{sum_by-cons, sum_by_push}
use Rattle.boot_base.specs.declared.refusal.Refusal.{Refusal}
use Rattle.boot_machine.specs.Prelude.{State}
use Rattle.command_plans.specs.Prelude.{each, Says, ReadErrorFor}
use Rattle.image_build.specs.declared.source.Source.{Source}
use Rattle.command_plans.specs.declared.read_error.ReadError.{ReadError}
use Rattle.command_plans.specs.declared.read_error.ReadError.TheVariants as read_errors
use Rattle.command_plans.proofs.Each.{each_more, each_refused}
use Rattle.command_plans.proofs.ReadErrors.{says_read_error}

-- one more is made, of a state that stands
pub made_more : {A B C : Type 0} (F : State → A → Result B Refusal) (V : State → C → B) (s now : State) (xs : List A) (made more : List C) (x : A) (y : C) → now ≡ s
    → each (F s) xs ≡ Ok (map (V s) made) → F now x ≡ Ok (V now y) → more ≡ made ++ y ∷ [] → each (F s) (xs ++ x ∷ []) ≡ Ok (map (V s) more)
made_more F V s now xs made more x y same before found is =
    each_more (F s) xs (map (V s) made) x (V s y) before (subst (λ (t : State). F t x ≡ Ok (V t y)) same found)
    ∙ ap (λ l. Ok l) (sym (map-append (V s) made (y ∷ [])) ∙ ap (map (V s)) (sym is))

pub all_more : {C : Type 0} (P : State → C → Type 0) (s now : State) (made more : List C) (y : C) → now ≡ s → All (P s) made → P now y → more ≡ made ++ y ∷ [] → All (P s) more
all_more P s now made more y same before found is =
    let here = subst (λ (t : State). P t y) same found in
    subst (All (P s)) (sym is) (All-append (P s) made (y ∷ []) before (All-cons (P s) y [] here (All-nil (P s))))

read_error_each : {A B : Type 0} (F : State → A → Result B Refusal) (s now : State) (all xs rest : List A) (ys : List B) (x : A) (fault : ReadError) → now ≡ s → all ≡ xs ++ x ∷ rest
    → each (F s) xs ≡ Ok ys → ReadErrorFor fault (F now x) → ReadErrorFor fault (each (F s) all)
read_error_each F s now all xs rest ys x read_errors.Memory same is before why = tt
read_error_each F s now all xs rest ys x read_errors.Disk same is before why = tt
read_error_each F s now all xs rest ys x (read_errors.Refused refusal) same is before why =
    ap (each (F s)) is ∙ each_refused (F s) xs ys x rest refusal before (subst (λ (t : State). F t x ≡ Err refusal) same why)

-- one is refused, of a state that stands
pub one_refused : {X A B : Type 0} (view : X → List B) (F : State → A → Result B Refusal) (s now : State) (all xs rest : List A) (ys : List B) (x : A) (fault : ReadError) (result : Result X ReadError)
    → now ≡ s → all ≡ xs ++ x ∷ rest → each (F s) xs ≡ Ok ys → ReadErrorFor fault (F now x) → IsErr result → IsErrAnd result (λ e. e ≡ fault) → Says view result (each (F s) all)
one_refused view F s now all xs rest ys x fault result same is before why failed fails =
    says_read_error result fault view (each (F s) all) failed fails (read_error_each F s now all xs rest ys x fault same is before why)

-- what a list comes to, with one more on both sides
pub sum_more : {A C : Type 0} (f : C → ℕ) (h : A → ℕ) (xs : List A) (made more : List C) (x : A) (y : C) → sum_by f made ≤ sum_by h xs → f y ≤ h x → more ≡ made ++ y ∷ []
    → sum_by f more ≤ sum_by h (xs ++ x ∷ [])
sum_more f h xs made more x y before here is =
    omega (arith, ap (sum_by f) is, sum_by_push f made y, sum_by_push h xs x)

zip_push : {A B : Type 0} (R : A → B → Type 0) (xs : List A) (ys : List B) (x : A) (y : B) → AllZip R xs ys → R x y → AllZip R (xs ++ x ∷ []) (ys ++ y ∷ [])
zip_push R [] [] x y before here = (here, tt)
zip_push R [] (b ∷ ys) x y before here = absurd before
zip_push R (a ∷ xs) [] x y before here = absurd before
zip_push R (a ∷ xs) (b ∷ ys) x y before here = (before.0, zip_push R xs ys x y before.1 here)

pub zip_more : {A B : Type 0} (R : A → B → Type 0) (xs : List A) (ys more : List B) (x : A) (y : B) → AllZip R xs ys → R x y → more ≡ ys ++ y ∷ [] → AllZip R (xs ++ x ∷ []) more
zip_more R xs ys more x y before here is = subst (AllZip R (xs ++ x ∷ [])) (sym is) (zip_push R xs ys x y before here)

-- what a list names is cut where the list is
pub mapped_cut : {A B : Type 0} (N : A → B) (all xs rest : List A) (x : A) → all ≡ xs ++ x ∷ rest → map N all ≡ map N xs ++ N x ∷ map N rest
mapped_cut N all xs rest x is = ap (map N) is ∙ map-append N xs (x ∷ rest)

pub mapped_more : {A N B C : Type 0} (name : N → A) (F : State → A → Result B Refusal) (V : State → C → B) (s now : State) (xs : List N) (made more : List C) (x : N) (y : C) → now ≡ s
    → each (F s) (map name xs) ≡ Ok (map (V s) made) → F now (name x) ≡ Ok (V now y) → more ≡ made ++ y ∷ [] → each (F s) (map name (xs ++ x ∷ [])) ≡ Ok (map (V s) more)
mapped_more name F V s now xs made more x y same before found is =
    ap (each (F s)) (map-append name xs (x ∷ [])) ∙ made_more F V s now (map name xs) made more (name x) y same before found is

bounded : (f : Source → ℕ) (most : ℕ) (found : List Source) → All (λ source. f source ≤ most) found → sum_by f found ≤ most * length found
bounded f most [] all = omega arith
bounded f most (source ∷ found) all =
    let rest = bounded f most found (All-tail (λ s. f s ≤ most) source found all) in
    let here = All-head (λ s. f s ≤ most) source found all in
    omega (arith, sum_by-cons f source found)
