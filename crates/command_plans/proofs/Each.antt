-- What is made of each of a list, one by one.
use Rattle.std.proofs.Common.{◌≡◌, ◌<◌, ◌+◌, ℕ, List, [], ◌∷◌, ◌++◌, Result, Ok, Err, refl, sym, ap, ◌∙◌, subst, length, suc, map, take, drop, get_or}
use Rattle.std.proofs.lemmas.List.{append_assoc, drop_more, length-append, take-append-drop, take_more}
use Rattle.boot_base.specs.declared.refusal.Refusal.{Refusal}
use Rattle.command_plans.specs.Prelude.{◌>>=◌, WordErrorFor, each}
use Rattle.command_plans.specs.declared.word_error.WordError.{WordError}
use Rattle.command_plans.specs.declared.word_error.WordError.TheVariants.{Memory, Refused}

pub bind_ok : {B C : Type 0} (r : Result B Refusal) (g : B → Result C Refusal) (c : C) → (r >>= g) ≡ Ok c → (b : B) × (r ≡ Ok b) × (g b ≡ Ok c)
bind_ok (Ok b) g c is = (b, refl, is)
bind_ok (Err e) g c is = cc

each_step : {A B : Type 0} (f : A → Result B Refusal) (x : A) (xs : List A) (y : B) (ys : List B) → f x ≡ Ok y → each f xs ≡ Ok ys → each f (x ∷ xs) ≡ Ok (y ∷ ys)
unfolding each
each_step f x xs y ys first more = ap (λ q. q >>= λ z. each f xs >>= λ r. Ok (z ∷ r)) first ∙ ap (λ q. q >>= λ r. Ok (y ∷ r)) more

each_step_refused : {A B : Type 0} (f : A → Result B Refusal) (x : A) (xs : List A) (y : B) (why : Refusal) → f x ≡ Ok y → each f xs ≡ Err why → each f (x ∷ xs) ≡ Err why
unfolding each
each_step_refused f x xs y why first more = ap (λ q. q >>= λ z. each f xs >>= λ r. Ok (z ∷ r)) first ∙ ap (λ q. q >>= λ r. Ok (y ∷ r)) more

pub each_cut : {A B : Type 0} (f : A → Result B Refusal) (x : A) (xs : List A) (ys : List B) → each f (x ∷ xs) ≡ Ok ys
    → (y : B) × (r : List B) × (f x ≡ Ok y) × (each f xs ≡ Ok r) × (ys ≡ y ∷ r)
unfolding each
each_cut f x xs ys done =
    let first = bind_ok (f x) (λ y. each f xs >>= λ r. Ok (y ∷ r)) ys done in
    let more = bind_ok (each f xs) (λ r. Ok (first.0 ∷ r)) ys first.2 in
    (first.0, more.0, first.1, more.1, cc more.2)

-- nothing is made of nothing
pub each_none : {A B : Type 0} (f : A → Result B Refusal) → each f [] ≡ Ok []
unfolding each
each_none f = refl

pub none_made : {A B : Type 0} (f : A → Result B Refusal) (ys : List B) → each f [] ≡ Ok ys → [] ≡ ys
unfolding each
none_made f ys done = cc done

last : {A B : Type 0} (f : A → Result B Refusal) (ys : List B) (x : A) (y : B) → [] ≡ ys → f x ≡ Ok y → each f (x ∷ []) ≡ Ok (ys ++ y ∷ [])
last f ys x y none is = subst (λ l. each f (x ∷ []) ≡ Ok (l ++ y ∷ [])) none (each_step f x [] y [] is (each_none f))

-- one more
pub each_more : {A B : Type 0} (f : A → Result B Refusal) (xs : List A) (ys : List B) (x : A) (y : B) → each f xs ≡ Ok ys → f x ≡ Ok y → each f (xs ++ x ∷ []) ≡ Ok (ys ++ y ∷ [])
each_more f [] ys x y done is = last f ys x y (none_made f ys done) is
each_more f (first ∷ xs) ys x y done is =
    let cut = each_cut f first xs ys done in
    subst (λ l. each f (first ∷ (xs ++ x ∷ [])) ≡ Ok (l ++ y ∷ [])) (sym cut.4) (each_step f first (xs ++ x ∷ []) cut.0 (cut.1 ++ y ∷ []) cut.2 (each_more f xs cut.1 x y cut.3 is))

refused_here : {A B : Type 0} (f : A → Result B Refusal) (x : A) (rest : List A) (why : Refusal) → f x ≡ Err why → each f (x ∷ rest) ≡ Err why
unfolding each
refused_here f x rest why is = ap (λ q. q >>= λ z. each f rest >>= λ r. Ok (z ∷ r)) is

-- the first that is refused
pub each_refused : {A B : Type 0} (f : A → Result B Refusal) (xs : List A) (ys : List B) (x : A) (rest : List A) (why : Refusal) → each f xs ≡ Ok ys → f x ≡ Err why → each f (xs ++ x ∷ rest) ≡ Err why
each_refused f [] ys x rest why done is = refused_here f x rest why is
each_refused f (first ∷ xs) ys x rest why done is =
    let cut = each_cut f first xs ys done in
    each_step_refused f first (xs ++ x ∷ rest) cut.0 why cut.2 (each_refused f xs cut.1 x rest why cut.3 is)

-- as many are made
pub each_length : {A B : Type 0} (f : A → Result B Refusal) (xs : List A) (ys : List B) → each f xs ≡ Ok ys → length ys ≡ length xs
each_length f [] ys done = sym (ap length (none_made f ys done))
each_length f (first ∷ xs) ys done =
    let cut = each_cut f first xs ys done in
    ap length cut.4 ∙ ap suc (each_length f xs cut.1 cut.3)

-- of a list of one
pub each_one : {A B : Type 0} (f : A → Result B Refusal) (x : A) (y : B) → f x ≡ Ok y → each f (x ∷ []) ≡ Ok (y ∷ [])
each_one f x y is = each_step f x [] y [] is (each_none f)

pub each_one_fails : {A B : Type 0} (f : A → Result B Refusal) (x : A) (word_error : WordError) → WordErrorFor word_error (f x) → WordErrorFor word_error (each f (x ∷ []))
each_one_fails f x Memory why = tt
each_one_fails f x (Refused refusal) why = refused_here f x [] refusal why

-- of what is made of each first
pub each_map : {A B C : Type 0} (f : B → Result C Refusal) (g : A → B) (xs : List A) → each f (map g xs) ≡ each (λ x. f (g x)) xs
unfolding each
each_map f g [] = refl
each_map f g (x ∷ xs) = ap (λ r. f (g x) >>= λ y. r >>= λ ys. Ok (y ∷ ys)) (each_map f g xs)

-- of one list behind another
ok_again : {X : Type 0} (r : Result X Refusal) → r ≡ (r >>= λ x. Ok x)
ok_again (Ok x) = refl
ok_again (Err e) = refl

joined : {B : Type 0} (first : Result B Refusal) (xs ys : Result (List B) Refusal)
    → (first >>= λ y. (xs >>= λ made. ys >>= λ more. Ok (made ++ more)) >>= λ r. Ok (y ∷ r)) ≡ ((first >>= λ y. xs >>= λ r. Ok (y ∷ r)) >>= λ made. ys >>= λ more. Ok (made ++ more))
joined (Err e) xs ys = refl
joined (Ok y) (Err e) ys = refl
joined (Ok y) (Ok made) (Err e) = refl
joined (Ok y) (Ok made) (Ok more) = refl

pub each_append : {A B : Type 0} (f : A → Result B Refusal) (xs ys : List A) → each f (xs ++ ys) ≡ (each f xs >>= λ made. each f ys >>= λ more. Ok (made ++ more))
unfolding each
each_append f [] ys = ok_again (each f ys)
each_append f (x ∷ xs) ys = ap (λ r. f x >>= λ y. r >>= λ more. Ok (y ∷ more)) (each_append f xs ys) ∙ joined (f x) (each f xs) (each f ys)

-- one by one, as far as a loop has come
pub each_taken : {A B : Type 0} (f : A → Result B Refusal) (xs : List A) (i : ℕ) (ys more : List B) (x d : A) (y : B) → i < length xs
    → each f (take i xs) ≡ Ok ys → x ≡ get_or xs i d → f x ≡ Ok y → more ≡ ys ++ y ∷ []
    → each f (take (i + 1) xs) ≡ Ok more
each_taken f xs i ys more x d y inside before is_item made is =
    ap (each f) (take_more xs i d inside)
    ∙ each_more f (take i xs) ys (get_or xs i d) y before (ap f (sym is_item) ∙ made)
    ∙ ap Ok (sym is)

pub taken_word_error : {A B : Type 0} (f : A → Result B Refusal) (xs : List A) (i : ℕ) (ys : List B) (x d : A) (word_error : WordError) → i < length xs
    → each f (take i xs) ≡ Ok ys → x ≡ get_or xs i d → WordErrorFor word_error (f x)
    → WordErrorFor word_error (each f xs)
taken_word_error f xs i ys x d Memory inside before is_item why = tt
taken_word_error f xs i ys x d (Refused refusal) inside before is_item why =
    ap (each f) (sym (take-append-drop i xs) ∙ ap (λ l. take i xs ++ l) (drop_more xs i d inside))
    ∙ each_refused f (take i xs) ys (get_or xs i d) (drop (i + 1) xs) refusal before (ap f (sym is_item) ∙ why)

-- one goes over
pub one_over : {A : Type 0} (seen : List A) (x : A) (left rest : List A) → left ≡ x ∷ rest → seen ++ left ≡ (seen ++ x ∷ []) ++ rest
one_over seen x left rest is = ap (λ l. seen ++ l) is ∙ sym (append_assoc seen (x ∷ []) rest)

pub count_more : {A B : Type 0} (seen : List A) (x : A) (made more : List B) (y : B) → length made ≡ length seen → more ≡ made ++ y ∷ [] → length more ≡ length (seen ++ x ∷ [])
count_more seen x made more y before is = ap length is ∙ length-append made (y ∷ []) ∙ ap (λ (n : ℕ). n + 1) before ∙ sym (length-append seen (x ∷ []))
