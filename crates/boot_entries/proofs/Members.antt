-- Elements of lists that are filtered and mapped, and lists that have each key once.
use Rattle.std.proofs.Common.{◌≡◌, Bool, true, false, cond, List, [], ◌∷◌, map, filter, Option, Some, None, refl, sym, ap, ◌∙◌, subst, arith, ⊎_elim, Contains}
use Rattle.std.specs.List.{AllByRecursion, IsDistinct, cons_option, filter_map}
use Rattle.std.proofs.lemmas.Map.Keys.{IsDistinct-head, IsDistinct-tail, IsDistinct-cons}
use Rattle.menu_order.proofs.Lists.{Contains-cases, Contains-head, Contains-later}

pub none_in : {X : Type 0} (x : X) → Contains [] x → ⊥
none_in x c = omega (arith, c.1)

-- ---- mapped

module _ {X Y : Type 0} (f : X → Y) where
  pub mapped : (xs : List X) (x : X) → Contains xs x → Contains (map f xs) (f x)
  mapped [] x c = absurd (none_in x c)
  mapped (y ∷ xs) x c = ⊎_elim
      (λ (is : y ≡ x). subst (λ z. Contains (map f (y ∷ xs)) (f z)) is (Contains-head (f y) (map f xs)))
      (λ (later : Contains xs x). Contains-later (f y) (f x) (map f xs) (mapped xs x later))
      (Contains-cases y x xs c)

  pub mapped_from : (xs : List X) (y : Y) → Contains (map f xs) y → (x : X) × Contains xs x × (f x ≡ y)
  mapped_from [] y c = absurd (none_in y c)
  mapped_from (x ∷ xs) y c = ⊎_elim
      (λ (is : f x ≡ y). (x, Contains-head x xs, is))
      (λ (later : Contains (map f xs) y). let rest = mapped_from xs y later in (rest.0, Contains-later x rest.0 xs rest.1, rest.2))
      (Contains-cases (f x) y (map f xs) c)

-- ---- filtered

module _ {X Y : Type 0} (f : X → Option Y) where
  chosen_head : (o : Option Y) (y : Y) (later : List Y) → o ≡ Some y → Contains (cons_option o later) y
  chosen_head o y later is = rw is (Contains-head y later)

  chosen_later : (o : Option Y) (y : Y) (later : List Y) → Contains later y → Contains (cons_option o later) y
  chosen_later None y later c = c
  chosen_later (Some z) y later c = Contains-later z y later c

  pub chosen : (xs : List X) (x : X) (y : Y) → Contains xs x → f x ≡ Some y → Contains (filter_map f xs) y
  chosen [] x y c is = absurd (none_in x c)
  chosen (z ∷ xs) x y c is = ⊎_elim
      (λ (same : z ≡ x). chosen_head (f z) y (filter_map f xs) (ap f same ∙ is))
      (λ (later : Contains xs x). chosen_later (f z) y (filter_map f xs) (chosen xs x y later is))
      (Contains-cases z x xs c)

  pub chosen_from : (xs : List X) (y : Y) → Contains (filter_map f xs) y → (x : X) × Contains xs x × (f x ≡ Some y)
  chosen_from [] y c = absurd (none_in y c)
  chosen_from (x ∷ xs) y c = by (λ later. let rest = chosen_from xs y later in (rest.0, Contains-later x rest.0 xs rest.1, rest.2)) (f x) refl c
    where
      by : (Contains (filter_map f xs) y → (z : X) × Contains (x ∷ xs) z × (f z ≡ Some y)) → (o : Option Y)
          → f x ≡ o → Contains (cons_option o (filter_map f xs)) y → (z : X) × Contains (x ∷ xs) z × (f z ≡ Some y)
      by behind None e c = behind c
      by behind (Some z) e c = ⊎_elim
          (λ (is : z ≡ y). (x, Contains-head x xs, e ∙ ap (λ (w : Y). Some w) is))
          (λ (later : Contains (filter_map f xs) y). behind later)
          (Contains-cases z y (filter_map f xs) c)

-- the keys of what is chosen of distinct keys are distinct
module _ {K X : Type 0} (eq : K → K → Bool) (f : K → Option X) (key : X → K) (keyed : (k : K) (x : X) → f k ≡ Some x → key x ≡ k) where
  kept_keys : (P : K → Type 0) (ks : List K) → AllByRecursion P ks → AllByRecursion P (map key (filter_map f ks))
  kept_keys P [] all = tt
  kept_keys P (k ∷ ks) all = by (kept_keys P ks all.1) (f k) refl
    where
      by : AllByRecursion P (map key (filter_map f ks)) → (o : Option X) → f k ≡ o → AllByRecursion P (map key (cons_option o (filter_map f ks)))
      by rest None e = rest
      by rest (Some x) e = (subst P (sym (keyed k x e)) all.0, rest)

  pub distinct_keys : (ks : List K) → IsDistinct eq ks → IsDistinct eq (map key (filter_map f ks))
  distinct_keys [] distinct = distinct
  distinct_keys (k ∷ ks) distinct = by (distinct_keys ks (IsDistinct-tail eq k ks distinct)) (f k) refl
    where
      by : IsDistinct eq (map key (filter_map f ks)) → (o : Option X) → f k ≡ o → IsDistinct eq (map key (cons_option o (filter_map f ks)))
      by rest None e = rest
      by rest (Some x) e =
          let apart : AllByRecursion (λ y. eq k y ≡ false) (map key (filter_map f ks)) = kept_keys (λ y. eq k y ≡ false) ks (IsDistinct-head eq k ks distinct) in
          IsDistinct-cons eq (key x) (map key (filter_map f ks)) (subst (λ (j : K). AllByRecursion (λ y. eq j y ≡ false) (map key (filter_map f ks))) (sym (keyed k x e)) apart) rest

-- and so are those of distinct keys that pass a test
module _ {K : Type 0} (eq : K → K → Bool) (test : K → Bool) where
  passing_keys : (P : K → Type 0) (ks : List K) → AllByRecursion P ks → AllByRecursion P (filter test ks)
  passing_keys P [] all = tt
  passing_keys P (k ∷ ks) all = by (test k) (passing_keys P ks all.1)
    where
      by : (b : Bool) → AllByRecursion P (filter test ks) → AllByRecursion P (cond b (k ∷ filter test ks) (filter test ks))
      by true rest = (all.0, rest)
      by false rest = rest

  pub distinct_passing : (ks : List K) → IsDistinct eq ks → IsDistinct eq (filter test ks)
  distinct_passing [] distinct = distinct
  distinct_passing (k ∷ ks) distinct = by (test k) (distinct_passing ks (IsDistinct-tail eq k ks distinct))
    where
      by : (b : Bool) → IsDistinct eq (filter test ks) → IsDistinct eq (cond b (k ∷ filter test ks) (filter test ks))
      by true rest = IsDistinct-cons eq k (filter test ks) (passing_keys (λ y. eq k y ≡ false) ks (IsDistinct-head eq k ks distinct)) rest
      by false rest = rest

module _ {K : Type 0} (test : K → Bool) where
  pub passing : (ks : List K) (k : K) → Contains ks k → test k ≡ true → Contains (filter test ks) k
  passing [] k c passes = absurd (none_in k c)
  passing (j ∷ ks) k c passes = ⊎_elim
      (λ (is : j ≡ k). here (test j) (ap test is ∙ passes) is)
      (λ (later : Contains ks k). behind (test j) (passing ks k later passes))
      (Contains-cases j k ks c)
    where
      here : (b : Bool) → b ≡ true → j ≡ k → Contains (cond b (j ∷ filter test ks) (filter test ks)) k
      here true e is = subst (Contains (j ∷ filter test ks)) is (Contains-head j (filter test ks))
      here false e is = cc

      behind : (b : Bool) → Contains (filter test ks) k → Contains (cond b (j ∷ filter test ks) (filter test ks)) k
      behind true later = Contains-later j k (filter test ks) later
      behind false later = later

  pub passing_from : (ks : List K) (k : K) → Contains (filter test ks) k → Contains ks k × (test k ≡ true)
  passing_from [] k c = absurd (none_in k c)
  passing_from (j ∷ ks) k c = by (test j) refl (λ later. let rest = passing_from ks k later in (Contains-later j k ks rest.0, rest.1)) c
    where
      by : (b : Bool) → test j ≡ b → (Contains (filter test ks) k → Contains (j ∷ ks) k × (test k ≡ true))
          → Contains (cond b (j ∷ filter test ks) (filter test ks)) k → Contains (j ∷ ks) k × (test k ≡ true)
      by false e behind c = behind c
      by true e behind c = ⊎_elim
          (λ (is : j ≡ k). (subst (Contains (j ∷ ks)) is (Contains-head j ks), ap test (sym is) ∙ e))
          (λ (later : Contains (filter test ks) k). behind later)
          (Contains-cases j k (filter test ks) c)
