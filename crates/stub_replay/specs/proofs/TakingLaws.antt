-- Laws of registers whose hashes take bytes.
use Rattle.std.specs.Prelude.{ℕ, List, [], ◌∷◌, ◌++◌}
use Rattle.std.specs.List.{AllZip}
use Rattle.std.proofs.Common.{sym, subst, append_assoc, append-nil}
use Rattle.stub_replay.specs.declared.register.Register.{Register}
use Rattle.stub_replay.specs.Registers.{Holds, Takes}

-- items that stand in a relation each to itself
pub zip_same : {A : Type 0} (R : A → A → Type 0) (xs : List A) → ((x : A) → R x x) → AllZip R xs xs
zip_same R [] each = tt
zip_same R (x ∷ xs) each = (each x, zip_same R xs each)

-- one relation behind another
pub zip_joined : {A : Type 0} (R S T : A → A → Type 0) (xs ys zs : List A) → ((x y z : A) → R x y → S y z → T x z)
    → AllZip R xs ys → AllZip S ys zs → AllZip T xs zs
zip_joined R S T [] [] [] join r s = tt
zip_joined R S T [] [] (z ∷ zs) join r s = absurd s
zip_joined R S T [] (y ∷ ys) zs join r s = absurd r
zip_joined R S T (x ∷ xs) [] zs join r s = absurd r
zip_joined R S T (x ∷ xs) (y ∷ ys) [] join r s = absurd s
zip_joined R S T (x ∷ xs) (y ∷ ys) (z ∷ zs) join r s = (join x y z r.0 s.0, zip_joined R S T xs ys zs join r.1 s.1)

-- nothing is taken
pub takes_none : (xs : List Register) → AllZip (Takes []) xs xs
takes_none xs =
    zip_same (Takes []) xs (λ x bank items taken holds. let P = λ (l : List ℕ). Holds x bank items l in subst P
    (sym (append-nil taken)) holds)

-- more is taken
pub takes_more : (a b : List ℕ) (xs ys zs : List Register) → AllZip (Takes a) xs ys → AllZip (Takes b) ys zs
    → AllZip (Takes (a ++ b)) xs zs
takes_more a b xs ys zs first second =
    zip_joined (Takes a) (Takes b) (Takes (a ++ b)) xs ys zs
    (λ x y z r s bank items taken holds.
    let P = λ (l : List ℕ). Holds z bank items l in
    subst P (append_assoc taken a b) (s bank items (taken ++ a) (r bank items taken holds)))
    first second
