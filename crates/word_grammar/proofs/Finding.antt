-- What is found in a list of shown elements is shown of what is found in the list.
use Rattle.std.proofs.Common.{◌≡◌, Bool, true, false, cond, List, [], ◌∷◌, map, find, Some, option_map, refl}

pub find-map : {A B : Type 0} (test : B → Bool) (f : A → B) (xs : List A) → option_map f (find (λ x. test (f x)) xs) ≡ find test (map f xs)
find-map test f [] = refl
find-map test f (x ∷ xs) =
    elim (test (f x))
    as (λ t. option_map f (cond t (Some x) (find (λ x. test (f x)) xs)) ≡ cond t (Some (f x)) (find test (map f xs)))
    [ true ↦ refl | false ↦ find-map test f xs ]
