-- Lists that a loop makes, one item after the other.
use Rattle.std.proofs.Common.{◌≡◌, ◌<◌, ◌≤◌, ◌+◌, ℕ, List, [], ◌∷◌, ◌++◌, length, take, get_or, sym, ap, ◌∙◌, append_assoc}
use Rattle.std.proofs.lemmas.List.{take_all, take_more}

-- of a function that takes a list behind another to what is made of both
module _ {X Y : Type 0} (F : List X → List Y) (adds : (xs ys : List X) → F (xs ++ ys) ≡ F xs ++ F ys) where
  -- one item more
  pub one_more : (xs : List X) (i : ℕ) (d x : X) (start before more : List Y) → i < length xs → x ≡ get_or xs i d
      → before ≡ start ++ F (take i xs) → more ≡ before ++ F (x ∷ []) → more ≡ start ++ F (take (i + 1) xs)
  one_more xs i d x start before more inside is_x is_before is_more =
      is_more
      ∙ ap (λ (l : List Y). l ++ F (x ∷ [])) is_before
      ∙ append_assoc start (F (take i xs)) (F (x ∷ []))
      ∙ ap (λ (y : X). start ++ (F (take i xs) ++ F (y ∷ []))) is_x
      ∙ ap (λ (l : List Y). start ++ l) (sym (ap F (take_more xs i d inside) ∙ adds (take i xs) (get_or xs i d ∷ [])))

  -- all items
  pub all_made : (items xs : List X) (i : ℕ) (start made : List Y) → items ≡ xs → length items ≤ i
      → made ≡ start ++ F (take i items) → made ≡ start ++ F xs
  all_made items xs i start made same past is = is ∙ ap (λ (l : List X). start ++ F l) (take_all i items past ∙ same)
