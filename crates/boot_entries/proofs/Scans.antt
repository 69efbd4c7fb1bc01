-- What a scan finds and reads, file by file.
use Rattle.std.proofs.Common.{◌≡◌, ◌≤◌, ◌<◌, ◌+◌, ◌*◌, ℕ, List, [], ◌∷◌, ◌++◌, length, take, Option, Some, None, refl, sym, ap, ◌∙◌, arith, get_or, append_assoc, option_to_list}
use Rattle.std.specs.List.{cons_option, filter_map}
use Rattle.std.proofs.lemmas.List.{take_more}
use Rattle.std.proofs.lemmas.List.Elements.{filter_map-append}

-- what is chosen of one element more
pub chosen_more : {X Y : Type 0} (f : X → Option Y) (old mid new : List Y) (xs : List X) (i : ℕ) (x : X)
    → i < length xs
    → x ≡ get_or xs i x
    → mid ≡ old ++ filter_map f (take i xs)
    → new ≡ mid ++ option_to_list (f x)
    → new ≡ old ++ filter_map f (take (i + 1) xs)
chosen_more {Y = Y} f old mid new xs i x inside is before step =
    step
    ∙ ap (λ ys. ys ++ option_to_list (f x)) before
    ∙ append_assoc old (filter_map f (take i xs)) (option_to_list (f x))
    ∙ ap (λ ys. old ++ ys)
    (ap (λ ys. filter_map f (take i xs) ++ ys) (sym (alone (f x)))
    ∙ sym (filter_map-append f (take i xs) (x ∷ []))
    ∙ ap (λ y. filter_map f (take i xs ++ y ∷ [])) is
    ∙ ap (filter_map f) (sym (take_more xs i x inside)))
  where
    alone : (o : Option Y) → cons_option o [] ≡ option_to_list o
    alone None = refl
    alone (Some y) = refl

-- so many bytes for each file
pub taken_more : (limit i start before after : ℕ) → before ≤ start + limit * i → after ≤ before + limit → after ≤ start + limit * (i + 1)
taken_more limit i start before after first second =
    let more : limit * (i + 1) ≡ limit * i + limit = omega arith in
    omega (arith, more)
