-- The words of a path, one at a time.
use Rattle.std.proofs.Common.{◌≡◌, ◌≤◌, ℕ, List, [], ◌∷◌, ◌++◌, length, map, take, ap, sym, ◌∙◌, append-nil, take_all}
use Rattle.std.specs.List.{flat_map, join_with_byte}
use Rattle.pcr_values.specs.Prelude.{colon, path_text}

-- a word behind the colon before it
abbrev pub behind_colon : List ℕ → List ℕ
behind_colon word = colon ∷ word

pub join_with_byte-cons : (first : List ℕ) (rest : List (List ℕ)) → join_with_byte colon (first ∷ rest) ≡ first ++ flat_map behind_colon rest
join_with_byte-cons first [] = sym (append-nil first)
join_with_byte-cons first (next ∷ rest) = ap (λ tail. first ++ (colon ∷ tail)) (join_with_byte-cons next rest)

-- the first word, then each other one behind a colon, is the printed path
pub path_text-written : {A : Type 0} (f : A → List ℕ) (path : List (List ℕ)) (words : List A) (first : A) (rest : List A) (n : ℕ) (text : List ℕ)
    → map f words ≡ path → words ≡ first ∷ rest → length rest ≤ n → text ≡ f first
    → text ++ flat_map behind_colon (map f (take n rest)) ≡ path_text path
path_text-written f path words first rest n text view split whole is =
    ap (λ written. written ++ flat_map behind_colon (map f (take n rest))) is
    ∙ ap (λ written. f first ++ flat_map behind_colon (map f written)) (take_all n rest whole)
    ∙ sym (join_with_byte-cons (f first) (map f rest))
    ∙ ap path_text (sym (ap (map f) split) ∙ view)
