-- The lines of an entry, one after the other, and the ends of a value.
use Rattle.std.proofs.Common.{◌≡◌, ◌<◌, ◌≤◌, ◌+◌, ◌-◌, ℕ, suc, Bool, List, [], ◌∷◌, ◌++◌, length, map, take, get_or, refl, sym, ap, ◌∙◌, arith, append_assoc, append-nil}
use Rattle.std.proofs.lemmas.List.{map-append, take_all, take_more}
use Rattle.std.proofs.lemmas.Grind.{flat_map-append}
use Rattle.boot_texts.specs.EntryText.{last_passes}
use Rattle.boot_texts.specs.FileLines.{key_line, text_of_lines, with_newline}

-- one line more
pub each_more : (key : List ℕ) (values : List (List ℕ)) (i : ℕ) (d value : List ℕ) (start before more : List ℕ) → i < length values
    → value ≡ get_or values i d → before ≡ start ++ text_of_lines (map (key_line key) (take i values))
    → more ≡ before ++ with_newline (key_line key value)
    → more ≡ start ++ text_of_lines (map (key_line key) (take (i + 1) values))
each_more key values i d value start before more inside is_value is_before is_more =
    let lines = text_of_lines (map (key_line key) (take i values)) in
    let line = with_newline (key_line key value) in
    let next : map (key_line key) (take (i + 1) values) ≡ map (key_line key) (take i values) ++ key_line key value ∷ [] =
    ap (map (key_line key)) (take_more values i d inside)
    ∙ map-append (key_line key) (take i values) (get_or values i d ∷ [])
    ∙ ap (λ (v : List ℕ). map (key_line key) (take i values) ++ key_line key v ∷ []) (sym is_value) in
    is_more
    ∙ ap (λ (l : List ℕ). l ++ line) is_before
    ∙ append_assoc start lines line
    ∙ ap (λ (l : List ℕ). start ++ (lines ++ l)) (sym (append-nil line))
    ∙ ap (λ (l : List ℕ). start ++ l) (sym (ap text_of_lines next ∙ flat_map-append with_newline (map (key_line key) (take i values)) (key_line key value ∷ [])))

-- all lines
pub each_all : (key : List ℕ) (items values : List (List ℕ)) (i : ℕ) (start made : List ℕ) → items ≡ values → length items ≤ i
    → made ≡ start ++ text_of_lines (map (key_line key) (take i items))
    → made ≡ start ++ text_of_lines (map (key_line key) values)
each_all key items values i start made same past is =
    is ∙ ap (λ (l : List (List ℕ)). start ++ text_of_lines (map (key_line key) l)) (take_all i items past ∙ same)

-- the last byte of a text that has one
pub last_at : (test : ℕ → Bool) (text : List ℕ) → 1 ≤ length text → test (get_or text (length text - 1) 0) ≡ last_passes test text
last_at test [] some = absurd (omega (arith, some))
last_at test (byte ∷ []) some = refl
last_at test (byte ∷ next ∷ text) some =
    let here : length (byte ∷ next ∷ text) - 1 ≡ suc (length (next ∷ text) - 1) = omega arith in
    ap (λ (n : ℕ). test (get_or (byte ∷ next ∷ text) n 0)) here ∙ last_at test (next ∷ text) (omega arith)
