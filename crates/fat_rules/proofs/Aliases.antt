-- Each name that the driver makes is an alias.
use Rattle.std.proofs.Common.{◌≡◌, ℕ, ◌+◌, ◌≤◌, Bool, true, false, cond, not, ◌&&◌, ◌||◌, List, [], ◌∷◌, ◌++◌, Some, refl, ap, ◌∙◌, subst, arith, nat_lt, nat_le, position, take, drop, length, option_map, length-append}
use Rattle.std.specs.Char.{is_ascii_digit}
use Rattle.std.specs.List.{list_all, list_any, position_or_len}
use Rattle.std.proofs.Math.Seq.{take-append_seam, drop-append-add}
use Rattle.std.proofs.lemmas.Bool.{or_parts}
use Rattle.std.proofs.lemmas.List.Sums.{sum_by-append}
use Rattle.std.proofs.lemmas.List.Folds.{list_all-append, list_any-append}
use Rattle.fat_rules.specs.Aliases.{GeneratedAreAliases, IsAliasExtension, at_dot, has_short_parts, has_small_letter, has_tilde, is_alias, is_dot, is_letter_start, is_part, is_short_byte, letter_count, stem_of_name}

-- the first dot stands behind a text that has none
dot_behind : (xs ys : List ℕ) → list_any is_dot xs ≡ false → position_or_len is_dot (xs ++ 46 ∷ ys) ≡ length xs
dot_behind [] ys none = refl
dot_behind (x ∷ xs) ys none =
    let parts = or_parts (is_dot x) (list_any is_dot xs) none in
    let rest = dot_behind xs ys parts.1 in
    grind (arith, parts.0, rest)

dot_place_is : (xs ys : List ℕ) → list_any is_dot xs ≡ false → position is_dot (xs ++ 46 ∷ ys) ≡ Some (length xs)
dot_place_is xs ys none =
    let at = dot_behind xs ys none in
    let long = length-append xs (46 ∷ ys) in
    grind (arith, at, long)

pub cut_there : (xs ys : List ℕ) → list_any is_dot xs ≡ false → at_dot (xs ++ 46 ∷ ys) ≡ Some (xs, ys)
cut_there xs ys none =
    ap (option_map (λ at. (take at (xs ++ 46 ∷ ys), drop (at + 1) (xs ++ 46 ∷ ys)))) (dot_place_is xs ys none)
    ∙ (ap (λ front. Some (front, drop (length xs + 1) (xs ++ 46 ∷ ys))) (take-append_seam xs (46 ∷ ys))
    ∙ ap (λ back. Some (xs, back)) (drop-append-add xs (46 ∷ ys) 1))

letters_more : (xs ys : List ℕ) → letter_count (xs ++ ys) ≡ letter_count xs + letter_count ys
letters_more xs ys = sum_by-append (λ byte. cond (is_letter_start byte) 1 0) xs ys

-- a digit
pub record IsPlainByte (byte : ℕ) : Type 0 where
  pub short : is_short_byte byte ≡ true
  pub dotless : is_dot byte ≡ false
  pub letter : is_letter_start byte ≡ true

digit_is : (digit : ℕ) → is_ascii_digit digit ≡ true → IsPlainByte digit
digit_is digit is = record { short = grind (arith, is); dotless = grind (arith, is); letter = grind (arith, is) }

-- the stem of an alias, and its parts
stem_dotless : (head : List ℕ) (digit : ℕ) → list_any is_dot head ≡ false → IsPlainByte digit → list_any is_dot (head ++ 126 ∷ digit ∷ []) ≡ false
stem_dotless head digit none plain =
    list_any-append is_dot head (126 ∷ digit ∷ []) ∙ (ap (λ b. b || (false || (is_dot digit || false))) none ∙ ap (λ b. b || false) plain.dotless)

stem_letters : (head : List ℕ) (digit : ℕ) → IsPlainByte digit → letter_count (head ++ 126 ∷ digit ∷ []) ≡ letter_count head + 2
stem_letters head digit plain =
    let more = letters_more head (126 ∷ digit ∷ []) in
    let letter = plain.letter in
    grind (arith, more, letter)

stem_part : (n m : ℕ) → n ≤ 6 → m ≡ n + 2 → (nat_lt 0 m && nat_le m 8) ≡ true
stem_part n m short is = grind (arith, short, is)

stem_bytes : (head : List ℕ) (digit : ℕ) → list_all is_short_byte head ≡ true → IsPlainByte digit → list_all is_short_byte (head ++ 126 ∷ digit ∷ []) ≡ true
stem_bytes head digit all plain =
    list_all-append is_short_byte head (126 ∷ digit ∷ []) ∙ (ap (λ b. b && (true && (is_short_byte digit && true))) all ∙ ap (λ b. b && true) plain.short)

stem_tilde : (head : List ℕ) (digit : ℕ) → has_tilde (head ++ 126 ∷ digit ∷ []) ≡ true
stem_tilde [] digit = refl
stem_tilde (x ∷ xs) digit = let rest = stem_tilde xs digit in grind (arith, rest)

-- a name of such a stem and such an extension
record IsAliasStem (stem : List ℕ) : Type 0 where
  bytes : list_all is_short_byte stem ≡ true
  dotless : list_any is_dot stem ≡ false
  short : is_part 8 stem ≡ true
  tilde : has_tilde stem ≡ true

all_true : (a b c d e f : Bool) → a ≡ true → b ≡ true → c ≡ true → d ≡ false → e ≡ true → (a && (b && c && not d) && (e || f)) ≡ true
all_true a b c d e f p q r s t = grind (arith, p, q, r, s, t)

alias_of_parts : (stem extension : List ℕ) → IsAliasStem stem → IsAliasExtension extension → is_alias (stem ++ 46 ∷ extension) ≡ true
alias_of_parts stem extension s x =
    let bytes : list_all is_short_byte (stem ++ 46 ∷ extension) ≡ true = list_all-append is_short_byte stem (46 ∷ extension)
    ∙ (ap (λ b. b && (true && list_all is_short_byte extension)) s.bytes ∙ x.bytes) in
    ap (λ parts. list_all is_short_byte (stem ++ 46 ∷ extension) && has_short_parts (stem ++ 46 ∷ extension) parts && (has_tilde (stem_of_name (stem ++ 46 ∷ extension) parts) || not (has_small_letter (stem ++ 46 ∷ extension)))) (cut_there stem extension s.dotless)
    ∙ all_true _ _ _ _ _ _ bytes s.short x.short x.dotless s.tilde

append_assoc : (xs ys zs : List ℕ) → (xs ++ ys) ++ zs ≡ xs ++ (ys ++ zs)
append_assoc [] ys zs = refl
append_assoc (x ∷ xs) ys zs = ap (λ l. x ∷ l) (append_assoc xs ys zs)

pub generated_are_aliases : GeneratedAreAliases
generated_are_aliases head extension digit h d x =
    let plain = digit_is digit d in
    let stem = head ++ 126 ∷ digit ∷ [] in
    let s : IsAliasStem stem = record {
      bytes = stem_bytes head digit h.bytes plain;
      dotless = stem_dotless head digit h.dotless plain;
      short = stem_part (letter_count head) (letter_count stem) h.short (stem_letters head digit plain);
      tilde = stem_tilde head digit;
    } in
    subst (λ name. is_alias name ≡ true) (append_assoc head (126 ∷ digit ∷ []) (46 ∷ extension)) (alias_of_parts stem extension s x)
