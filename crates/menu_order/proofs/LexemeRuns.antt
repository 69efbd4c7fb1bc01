-- The tokens of a text, from its front.
use Rattle.std.proofs.Common.{◌≡◌, ℕ, ◌+◌, ◌<◌, Bool, true, false, not, ◌||◌, List, [], ◌∷◌, Option, Some, None, length, take, drop, get_or, refl, ap, sym, ◌∙◌, ⊎_elim, arith, suc, ◌-◌, ◌≢◌, is_some, length-drop, get_or-drop}
use Rattle.std.proofs.lemmas.Bool.{cases_Bool, cond-true, cond-false, ne_eqb}
use Rattle.std.proofs.lemmas.Bool.Decides.{nat_tests}
use Rattle.menu_order.proofs.LexemeFronts.{skip, take_while-yes, take_while-no, skip-yes, skip-no}
use Rattle.std.specs.Char.{is_ascii_alphabetic, is_ascii_digit, digit_value}
use Rattle.std.specs.List.{filter_map, cons_option, prefix_len, position_or_len, take_while}
use Rattle.std.specs.Str.Parse.{AllDigits, digits_value}
use Rattle.std.proofs.lemmas.List.Sums.{passes_at_first}
use Rattle.menu_order.specs.VersionTokens.{Letters, Number, is_one_run, join_run, runs_of, run_token, tokens_of}
use Rattle.menu_order.specs.Lexemes.{is_of_token}

-- the first run begins with the byte that was put in front
pub join_run-head : (b : ℕ) (runs : List (List ℕ)) → (r : List ℕ) × (rest : List (List ℕ)) × (join_run b runs ≡ (b ∷ r) ∷ rest)
join_run-head b [] = ([], [], refl)
join_run-head b ([] ∷ runs) = ([], runs, refl)
join_run-head b ((c ∷ run) ∷ runs) = ⊎_elim
    (λ (e : is_one_run b c ≡ true). (c ∷ run, runs, cond-true (is_one_run b c) _ _ e))
    (λ (e : is_one_run b c ≡ false). ([], (c ∷ run) ∷ runs, cond-false (is_one_run b c) _ _ e))
    (cases_Bool (is_one_run b c))

-- a byte that doesn't belong to the run behind it is a run of its own
pub runs_of-apart : (b c : ℕ) (bs : List ℕ) → is_one_run b c ≡ false → runs_of (b ∷ c ∷ bs) ≡ (b ∷ []) ∷ runs_of (c ∷ bs)
runs_of-apart b c bs e =
    let head = join_run-head c (runs_of bs) in
    rw head.2 (cond-false (is_one_run b c) _ _ e)

-- a byte that belongs to the run behind it is the first of it
pub runs_of-joined : (b c : ℕ) (bs run : List ℕ) (runs : List (List ℕ)) → is_one_run b c ≡ true → runs_of (c ∷ bs) ≡ (c ∷ run) ∷ runs → runs_of (b ∷ c ∷ bs) ≡ (b ∷ c ∷ run) ∷ runs
runs_of-joined b c bs run runs e is = ap (join_run b) is ∙ cond-true (is_one_run b c) _ _ e

-- a test that tells which bytes belong to one run with a byte that passes it
pub record IsRunTest (p : ℕ → Bool) : Type 0 where
  pub agrees : (b c : ℕ) → p b ≡ true → is_one_run b c ≡ p c

-- the first run of a text is its longest front of bytes that pass
pub runs_of-front : (p : ℕ → Bool) → IsRunTest p → (b : ℕ) (bs : List ℕ) → p b ≡ true → runs_of (b ∷ bs) ≡ take_while p (b ∷ bs) ∷ runs_of (skip p (b ∷ bs))
runs_of-front p t b [] e = rw (take_while-yes p b [] e, skip-yes p b [] e) refl
runs_of-front p t b (c ∷ cs) e = ⊎_elim
    (λ (more : p c ≡ true).
    let rest : runs_of (c ∷ cs) ≡ (c ∷ take_while p cs) ∷ runs_of (skip p cs) =
    runs_of-front p t c cs more ∙ ap (λ r. r ∷ runs_of (skip p (c ∷ cs))) (take_while-yes p c cs more)
    ∙ ap (λ r. (c ∷ take_while p cs) ∷ runs_of r) (skip-yes p c cs more) in
    rw (take_while-yes p b (c ∷ cs) e, take_while-yes p c cs more, skip-yes p b (c ∷ cs) e, skip-yes p c cs more)
    (runs_of-joined b c cs (take_while p cs) (runs_of (skip p cs)) (t.agrees b c e ∙ more) rest))
    (λ (last : p c ≡ false).
    rw (take_while-yes p b (c ∷ cs) e, take_while-no p c cs last, skip-yes p b (c ∷ cs) e, skip-no p c cs last) (runs_of-apart b c cs (t.agrees b c e ∙ last)))
    (cases_Bool (p c))

or-false : (x : Bool) → (x || false) ≡ x
or-false true = refl
or-false false = refl

-- no byte is both a letter and a digit
pub letter-not_digit : (b : ℕ) → is_ascii_alphabetic b ≡ true → is_ascii_digit b ≡ false
letter-not_digit b e = grind (arith, nat_tests)

pub letters_run : IsRunTest is_ascii_alphabetic
letters_run = record { agrees = λ b c e. rw (e, letter-not_digit b e) (or-false (is_ascii_alphabetic c)) }

pub digit-not_letter : (b : ℕ) → is_ascii_digit b ≡ true → is_ascii_alphabetic b ≡ false
digit-not_letter b e = grind (arith, nat_tests)

pub digits_run : IsRunTest is_ascii_digit
digits_run = record { agrees = λ b c e. rw (e, digit-not_letter b e) refl }

-- a byte that is neither a letter nor a digit is a run of its own
pub runs_of-mark : (b : ℕ) (bs : List ℕ) → is_ascii_alphabetic b ≡ false → is_ascii_digit b ≡ false → runs_of (b ∷ bs) ≡ (b ∷ []) ∷ runs_of bs
runs_of-mark b [] l d = refl
runs_of-mark b (c ∷ cs) l d = runs_of-apart b c cs (rw (l, d) refl)

none_from_is_some : {A : Type 0} (o : Option A) → is_some o ≡ false → o ≡ None
none_from_is_some None e = refl
none_from_is_some (Some x) e = cc

separator-no_token : (b : ℕ) → is_of_token b ≡ false → run_token (b ∷ []) ≡ None
separator-no_token b e = none_from_is_some (run_token (b ∷ [])) e

separator-not_letter : (b : ℕ) → is_of_token b ≡ false → is_ascii_alphabetic b ≡ false
separator-not_letter b e =
    ⊎_elim (λ (l : is_ascii_alphabetic b ≡ true). let some : is_of_token b ≡ true = rw l refl in cc) (λ (l : is_ascii_alphabetic b ≡ false). l)
    (cases_Bool (is_ascii_alphabetic b))

separator-not_digit : (b : ℕ) → is_of_token b ≡ false → is_ascii_digit b ≡ false
separator-not_digit b e =
    ⊎_elim (λ (d : is_ascii_digit b ≡ true). let some : is_of_token b ≡ true = rw (digit-not_letter b d, d) refl in cc)
    (λ (d : is_ascii_digit b ≡ false). d) (cases_Bool (is_ascii_digit b))

-- a byte of no token has no effect in front of a text
pub tokens_of-separator : (b : ℕ) (bs : List ℕ) → is_of_token b ≡ false → tokens_of (b ∷ bs) ≡ tokens_of bs
tokens_of-separator b bs e = ap (filter_map run_token) (runs_of-mark b bs (separator-not_letter b e) (separator-not_digit b e)) ∙ ap (λ o. cons_option o (tokens_of bs)) (separator-no_token b e)

-- the bytes of no token in front of a text have no effect
pub tokens_of-separators : (text : List ℕ) → tokens_of (drop (position_or_len is_of_token text) text) ≡ tokens_of text
tokens_of-separators [] = refl
tokens_of-separators (b ∷ bs) = ⊎_elim
    (λ (e : is_of_token b ≡ true). ap tokens_of (skip-no (λ x. not (is_of_token x)) b bs (ap not e)))
    (λ (e : is_of_token b ≡ false). ap tokens_of (skip-yes (λ x. not (is_of_token x)) b bs (ap not e)) ∙ tokens_of-separators bs ∙ sym (tokens_of-separator b bs e))
    (cases_Bool (is_of_token b))

letters_token : (run : List ℕ) (b : ℕ) (bs : List ℕ) → run ≡ b ∷ bs → is_ascii_alphabetic b ≡ true → run_token run ≡ Some (Letters run)
letters_token run b bs is e = rw (is, e) refl

digits_token : (run : List ℕ) (b : ℕ) (bs : List ℕ) → run ≡ b ∷ bs → is_ascii_digit b ≡ true → run_token run ≡ Some (Number (digits_value 10 run))
digits_token run b bs is e = rw (is, digit-not_letter b e, e) refl

-- a text that begins with a letter begins with the token of all its letters up to another byte
pub tokens_of-letters : (b : ℕ) (bs : List ℕ) → is_ascii_alphabetic b ≡ true → tokens_of (b ∷ bs) ≡ Letters (take_while is_ascii_alphabetic (b ∷ bs)) ∷ tokens_of (skip is_ascii_alphabetic (b ∷ bs))
tokens_of-letters b bs e =
    ap (filter_map run_token) (runs_of-front is_ascii_alphabetic letters_run b bs e)
    ∙ ap (λ o. cons_option o (tokens_of (skip is_ascii_alphabetic (b ∷ bs))))
    (letters_token (take_while is_ascii_alphabetic (b ∷ bs)) b (take_while is_ascii_alphabetic bs) (take_while-yes is_ascii_alphabetic b bs e) e)

-- a text that begins with a digit begins with the token of all its digits up to another byte
pub tokens_of-digits : (b : ℕ) (bs : List ℕ) → is_ascii_digit b ≡ true → tokens_of (b ∷ bs) ≡ Number (digits_value 10 (take_while is_ascii_digit (b ∷ bs))) ∷ tokens_of (skip is_ascii_digit (b ∷ bs))
tokens_of-digits b bs e =
    ap (filter_map run_token) (runs_of-front is_ascii_digit digits_run b bs e)
    ∙ ap (λ o. cons_option o (tokens_of (skip is_ascii_digit (b ∷ bs)))) (digits_token (take_while is_ascii_digit (b ∷ bs)) b (take_while is_ascii_digit bs) (take_while-yes is_ascii_digit b bs e) e)

-- a text after its bytes of no token begins with one of a token, if anything is left
pub first_of_token : (text rest : List ℕ) → rest ≡ drop (position_or_len is_of_token text) text → 0 < length rest → is_of_token (get_or rest 0 0) ≡ true
first_of_token text rest is some =
    let left : length rest ≡ length text - position_or_len is_of_token text = ap length is ∙ length-drop (position_or_len is_of_token text) text in
    let place : position_or_len is_of_token text + 0 ≡ position_or_len is_of_token text = omega arith in
    rw (is, get_or-drop (position_or_len is_of_token text) text 0 0, place) (passes_at_first is_of_token text 0 (omega arith))

digit_value-is_ascii_digit : (b : ℕ) → is_ascii_digit b ≡ true → digit_value b < 10
digit_value-is_ascii_digit b e = grind (arith, nat_tests)

skip_shorter : (p : ℕ → Bool) (bs : List ℕ) → length (skip p bs) < suc (length bs)
skip_shorter p bs = omega (arith, length-drop (prefix_len p bs) bs)

-- a front of digits is one of digits alone
pub AllDigits-front : (text : List ℕ) → AllDigits 10 (take_while is_ascii_digit text)
AllDigits-front [] = tt
AllDigits-front (b ∷ bs) = ⊎_elim
    (λ (e : is_ascii_digit b ≡ true). rw (take_while-yes is_ascii_digit b bs e) (digit_value-is_ascii_digit b e, AllDigits-front bs))
    (λ (e : is_ascii_digit b ≡ false). rw (take_while-no is_ascii_digit b bs e) tt)
    (cases_Bool (is_ascii_digit b))

-- the front run of a text that begins with a digit, and what is behind it
pub digits_front : (text run rest bs : List ℕ) (b n : ℕ) → text ≡ b ∷ bs → is_ascii_digit b ≡ true → n ≡ prefix_len is_ascii_digit text
    → run ≡ take n text → rest ≡ drop n text → (tokens_of text ≡ Number (digits_value 10 run) ∷ tokens_of rest) × (length rest < length text)
digits_front text run rest bs b n is e count front back =
    rw (back, front, count, is) (tokens_of-digits b bs e, rw (skip-yes is_ascii_digit b bs e) (skip_shorter is_ascii_digit bs))

-- the front run of a text that begins with a letter, and what is behind it
pub letters_front : (text run rest bs : List ℕ) (b n : ℕ) → text ≡ b ∷ bs → is_ascii_alphabetic b ≡ true → n ≡ prefix_len is_ascii_alphabetic text
    → run ≡ take n text → rest ≡ drop n text → (tokens_of text ≡ Letters run ∷ tokens_of rest) × (length rest < length text)
letters_front text run rest bs b n is e count front back =
    rw (back, front, count, is) (tokens_of-letters b bs e, rw (skip-yes is_ascii_alphabetic b bs e) (skip_shorter is_ascii_alphabetic bs))

-- a byte of a token that is neither a mark nor a digit is a letter
pub letter_of_token : (b : ℕ) → is_of_token b ≡ true → b ≢ 126 → b ≢ 45 → b ≢ 94 → b ≢ 46 → is_ascii_digit b ≡ false → is_ascii_alphabetic b ≡ true
letter_of_token b e t h c d n = ⊎_elim (λ (l : is_ascii_alphabetic b ≡ true). l)
    (λ (l : is_ascii_alphabetic b ≡ false).
    let none : is_of_token b ≡ false = rw (l, n, ne_eqb b 126 t, ne_eqb b 45 h, ne_eqb b 94 c, ne_eqb b 46 d) refl in cc)
    (cases_Bool (is_ascii_alphabetic b))

pub is_of_token-first : (text rest : List ℕ) (b : ℕ) → text ≡ b ∷ rest → (0 < length text → is_of_token (get_or text 0 0) ≡ true) → is_of_token b ≡ true
is_of_token-first text rest b is first = (rw is at first) (omega arith)
