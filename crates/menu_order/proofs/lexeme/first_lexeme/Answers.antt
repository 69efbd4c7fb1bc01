-- The runs of digits and of letters at the front of a text.
use Rattle.std.proofs.Common.{◌≡◌, ◌≢◌, ◌∷◌, ◌∙◌, sym, true, false, arith, rules}
use Rattle.std.specs.Char.{is_ascii_digit}
use Rattle.menu_order.proofs.LexemeRuns.{AllDigits-front, digits_front, letters_front, letter_of_token, is_of_token-first}
use Rattle.menu_order.proofs.lexeme.first_lexeme.Goals as goal

pub returns-in_default-first-clause-begins : goal.returns-in_default-first-clause-begins
returns-in_default-first-clause-begins c =
    let is : c.after_separators-text.result.now ≡ c.in-Some.first.now ∷ c.in-Some.rest.now = search rules in
    let digit : is_ascii_digit c.in-Some.first.now ≡ true = sym c.is_ascii_digit.ensures.value ∙ c.if-is_ascii_digit.true in
    let front =
    digits_front c.after_separators-text.result.now _ _ c.in-Some.rest.now c.in-Some.first.now c.digits_len.result is digit
    c.digits_len.ensures.value c.split_at.ensures.front c.split_at.ensures.back in
    (sym c.after_separators-text.ensures.same ∙ front.0, omega (arith, front.1, c.after_separators-text.ensures.within))

pub returns-in_default-first-clause-lexeme : goal.returns-in_default-first-clause-lexeme
returns-in_default-first-clause-lexeme c = rw (c.split_at.ensures.front, c.digits_len.ensures.value) (AllDigits-front c.after_separators-text.result.now)

pub returns-in_default-2-clause-begins : goal.returns-in_default-2-clause-begins
returns-in_default-2-clause-begins c =
    let is : c.after_separators-text.result.now ≡ c.in-Some.first.now ∷ c.in-Some.rest.now = search rules in
    let digit : is_ascii_digit c.in-Some.first.now ≡ false = sym c.is_ascii_digit.ensures.value ∙ c.if-is_ascii_digit.false in
    let tilde : c.in-Some.first.now ≢ 126 = search rules in
    let hyphen : c.in-Some.first.now ≢ 45 = search rules in
    let caret : c.in-Some.first.now ≢ 94 = search rules in
    let dot : c.in-Some.first.now ≢ 46 = search rules in
    let of_token = is_of_token-first c.after_separators-text.result.now c.in-Some.rest.now c.in-Some.first.now is c.after_separators-text.ensures.first in
    let letter = letter_of_token c.in-Some.first.now of_token tilde hyphen caret dot digit in
    let front =
    letters_front c.after_separators-text.result.now _ _ c.in-Some.rest.now c.in-Some.first.now c.letters_len.result is letter
    c.letters_len.ensures.value c.split_at-in_default-2.ensures.front c.split_at-in_default-2.ensures.back in
    (sym c.after_separators-text.ensures.same ∙ front.0, omega (arith, front.1, c.after_separators-text.ensures.within))
