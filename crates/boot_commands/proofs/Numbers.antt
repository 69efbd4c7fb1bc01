-- Words of 1 to 20 digits, and the numbers that they write.
use Rattle.std.proofs.Common.{◌≡◌, ◌≢◌, ℕ, ◌<◌, ◌^◌, ◌==◌, ◌&&◌, nat_le, nat_lt, not, Bool, true, false, cond, List, [], ◌∷◌, Some, None, Result, Ok, Err, length, refl, sym, ◌∙◌, ap, arith, inl, inr, OkIff}
use Rattle.std.specs.Char.{is_ascii_digit, digit_value}
use Rattle.std.specs.List.{list_all}
use Rattle.std.specs.Str.Parse.{AllDigits, ParsesUnsigned, digits_value}
use Rattle.std.proofs.lemmas.Bool.{and_parts, cases_Bool, eqb-false, not-true}
use Rattle.std.proofs.lemmas.Bool.Decides.{nat_tests}
use Rattle.std.proofs.lemmas.Result.{OkIff-at_err, OkIff-at_ok}
use Rattle.std.proofs.lemmas.Str.Parse.{parse_digits}
use Rattle.menu_order.proofs.CounterWritten.{numerals}
use Rattle.boot_commands.specs.Demonstration.{is_long_number, long_number}

digit_is : (c : ℕ) → is_ascii_digit c ≡ true → digit_value c < 10
digit_is c e = grind (arith, nat_tests)

digits_are : (ds : List ℕ) → list_all is_ascii_digit ds ≡ true → AllDigits 10 ds
digits_are [] e = tt
digits_are (d ∷ ds) e = let both = and_parts (is_ascii_digit d) (list_all is_ascii_digit ds) e in (digit_is d both.0, digits_are ds both.1)

-- its digits, of which there is one
some_digits : (word : List ℕ) → is_long_number word ≡ true → (0 < length word) × AllDigits 10 word
some_digits word is =
    let some_short = and_parts (not (length word == 0) && nat_le (length word) 20) (list_all is_ascii_digit word) is in
    let both = and_parts (not (length word == 0)) (nat_le (length word) 20) some_short.0 in
    let some : length word ≢ 0 = eqb-false (length word) 0 (not-true (length word == 0) both.0) in
    (omega arith, digits_are word some_short.1)

parsed_as : {E : Type 0} (word : List ℕ) (r : Result ℕ E) → is_long_number word ≡ true → ParsesUnsigned 64 10 word r
    → OkIff r ((0 < length word) × (digits_value 10 word < 2 ^ 64)) (digits_value 10 word)
parsed_as word r is parsed = parse_digits numerals 64 word r parsed (some_digits word is).1

number_of : (word : List ℕ) (is small : Bool) → is_long_number word ≡ is → nat_lt (digits_value 10 word) (2 ^ 64) ≡ small
    → long_number word ≡ cond (is && small) (Some (digits_value 10 word)) None
number_of word is small is_is small_is = rw (is_is, small_is) refl

pub no_number : (word : List ℕ) → is_long_number word ≡ false → long_number word ≡ None
no_number word isnt = number_of word false (nat_lt (digits_value 10 word) (2 ^ 64)) isnt refl

pub number_there : {E : Type 0} (word : List ℕ) (r : Result ℕ E) (n : ℕ) → is_long_number word ≡ true → ParsesUnsigned 64 10 word r → r ≡ Ok n → long_number word ≡ Some n
number_there word r n is parsed ok =
    let read = OkIff-at_ok r _ _ n (parsed_as word r is parsed) ok in
    let small : digits_value 10 word < 2 ^ 64 = read.0.1 in
    number_of word true true is (grind (arith, nat_tests, small)) ∙ ap Some (sym read.1)

pub number_too_large : {E : Type 0} (word : List ℕ) (r : Result ℕ E) (e : E) → is_long_number word ≡ true → ParsesUnsigned 64 10 word r → r ≡ Err e → long_number word ≡ None
number_too_large word r e is parsed failed = elim (cases_Bool (nat_lt (digits_value 10 word) (2 ^ 64))) [
  | inl small ↦ absurd (OkIff-at_err r _ _ e (parsed_as word r is parsed) failed ((some_digits word is).0, grind (arith, nat_tests, small)))
  | inr large ↦ number_of word true false is large
]
