-- What is written is read again, and what is read is written again where it is the shortest.
use Rattle.std.proofs.Common.{◌≡◌, ◌≢◌, ℕ, ◌<◌, ◌≤◌, ◌^◌, ◌==◌, true, false, List, [], ◌∷◌, ◌++◌, length, refl, ap, sym, ◌∙◌, subst, inl, inr, arith, lit<, ⊎_elim, decimal}
use Rattle.std.proofs.lemmas.Bool.{cases_Bool, cond-true, cond-false, eqb-true, eqb-false, eq-eqb, ne_eqb, cases_eq}
use Rattle.std.proofs.lemmas.Fmt.{decimal_is_IsNumeral, length-decimal-le, decimal-digits_value, first_decimal, decimal_digit}
use Rattle.std.proofs.lemmas.Int.Digits.{digits_value-lt}
use Rattle.std.proofs.lemmas.List.{append_assoc, append_cancel_left, append_cancel_right}
use Rattle.std.proofs.lemmas.Str.Parse.{IsNumeralModel, numerals_by_value, tells_digits}
use Rattle.std.proofs.Math.Nat.{pow-le-pow_right}
use Rattle.std.specs.Str.Parse.{AllDigits, digits_value}
use Rattle.menu_order.specs.declared.counted.Suffix.{Suffix}
use Rattle.menu_order.specs.Counter.{suffix_text, IsNumber, IsDoneText, IsCounted, done_text_of, written_name}
use Rattle.menu_order.specs.CounterLaws.{WrittenReads, IsPlain, IsShortest, ShortestRewrites}
use Rattle.menu_order.proofs.CounterReadings.{number_lacks, texts_same}

pub numerals : IsNumeralModel (AllDigits 10) (digits_value 10)
numerals = numerals_by_value (AllDigits 10) tells_digits

-- a number of nine digits at most
pub number_bound : (text : List ℕ) (n : ℕ) → IsNumber text n → n ≤ 999999999
number_bound text n h =
    let below : digits_value 10 text < 10 ^ length text = digits_value-lt 10 text h.numeral.1 in
    let most : 10 ^ length text ≤ 10 ^ 9 = pow-le-pow_right (lit< tt) h.short in
    omega (arith, h.value)

pub decimal_number : (n : ℕ) → n ≤ 999999999 → IsNumber (decimal n) n
decimal_number n h =
    let fits : n < 2 ^ 64 = omega arith in
    let digits : n < 10 ^ 9 = omega arith in
    let is = decimal_is_IsNumeral n fits in
    record { numeral = is.0; short = length-decimal-le 9 n (lit< tt) digits fits; value = is.1 }

pub done_text_is : (done : ℕ) → done ≤ 999999999 → IsDoneText (done_text_of done) done
done_text_is done h = ⊎_elim
    (λ (e : (done == 0) ≡ true). inl (cond-true (done == 0) _ _ e, eqb-true done 0 e))
    (λ (e : (done == 0) ≡ false). inr (decimal done, cond-false (done == 0) _ _ e, decimal_number done h))
    (cases_Bool (done == 0))

pub written_reads : WrittenReads
written_reads base left done suffix some l d = record {
  counter = decimal left ++ done_text_of done;
  parts = ap (λ x. base ++ (43 ∷ x)) (sym (append_assoc (decimal left) (done_text_of done) (suffix_text suffix)));
  some_base = some;
  counter_is = record { left_text = decimal left; done_text = done_text_of done; parts = refl; left_is = decimal_number left l; done_is = done_text_is done d };
}

-- digits without a leading zero are what their number is written as
plain_written : (text : List ℕ) (n : ℕ) → IsNumber text n → IsPlain text → decimal n ≡ text
plain_written text n h plain =
    let small : digits_value 10 text < 2 ^ 64 = omega (arith, h.value, number_bound text n h) in
    ap decimal (sym h.value) ∙ decimal-digits_value numerals text h.numeral.1 h.numeral.0 plain small

-- a written number has no leading zero
written_plain : (n : ℕ) → n ≤ 999999999 → IsPlain (decimal n)
written_plain n h zero_first = ⊎_elim
    (λ (e : n ≡ 0). ap (λ m. length (decimal m)) e ∙ ap length (decimal_digit 0 (lit< tt)))
    (λ (e : n ≢ 0).
    let some : 0 < n = omega arith in
    let fits : n < 2 ^ 64 = omega arith in
    absurd (omega (arith, first_decimal n some fits)))
    (cases_eq n 0)

done_written : (text : List ℕ) (done : ℕ) → IsDoneText text done → ((number : List ℕ) → text ≡ 45 ∷ number → IsPlain number × (done ≢ 0)) → done_text_of done ≡ text
done_written text done (inl d) shortest = cond-true (done == 0) _ _ (eq-eqb done 0 d.1) ∙ sym d.0
done_written text done (inr d) shortest =
    let plain = shortest d.0 d.1 in
    cond-false (done == 0) _ _ (ne_eqb done 0 plain.1) ∙ ap (λ x. 45 ∷ x) (plain_written d.0 done d.2 plain.0) ∙ sym d.1

done_plain : (done : ℕ) (number : List ℕ) → done ≤ 999999999 → done_text_of done ≡ 45 ∷ number → IsPlain number × (done ≢ 0)
done_plain done number h e = ⊎_elim
    (λ (zero_done : (done == 0) ≡ true). let none = sym (cond-true (done == 0) [] (45 ∷ decimal done) zero_done) ∙ e in cc)
    (λ (some_done : (done == 0) ≡ false).
    let some : 45 ∷ decimal done ≡ 45 ∷ number = sym (cond-false (done == 0) [] (45 ∷ decimal done) some_done) ∙ e in
    let same : decimal done ≡ number = cc in
    (subst IsPlain same (written_plain done h), eqb-false done 0 some_done))
    (cases_Bool (done == 0))

-- DONE is at most nine digits long
done_bound : (text : List ℕ) (done : ℕ) → IsDoneText text done → done ≤ 999999999
done_bound text done (inl d) = omega (arith, d.1)
done_bound text done (inr d) = number_bound d.0 done d.2

shortest_from : (name base : List ℕ) (left done : ℕ) (suffix : Suffix) (r : IsCounted name base left done suffix) → written_name base left done suffix ≡ name → IsShortest r.counter_is
shortest_from name base left done suffix r e =
    let counter = r.counter_is in
    let l = number_bound counter.left_text left counter.left_is in
    let d = done_bound counter.done_text done counter.done_is in
    let cut : 43 ∷ (decimal left ++ (done_text_of done ++ suffix_text suffix)) ≡ 43 ∷ (r.counter ++ suffix_text suffix) = append_cancel_left base _ _ (e ∙ r.parts) in
    let rest : decimal left ++ (done_text_of done ++ suffix_text suffix) ≡ r.counter ++ suffix_text suffix = cc in
    let same : decimal left ++ done_text_of done ≡ r.counter =
    append_cancel_right (decimal left ++ done_text_of done) r.counter (suffix_text suffix)
    (append_assoc (decimal left) (done_text_of done) (suffix_text suffix) ∙ rest) in
    let texts =
    texts_same (decimal left) counter.left_text (done_text_of done) counter.done_text done done
    (number_lacks 45 (decimal left) left (lit< tt) (decimal_number left l)) (number_lacks 45 counter.left_text left (lit< tt) counter.left_is)
    (done_text_is done d) counter.done_is (same ∙ counter.parts) in
    record {
      plain_left = subst IsPlain texts.0 (written_plain left l);
      plain_done = λ number is. done_plain done number d (texts.1 ∙ is);
    }

written_from : (name base : List ℕ) (left done : ℕ) (suffix : Suffix) (r : IsCounted name base left done suffix) → IsShortest r.counter_is → written_name base left done suffix ≡ name
written_from name base left done suffix r shortest =
    let counter = r.counter_is in
    let left_same = plain_written counter.left_text left counter.left_is shortest.plain_left in
    let done_same = done_written counter.done_text done counter.done_is shortest.plain_done in
    ap (λ x. base ++ (43 ∷ x))
    (sym (append_assoc (decimal left) (done_text_of done) (suffix_text suffix))
    ∙ ap (λ x. x ++ suffix_text suffix) (ap (λ x. x ++ done_text_of done) left_same ∙ ap (λ x. counter.left_text ++ x) done_same ∙ sym counter.parts))
    ∙ sym r.parts

pub shortest_rewrites : ShortestRewrites
shortest_rewrites name base left done suffix r = (shortest_from name base left done suffix r, written_from name base left done suffix r)

-- what a name is read as is within the limits
pub reading_bounds : (name base : List ℕ) (left done : ℕ) (suffix : Suffix) → IsCounted name base left done suffix → (left ≤ 999999999) × (done ≤ 999999999)
reading_bounds name base left done suffix r =
    (number_bound r.counter_is.left_text left r.counter_is.left_is, done_bound r.counter_is.done_text done r.counter_is.done_is)
