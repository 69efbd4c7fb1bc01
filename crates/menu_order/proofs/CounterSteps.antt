-- What each step of reading a name says.
use Rattle.std.proofs.Common.{◌≡◌, ◌≢◌, ℕ, ◌<◌, ◌^◌, ◌==◌, ◌&&◌, nat_le, not, true, false, List, [], ◌∷◌, ◌++◌, None, Result, Ok, length, take, drop, refl, ap, sym, ◌∙◌, subst, inr, arith, lit<, ⊎_elim, append-nil, append_assoc, take-append-drop}
use Rattle.std.proofs.lemmas.Bool.{and_parts, and_from, leb-true, le-leb, eqb-false, ne_eqb, not-true}
use Rattle.std.proofs.lemmas.Bool.Decides.{nat_tests}
use Rattle.std.proofs.lemmas.Str.Parse.{digit_from_value, parse_gives}
use Rattle.std.proofs.lemmas.Str.Pattern.{NoCharPasses-char, drop_at_char}
use Rattle.std.specs.Char.{is_ascii_digit, digit_value}
use Rattle.std.specs.List.{list_all}
use Rattle.std.specs.Str.Parse.{AllDigits, ParsesUnsigned, digits_value}
use Rattle.std.specs.Str.Pattern.{FindsChar, RFindsChar, SplitsAroundMatch}
use Rattle.menu_order.specs.declared.counted.Suffix.{Suffix}
use Rattle.menu_order.specs.Counter.{suffix_text, is_number, IsNumber, IsCounter, IsCounted, IsUncounted}
use Rattle.menu_order.proofs.CounterCuts.{Lacks, Lacks-at, Lacks-from_places, last_cut, first_cut, stem_same}
use Rattle.menu_order.proofs.CounterReadings.{number_lacks, counter_lacks, counted_stem}
use Rattle.menu_order.proofs.CounterWritten.{numerals, number_bound}

-- a text that is cut nowhere at a plus has none
pub plus_nowhere : (stem : List ℕ) → RFindsChar 43 stem None → Lacks 43 stem
plus_nowhere stem h = Lacks-from_places 43 stem (λ i k. NoCharPasses-char 43 stem i h (lit< tt) k)

-- a cut at the last plus
pub plus_cut : (stem front back : List ℕ) → SplitsAroundMatch (RFindsChar 43) stem front back → (stem ≡ front ++ 43 ∷ back) × Lacks 43 back
plus_cut stem front back (i, j, finds, front_is, back_is, order, front_len, back_len) = (
  sym (take-append-drop i stem)
      ∙ ap (λ z. take i stem ++ z) (drop_at_char 43 stem i j finds.1 (lit< tt))
      ∙ ap (λ z. z ++ 43 ∷ drop j stem) (sym front_is)
      ∙ ap (λ z. front ++ 43 ∷ z) (sym back_is),
  subst (Lacks 43) (sym back_is) (Lacks-from_places 43 (drop j stem) (λ k below. NoCharPasses-char 43 (drop j stem) k finds.0 (lit< tt) below)),
)

-- a text that is cut nowhere at a hyphen has none
pub hyphen_nowhere : (text : List ℕ) → FindsChar 45 text None → Lacks 45 text
hyphen_nowhere text h = Lacks-from_places 45 text (λ i k. NoCharPasses-char 45 text i h (lit< tt) k)

-- a cut at the first hyphen
pub hyphen_cut : (text front back : List ℕ) → SplitsAroundMatch (FindsChar 45) text front back → (text ≡ front ++ 45 ∷ back) × Lacks 45 front
hyphen_cut text front back (i, j, finds, front_is, back_is, order, front_len, back_len) = (
  sym (take-append-drop i text)
      ∙ ap (λ z. take i text ++ z) (drop_at_char 45 text i j finds.1 (lit< tt))
      ∙ ap (λ z. z ++ 45 ∷ drop j text) (sym front_is)
      ∙ ap (λ z. front ++ 45 ∷ z) (sym back_is),
  subst (Lacks 45) (sym front_is) (Lacks-from_places 45 (take i text) (λ k below. NoCharPasses-char 45 (take i text) k finds.0 (lit< tt) below)),
)

-- the digits of a text, as a test and as a fact
digit_is : (c : ℕ) → is_ascii_digit c ≡ true → digit_value c < 10
digit_is c e = grind (arith, nat_tests)

is_digit : (c : ℕ) → digit_value c < 10 → is_ascii_digit c ≡ true
is_digit c h = let range = digit_from_value c h in and_from _ _ (le-leb 48 c range.0) (le-leb c 57 range.1)

digits_are : (ds : List ℕ) → list_all is_ascii_digit ds ≡ true → AllDigits 10 ds
digits_are [] e = tt
digits_are (d ∷ ds) e = let both = and_parts (is_ascii_digit d) (list_all is_ascii_digit ds) e in (digit_is d both.0, digits_are ds both.1)

are_digits : (ds : List ℕ) → AllDigits 10 ds → list_all is_ascii_digit ds ≡ true
are_digits [] h = refl
are_digits (d ∷ ds) h = and_from _ _ (is_digit d h.0) (are_digits ds h.1)

-- the test says which texts are numbers
pub number_test : (text : List ℕ) → is_number text ≡ true → IsNumber text (digits_value 10 text)
number_test text e =
    let some_short = and_parts (not (length text == 0) && nat_le (length text) 9) (list_all is_ascii_digit text) e in
    let both = and_parts (not (length text == 0)) (nat_le (length text) 9) some_short.0 in
    let some : length text ≢ 0 = eqb-false (length text) 0 (not-true (length text == 0) both.0) in
    record { numeral = (omega arith, digits_are text some_short.1); short = leb-true (length text) 9 both.1; value = refl }

pub not_number : (text : List ℕ) → is_number text ≡ false → (n : ℕ) → IsNumber text n → ⊥
not_number text e n h =
    let some : length text ≢ 0 = omega (arith, h.numeral.0) in
    let is : is_number text ≡ true = and_from _ _ (and_from _ _ (ap not (ne_eqb (length text) 0 some)) (le-leb (length text) 9 h.short)) (are_digits text h.numeral.1) in
    cc

-- such a text is read as its number
pub number_read : {E : Type 0} (text : List ℕ) (r : Result ℕ E) → is_number text ≡ true → ParsesUnsigned 32 10 text r → r ≡ Ok (digits_value 10 text)
number_read text r e parsed =
    let is = number_test text e in
    let small : digits_value 10 text < 2 ^ 32 = omega (arith, number_bound text (digits_value 10 text) is) in
    parse_gives numerals 32 text r parsed is.numeral.1 is.numeral.0 small

-- ---- what a counter is not
pub no_counter_whole : (text : List ℕ) → Lacks 45 text → ((n : ℕ) → IsNumber text n → ⊥) → (left done : ℕ) → IsCounter text left done → ⊥
no_counter_whole text lacks refused left done r = ⊎_elim
    (λ (d : (r.done_text ≡ []) × (done ≡ 0)).
    let whole : r.left_text ≡ text = sym (append-nil r.left_text) ∙ ap (λ x. r.left_text ++ x) (sym d.0) ∙ sym r.parts in
    refused left (subst (λ t. IsNumber t left) whole r.left_is))
    (λ (d : (number : List ℕ) × (r.done_text ≡ 45 ∷ number) × IsNumber number done).
    Lacks-at 45 r.left_text d.0 (subst (Lacks 45) (r.parts ∙ ap (λ x. r.left_text ++ x) d.1) lacks))
    r.done_is

-- the two numbers of a counter with a hyphen
pub record HyphenParts (front back : List ℕ) (left done : ℕ) : Type 0 where
  pub left_number : IsNumber front left
  pub done_number : IsNumber back done

pub hyphen_parts : (text front back : List ℕ) → text ≡ front ++ 45 ∷ back → Lacks 45 front → (left done : ℕ) → IsCounter text left done → HyphenParts front back left done
hyphen_parts text front back is lacks left done r = ⊎_elim
    (λ (d : (r.done_text ≡ []) × (done ≡ 0)).
    let whole : r.left_text ≡ front ++ 45 ∷ back = sym (append-nil r.left_text) ∙ ap (λ x. r.left_text ++ x) (sym d.0) ∙ sym r.parts ∙ is in
    absurd (Lacks-at 45 front back (subst (Lacks 45) whole (number_lacks 45 r.left_text left (lit< tt) r.left_is))))
    (λ (d : (number : List ℕ) × (r.done_text ≡ 45 ∷ number) × IsNumber number done).
    let cut = first_cut 45 r.left_text front d.0 back (number_lacks 45 r.left_text left (lit< tt) r.left_is) lacks (ap (λ x. r.left_text ++ x) (sym d.1) ∙ sym r.parts ∙ is) in
    record { left_number = subst (λ t. IsNumber t left) cut.0 r.left_is; done_number = subst (λ t. IsNumber t done) cut.1 d.2 })
    r.done_is

pub no_counter_left : (text front back : List ℕ) → text ≡ front ++ 45 ∷ back → Lacks 45 front → ((n : ℕ) → IsNumber front n → ⊥) → (left done : ℕ) → IsCounter text left done → ⊥
no_counter_left text front back is lacks refused left done r = refused left (hyphen_parts text front back is lacks left done r).left_number

pub no_counter_done : (text front back : List ℕ) → text ≡ front ++ 45 ∷ back → Lacks 45 front → ((n : ℕ) → IsNumber back n → ⊥) → (left done : ℕ) → IsCounter text left done → ⊥
no_counter_done text front back is lacks refused left done r = refused done (hyphen_parts text front back is lacks left done r).done_number

pub counter_from_parts : (text front back : List ℕ) (left done : ℕ) → text ≡ front ++ 45 ∷ back → IsNumber front left → IsNumber back done → IsCounter text left done
counter_from_parts text front back left done is l d = record { left_text = front; done_text = 45 ∷ back; parts = is; left_is = l; done_is = inr (back, refl, d) }

-- ---- which names have no counter
pub no_suffix : (name : List ℕ) → ((stem : List ℕ) (suffix : Suffix) → name ≢ stem ++ suffix_text suffix) → IsUncounted name
no_suffix name refused base left done suffix r = refused (base ++ (43 ∷ r.counter)) suffix (counted_stem name base left done suffix r)

pub no_plus : (name stem : List ℕ) (suffix : Suffix) → name ≡ stem ++ suffix_text suffix → Lacks 43 stem → IsUncounted name
no_plus name stem suffix is lacks base left done suffix' r =
    let stems = stem_same stem (base ++ (43 ∷ r.counter)) suffix suffix' (sym is ∙ counted_stem name base left done suffix' r) in
    Lacks-at 43 base r.counter (subst (Lacks 43) stems.0 lacks)

cut_same : (name stem front back : List ℕ) (suffix : Suffix) → name ≡ stem ++ suffix_text suffix → stem ≡ front ++ 43 ∷ back → Lacks 43 back
    → (base : List ℕ) (left done : ℕ) (suffix' : Suffix) (r : IsCounted name base left done suffix') → (front ≡ base) × (back ≡ r.counter)
cut_same name stem front back suffix is cut lacks base left done suffix' r =
    let stems = stem_same stem (base ++ (43 ∷ r.counter)) suffix suffix' (sym is ∙ counted_stem name base left done suffix' r) in
    last_cut 43 front base back r.counter lacks (counter_lacks r.counter left done r.counter_is) (sym cut ∙ stems.0)

pub no_base : (name stem front back : List ℕ) (suffix : Suffix) → name ≡ stem ++ suffix_text suffix → stem ≡ front ++ 43 ∷ back → Lacks 43 back → length front ≡ 0 → IsUncounted name
no_base name stem front back suffix is cut lacks none base left done suffix' r =
    let same = cut_same name stem front back suffix is cut lacks base left done suffix' r in
    absurd (omega (arith, ap length same.0, r.some_base))

pub no_counter : (name stem front back : List ℕ) (suffix : Suffix) → name ≡ stem ++ suffix_text suffix → stem ≡ front ++ 43 ∷ back → Lacks 43 back
    → ((left done : ℕ) → IsCounter back left done → ⊥) → IsUncounted name
no_counter name stem front back suffix is cut lacks refused base left done suffix' r =
    let same = cut_same name stem front back suffix is cut lacks base left done suffix' r in
    refused left done (subst (λ t. IsCounter t left done) (sym same.1) r.counter_is)

pub counted_from_parts : (name stem front back : List ℕ) (suffix : Suffix) (left done : ℕ) → name ≡ stem ++ suffix_text suffix
    → stem ≡ front ++ 43 ∷ back → length front ≢ 0 → IsCounter back left done → IsCounted name front left done suffix
counted_from_parts name stem front back suffix left done is cut some counter_is = record {
  counter = back;
  parts = is ∙ ap (λ x. x ++ suffix_text suffix) cut ∙ append_assoc front (43 ∷ back) (suffix_text suffix);
  some_base = omega arith;
  counter_is = counter_is;
}
