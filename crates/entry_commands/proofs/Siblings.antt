-- The good and the bad name of a boot file name boot files in the same folder.
use Rattle.std.proofs.Common.{◌≡◌, ◌≢◌, inl, inr, ℕ, ◌+◌, ◌-◌, ◌<◌, ◌≤◌, ◌^◌, Bool, true, false, not, ◌&&◌, ◌||◌, List, [], ◌∷◌, ◌++◌, Option, Some, None, length, take, refl, sym, ap, subst, ◌∙◌, arith, lit<, lit≤, length-append, append_assoc, ◌==◌, nat_lt, nat_le, bytes_eq, if◌then◌else◌, decimal}
use Rattle.std.specs.List.{AllByRecursion, list_any}
use Rattle.std.specs.Str.Parse.{digits_value}
use Rattle.std.proofs.Math.Seq.{take-append_seam}
use Rattle.std.proofs.lemmas.Bool.{cases_Bool, and_from, and_parts, both_ways, cond-true, cond-false, le-leb, le-ltb, leb-true, ltb-false, ne_eqb, not-true, or_cases, or_from, or_left, or_parts, or_right, true_from_ne_false}
use Rattle.std.proofs.lemmas.Fmt.{decimal_digit, length-decimal-le}
use Rattle.std.proofs.lemmas.Int.Digits.{digits_value-lt}
use Rattle.boot_base.specs.Paths.{Path, beside, components, file_name_of, intent, is_component, is_kept, is_normal, is_refused, is_slash, is_temp, path_of, sibling_of}
use Rattle.boot_base.proofs.Normal.{normal-no_nul}
use Rattle.menu_order.specs.declared.counted.Counted.{Counted}
use Rattle.menu_order.specs.declared.counted.Suffix.{Suffix}
use Rattle.menu_order.specs.declared.counted.Suffix.TheVariants.{Conf, Efi}
use Rattle.menu_order.specs.Counter.{IsCounted, IsDoneText, IsNumber, IsUncounted, done_text_of, suffix_text, written_name}
use Rattle.menu_order.specs.Renames.{bad_name_of, good_name_of}
use Rattle.menu_order.specs.Splits.{has_suffix, split_of, stem_of}
use Rattle.menu_order.proofs.CounterReadings.{number_lacks}
use Rattle.menu_order.proofs.Splitting.{split_none, split_some, suffix_cut, suffix_there}
use Rattle.menu_order.proofs.CounterWritten.{decimal_number, number_bound, reading_bounds, written_reads}
use Rattle.boot_base.proofs.Beside.{beside_under, beside_whole, end_free, end_shown, file_name_under, file_name_whole, has_byte, kept_from_long, last_of, none-append, none-parts, none_refused, one_component, one_more, sibling_path, unlike_short}

-- ---- suffixes

-- the text ends in such a byte
record EndsLow (text : List ℕ) : Type 0 where
  body : List ℕ
  last : ℕ
  low : last < 112
  whole : text ≡ body ++ last ∷ []

suffix_low : (suffix : Suffix) (front stem : List ℕ) → EndsLow (front ++ (stem ++ suffix_text suffix))
suffix_low Conf front stem =
    let body = front ++ (stem ++ (46 ∷ 99 ∷ 111 ∷ 110 ∷ [])) in
    record { body = body; last = 102; low = lit< tt; whole = simp append_assoc }
suffix_low Efi front stem =
    let body = front ++ (stem ++ (46 ∷ 101 ∷ 102 ∷ [])) in
    record { body = body; last = 105; low = lit< tt; whole = simp append_assoc }

module _ (suffix : Suffix) (front name : List ℕ) (has : has_suffix suffix name ≡ true) where
  named_low : EndsLow (front ++ name)
  named_low =
      let low = suffix_low suffix front (stem_of suffix name) in
      subst (λ (n : List ℕ). EndsLow (front ++ n)) (sym (suffix_cut suffix name has)) low

  low_not : (byte : ℕ) → 112 ≤ byte → named_low.last ≢ byte
  low_not byte above same = omega (arith, above, same, named_low.low)

  suffix_shown : is_temp (front ++ name) ≡ false
  suffix_shown = ap is_temp named_low.whole ∙ end_shown named_low.body named_low.last (low_not 112 (omega arith)) (low_not 116 (omega arith))

  suffix_free : bytes_eq (front ++ name) intent ≡ false
  suffix_free =
      ap (λ (t : List ℕ). bytes_eq t intent) named_low.whole ∙ end_free named_low.body named_low.last (low_not 112 (omega arith)) (low_not 116 (omega arith))

suffix_long : (suffix : Suffix) → 3 < length (suffix_text suffix)
suffix_long Conf = lit< tt
suffix_long Efi = lit< tt

suffix_lacks : (suffix : Suffix)
    → (has_byte 47 (suffix_text suffix) ≡ false) × (has_byte 0 (suffix_text suffix) ≡ false)
suffix_lacks Conf = (refl, refl)
suffix_lacks Efi = (refl, refl)

-- the name ends in the suffix of an entry
abbrev is_entry : List ℕ → Bool
is_entry name = has_suffix Conf name || has_suffix Efi name

with_suffix : (suffix : Suffix) (text stem : List ℕ) → text ≡ stem ++ suffix_text suffix → is_entry text ≡ true
with_suffix Conf text stem is = or_left (has_suffix Conf text) (has_suffix Efi text) (suffix_there Conf text stem is)
with_suffix Efi text stem is = or_right (has_suffix Conf text) (has_suffix Efi text) (suffix_there Efi text stem is)

-- ---- names that may stand in place of a name

-- one component that no path refuses, without NUL
abbrev is_clean : List ℕ → Bool
is_clean other = is_component other && not (is_refused other || has_byte 0 other)

-- such a component of no more bytes than the name, with the suffix of an entry
abbrev may_replace : List ℕ → List ℕ → Bool
may_replace name other = is_clean other && nat_le (length other) (length name) && is_entry other

replaced : (path other : List ℕ) → is_normal path ≡ true → may_replace (file_name_of path) other ≡ true
    → sibling_of path other ≡ Some (beside path other)
replaced path other normal may =
    let name = file_name_of path in
    let front = take (length path - length name) path in
    let all = and_parts (is_clean other && nat_le (length other) (length name)) (is_entry other) may in
    let most = and_parts (is_clean other) (nat_le (length other) (length name)) all.0 in
    let some = and_parts (is_component other) (not (is_refused other || has_byte 0 other)) most.0 in
    let none = or_parts (is_refused other) (has_byte 0 other) (not-true _ some.1) in
    let there = sibling_path path other normal some.0 none.0 none.1 (leb-true (length other) (length name) most.1) in
    elim (or_cases (has_suffix Conf other) (has_suffix Efi other) all.1) [
      | inl conf ↦ there (suffix_shown Conf front other conf) (suffix_free Conf front other conf)
      | inr efi ↦ there (suffix_shown Efi front other efi) (suffix_free Efi front other efi)
    ]

-- what the last component of a path keeps to
pub record IsLast (name : List ℕ) : Type 0 where
  pub one : has_byte 47 name ≡ false
  pub no_nul : has_byte 0 name ≡ false
  pub allowed : is_refused name ≡ false

pub last_is : (path : List ℕ) → is_normal path ≡ true → IsLast (file_name_of path)
last_is path normal = elim (last_of path) [
  | inl whole ↦
      let none = sym (ap (list_any is_refused) (one_component path whole)) ∙ none_refused path normal in
      let allowed = (or_parts (is_refused path) false none).0 in
      let is : IsLast path = record { one = whole; no_nul = normal-no_nul path normal; allowed = allowed } in
      subst IsLast (sym (file_name_whole path whole)) is
  | inr cut ↦
      let before = components cut.front in
      let cuts = ap components cut.whole ∙ one_more cut.front cut.last cut.one in
      let refused = sym (ap (list_any is_refused) cuts) ∙ none_refused path normal in
      let none = none-parts is_refused before (cut.last ∷ []) refused in
      let bytes = sym (ap (has_byte 0) cut.whole) ∙ normal-no_nul path normal in
      let no_nul = (none-parts (λ b. b == 0) cut.front (47 ∷ cut.last) bytes).1 in
      let allowed = (or_parts (is_refused cut.last) false none.1).0 in
      let is : IsLast cut.last = record { one = cut.one; no_nul = no_nul; allowed = allowed } in
      subst IsLast (sym (ap file_name_of cut.whole ∙ file_name_under cut.front cut.last cut.one)) is
]

-- a base, something behind it, and the suffix
module _ (name base middle : List ℕ) (suffix : Suffix) where
  abbrev other : List ℕ
  other = base ++ (middle ++ suffix_text suffix)

  other_length : length other ≡ length base + (length middle + length (suffix_text suffix))
  other_length =
      omega (arith, length-append base (middle ++ suffix_text suffix), length-append middle (suffix_text suffix))

  module _ (c : ℕ) (in_base : has_byte c base ≡ false) (in_middle : has_byte c middle ≡ false) where
    other_lacks : has_byte c (suffix_text suffix) ≡ false → has_byte c other ≡ false
    other_lacks in_suffix =
        let behind = none-append (λ b. b == c) middle (suffix_text suffix) in_middle in_suffix in
        none-append (λ b. b == c) base (middle ++ suffix_text suffix) in_base behind

  module _ (last : IsLast name) (some : 0 < length base) (shorter : length other ≤ length name) where
    short : length name ≤ 251
    short =
        let parts = or_parts (bytes_eq name (46 ∷ 46 ∷ [])) (nat_lt 251 (length name)) last.allowed in
        ltb-false 251 (length name) parts.1

    long : 4 < length other
    long = omega (arith, other_length, suffix_long suffix)

    other_allowed : is_refused other ≡ false
    other_allowed =
        let unlike = unlike_short other (46 ∷ 46 ∷ []) (omega (arith, long)) in
        let few = le-ltb 251 (length other) (omega (arith, short)) in
        or_from (bytes_eq other (46 ∷ 46 ∷ [])) (nat_lt 251 (length other)) unlike few

    replaces : has_byte 47 other ≡ false → has_byte 0 other ≡ false → may_replace name other ≡ true
    replaces one no_nul =
        let kept = kept_from_long other (omega (arith, long)) in
        let component = and_from (is_kept other) (not (list_any is_slash other)) kept (ap not one) in
        let none = ap not (or_from (is_refused other) (has_byte 0 other) other_allowed no_nul) in
        let clean = and_from (is_component other) (not (is_refused other || has_byte 0 other)) component none in
        let most = and_from (is_clean other) (nat_le (length other) (length name)) clean (le-leb _ _ shorter) in
        let ends = with_suffix suffix other (base ++ middle) (sym (append_assoc base middle (suffix_text suffix))) in
        and_from (is_clean other && nat_le (length other) (length name)) (is_entry other) most ends

-- ---- numbers

lacks_byte : (c : ℕ) (text : List ℕ) → AllByRecursion (λ b. b ≢ c) text → has_byte c text ≡ false
lacks_byte c [] lacks = refl
lacks_byte c (b ∷ text) lacks = or_from (b == c) (has_byte c text) (ne_eqb b c lacks.0) (lacks_byte c text lacks.1)

-- a written number has no byte below the digits
pub decimal_lacks : (c n : ℕ) → c < 48 → n ≤ 999999999 → list_any (λ b. b == c) (decimal n) ≡ false
decimal_lacks c n low most = lacks_byte c (decimal n) (number_lacks c (decimal n) n low (decimal_number n most))

done_lacks : (c done : ℕ) → c < 48 → (45 == c) ≡ false → done ≤ 999999999 → has_byte c (done_text_of done) ≡ false
done_lacks c done low apart most = elim (cases_Bool (done == 0)) [
  | inl none ↦ rw none refl
  | inr some ↦ rw some (or_from (45 == c) (has_byte c (decimal done)) apart (decimal_lacks c done low most))
]

-- a number is written in no more bytes than it was read from
decimal_shorter : (text : List ℕ) (n : ℕ) → IsNumber text n → length (decimal n) ≤ length text
decimal_shorter text n is =
    let below : digits_value 10 text < 10 ^ length text = digits_value-lt 10 text is.numeral.1 in
    let fits = subst (λ m. m < 10 ^ length text) is.value below in
    let most = number_bound text n is in
    length-decimal-le (length text) n (omega (arith, is.numeral.0)) fits (omega arith)

done_shorter : (text : List ℕ) (done : ℕ) → IsDoneText text done → length (done_text_of done) ≤ length text
done_shorter text done (inl none) =
    let written : length (done_text_of done) ≡ 0 = ap (λ n. length (done_text_of n)) none.1 in
    omega arith
done_shorter text done (inr some) =
    let digits = 45 ∷ decimal done in
    elim (cases_Bool (done == 0)) [
      | inl left_out ↦
          let written : length (done_text_of done) ≡ 0 = ap length (cond-true (done == 0) [] digits left_out) in
          omega arith
      | inr other ↦
          let written = ap length (cond-false (done == 0) [] digits other) in
          omega (arith, written, ap length some.1, decimal_shorter some.0 done some.2)
    ]

-- ---- the good and the bad name

module _ (name base : List ℕ) (left done : ℕ) (suffix : Suffix) (read : IsCounted name base left done suffix) where
  base_is : take (length base) name ≡ base
  base_is = ap (take (length base)) read.parts ∙ take-append_seam base _

  good_is : Some (base ++ suffix_text suffix) ≡ good_name_of name
  good_is = rw (split_some name base left done suffix read, base_is) refl

  bad_is : Some (written_name base 0 done suffix) ≡ bad_name_of name
  bad_is = rw (split_some name base left done suffix read, base_is) refl

  abbrev behind : List ℕ
  behind = 43 ∷ (read.counter ++ suffix_text suffix)

  base_lacks : (c : ℕ) → has_byte c name ≡ false → has_byte c base ≡ false
  base_lacks c none = (none-parts (λ b. b == c) base behind (sym (ap (has_byte c) read.parts) ∙ none)).0

  name_length : length name ≡ length base + (1 + (length read.counter + length (suffix_text suffix)))
  name_length =
      omega (arith, ap length read.parts, length-append base behind, length-append read.counter (suffix_text suffix))

  -- the plus and the counter of a bad name
  abbrev numbers : List ℕ
  numbers = 43 ∷ (decimal 0 ++ done_text_of done)

  numbers_lack : (c : ℕ) → c < 48 → (43 == c) ≡ false → (45 == c) ≡ false → has_byte c numbers ≡ false
  numbers_lack c low plus hyphen =
      let left_lacks = decimal_lacks c 0 low (lit≤ tt) in
      let done_text_lacks = done_lacks c done low hyphen (reading_bounds name base left done suffix read).1 in
      let both = none-append (λ b. b == c) (decimal 0) (done_text_of done) left_lacks done_text_lacks in
      or_from (43 == c) (has_byte c (decimal 0 ++ done_text_of done)) plus both

  numbers_shorter : length numbers ≤ 1 + length read.counter
  numbers_shorter =
      let counter = read.counter_is in
      omega (
        arith,
        length-append (decimal 0) (done_text_of done),
        ap length (decimal_digit 0 (lit< tt)),
        counter.left_is.numeral.0,
        done_shorter counter.done_text done counter.done_is,
        ap length counter.parts,
        length-append counter.left_text counter.done_text,
      )

  module _ (last : IsLast name) where
    -- the base and the suffix may replace the name, with no slash, no NUL and no more bytes between them
    between : (middle : List ℕ) → has_byte 47 middle ≡ false → has_byte 0 middle ≡ false
        → length middle ≤ 1 + length read.counter → may_replace name (base ++ (middle ++ suffix_text suffix)) ≡ true
    between middle one no_nul shorter =
        let parts = other_length name base middle suffix in
        let few : length (base ++ (middle ++ suffix_text suffix)) ≤ length name = omega (arith, parts, name_length) in
        replaces name base middle suffix last read.some_base few
        (other_lacks name base middle suffix 47 (base_lacks 47 last.one) one (suffix_lacks suffix).0)
        (other_lacks name base middle suffix 0 (base_lacks 0 last.no_nul) no_nul (suffix_lacks suffix).1)

    good_replaces : may_replace name (base ++ suffix_text suffix) ≡ true
    good_replaces = between [] refl refl (omega arith)

    bad_replaces : may_replace name (written_name base 0 done suffix) ≡ true
    bad_replaces =
        let parts = append_assoc (decimal 0) (done_text_of done) (suffix_text suffix) in
        ap (λ (x : List ℕ). may_replace name (base ++ (43 ∷ x))) (sym parts)
        ∙ between numbers (numbers_lack 47 (lit< tt) refl refl) (numbers_lack 0 (lit< tt) refl refl) numbers_shorter

module _ (name : List ℕ) (none : IsUncounted name) where
  no_good : None ≡ good_name_of name
  no_good = rw (split_none name none) refl

  no_bad : None ≡ bad_name_of name
  no_bad = rw (split_none name none) refl

none_some : (text : List ℕ) → None ≡ Some text → ⊥
none_some text e = cc

some_same : (a b : List ℕ) → Some a ≡ Some b → a ≡ b
some_same a b e = cc

-- what passes by each reading of a name passes, since a name with no reading has neither a good nor a bad name
good_fits : (name good : List ℕ) → IsLast name → good_name_of name ≡ Some good → may_replace name good ≡ true
good_fits name good last is = true_from_ne_false (may_replace name good) (λ fails.
    let unread : IsUncounted name =
    λ base left done suffix read.
    let same = some_same (base ++ suffix_text suffix) good (good_is name base left done suffix read ∙ is) in
    let fits = ap (may_replace name) (sym same) ∙ good_replaces name base left done suffix read last in
    both_ways (may_replace name good) fails fits in
    none_some good (no_good name unread ∙ is))

bad_fits : (name bad : List ℕ) → IsLast name → bad_name_of name ≡ Some bad → may_replace name bad ≡ true
bad_fits name bad last is = true_from_ne_false (may_replace name bad) (λ fails.
    let unread : IsUncounted name =
    λ base left done suffix read.
    let same = some_same (written_name base 0 done suffix) bad (bad_is name base left done suffix read ∙ is) in
    let fits = ap (may_replace name) (sym same) ∙ bad_replaces name base left done suffix read last in
    both_ways (may_replace name bad) fails fits in
    none_some bad (no_bad name unread ∙ is))

pub good_path : (path good : List ℕ) → is_normal path ≡ true → good_name_of (file_name_of path) ≡ Some good
    → sibling_of path good ≡ Some (beside path good)
good_path path good normal is = replaced path good normal (good_fits (file_name_of path) good (last_is path normal) is)

pub bad_path : (path bad : List ℕ) → is_normal path ≡ true → bad_name_of (file_name_of path) ≡ Some bad
    → sibling_of path bad ≡ Some (beside path bad)
bad_path path bad normal is = replaced path bad normal (bad_fits (file_name_of path) bad (last_is path normal) is)

-- ---- the bad name has a counter

is_component_of : (is : Bool) (read : Option Path) (path : Path) → (if is then read else None) ≡ Some path → is ≡ true
is_component_of true read path found = refl
is_component_of false read path found = cc

-- the last component of a sibling's path is its name
pub beside_last : (path name : List ℕ) → list_any is_slash name ≡ false → file_name_of (beside path name) ≡ name
beside_last path name none = elim (last_of path) [
  | inl whole ↦ ap file_name_of (beside_whole path name whole) ∙ file_name_whole name none
  | inr cut ↦
      ap (λ (p : List ℕ). file_name_of (beside p name)) cut.whole
      ∙ ap file_name_of (beside_under cut.front cut.last name cut.one)
      ∙ file_name_under cut.front name none
]

split_twice : (name : List ℕ) (counted : Counted) → split_of name ≡ None → split_of name ≡ Some counted → ⊥
split_twice name counted none some = cc

-- a written bad name is read again
bad_again : (name bad : List ℕ) → bad_name_of name ≡ Some bad → split_of bad ≡ None → ⊥
bad_again name bad is unread = none_some bad (no_bad name (λ base left done suffix read.
    let written = written_name base 0 done suffix in
    let same = some_same written bad (bad_is name base left done suffix read ∙ is) in
    let bounds = (reading_bounds name base left done suffix read).1 in
    let again = written_reads base 0 done suffix read.some_base (lit≤ tt) bounds in
    split_twice written _ (ap split_of same ∙ unread) (split_some written base 0 done suffix again)) ∙ is)

-- where the bad name of a path's file stands, the name has a counter
pub bad_counted : (path bad : List ℕ) → is_normal path ≡ true → bad_name_of (file_name_of path) ≡ Some bad
    → split_of (file_name_of (beside path bad)) ≡ None → ⊥
bad_counted path bad normal is unread =
    let component = is_component_of (is_component bad) (path_of (beside path bad)) (beside path bad) (bad_path path bad normal is) in
    let none = not-true (list_any is_slash bad) (and_parts (is_kept bad) (not (list_any is_slash bad)) component).1 in
    bad_again (file_name_of path) bad is (ap split_of (sym (beside_last path bad none)) ∙ unread)
