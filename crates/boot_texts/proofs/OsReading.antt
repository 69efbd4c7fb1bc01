-- A line is read as what the grammar has it mean, in both directions.
use Rattle.std.proofs.Common.{◌≡◌, ◌<◌, ◌+◌, ℕ, Bool, true, false, not, ◌&&◌, eqb, ltb, List, [], ◌∷◌, ◌++◌, Some, None, Option, length, take, drop, get_or, subst, sym, ap, ◌∙◌, refl, cond, arith, length-append, append_assoc, option_map, take_at, drop_at}
use Rattle.std.specs.List.{after_first, before_first, list_all, position_or_len}
use Rattle.std.proofs.lemmas.List.Sums.{passes_at_first, split_at_first}
use Rattle.std.proofs.lemmas.Bool.{and_from, and_parts, both_ways, cond-true, eqb-true, ne_eqb, not_from_false, lt-ltb, ltb-true}
use Rattle.std.proofs.lemmas.Option.{none-some, same_Some}
use Rattle.boot_texts.specs.KeyValues.{Pair}
use Rattle.boot_texts.proofs.LineFronts.{prefix_len-front}
use Rattle.boot_texts.proofs.OsValues.{value_complete, value_sound}
use Rattle.boot_texts.specs.OsLines.{IsWritten, OsLine, is_equals, is_key, is_key_byte, is_key_start, os_reading, value_reading}

-- the value behind a key
with_key : List ℕ → Option (List ℕ) → Option Pair
with_key key value = option_map {U = Pair} (λ value. (key, value)) value

with_key_some : (key : List ℕ) (found : Option (List ℕ)) (pair : Pair) → with_key key found ≡ Some pair → (value : List ℕ) × (found ≡ Some value) × (pair.0 ≡ key) × (pair.1 ≡ value)
unfolding with_key
with_key_some key None pair read = absurd (none-some pair read)
with_key_some key (Some value) pair read =
    let made : Pair = (key, value) in
    let is : made ≡ pair = same_Some made pair read in
    (value, refl, sym (ap (λ (p : Pair). p.0) is), sym (ap (λ (p : Pair). p.1) is))

tested : (test : Bool) (found : Option Pair) (pair : Pair) → cond test found None ≡ Some pair → (test ≡ true) × (found ≡ Some pair)
tested true found pair read = (refl, read)
tested false found pair read = absurd (none-some pair read)

pub sound : (line : List ℕ) (pair : Pair) → os_reading line ≡ Some pair → OsLine line pair.0 pair.1
unfolding with_key
sound line pair read =
    let end = position_or_len is_equals line in
    let key = before_first is_equals line in
    let rest = after_first is_equals line in
    let chosen = tested (ltb end (length line) && is_key key) (with_key key (value_reading rest)) pair read in
    let tests = and_parts (ltb end (length line)) (is_key key) chosen.0 in
    let found = with_key_some key (value_reading rest) pair chosen.1 in
    let below : end < length line = ltb-true end (length line) tests.0 in
    let equals : get_or line end 0 ≡ 61 = eqb-true (get_or line end 0) 61 (passes_at_first is_equals line 0 below) in
    record {
      text = rest;
      parts = split_at_first is_equals line 0 below
          ∙ ap (λ (byte : ℕ). key ++ (byte ∷ rest)) equals
          ∙ ap (λ (key : List ℕ). key ++ (61 ∷ rest)) (sym found.2);
      key_is = subst (λ (key : List ℕ). is_key key ≡ true) (sym found.2) tests.1;
      value_is = subst (λ (value : List ℕ). IsWritten rest value) (sym found.3) (value_sound rest found.0 found.1);
    }

-- a key has no `=`
not_equals : (test : ℕ → Bool) → test 61 ≡ false → (byte : ℕ) → test byte ≡ true → not (is_equals byte) ≡ true
not_equals test none byte is =
    not_from_false (eqb byte 61) (ne_eqb byte 61 (λ e. both_ways (test 61) none (subst (λ (b : ℕ). test b ≡ true) e is)))

list_all-weaker : (p q : ℕ → Bool) → ((byte : ℕ) → p byte ≡ true → q byte ≡ true) → (xs : List ℕ) → list_all p xs ≡ true → list_all q xs ≡ true
list_all-weaker p q weaker [] are = refl
list_all-weaker p q weaker (x ∷ xs) are =
    let parts = and_parts (p x) (list_all p xs) are in
    and_from (q x) (list_all q xs) (weaker x parts.0) (list_all-weaker p q weaker xs parts.1)

key_has_no_equals : (key : List ℕ) → is_key key ≡ true → list_all (λ byte. not (is_equals byte)) key ≡ true
key_has_no_equals [] is = refl
key_has_no_equals (first ∷ rest) is =
    let parts = and_parts (is_key_start first) (list_all is_key_byte rest) is in
    and_from (not (is_equals first)) (list_all (λ byte. not (is_equals byte)) rest) (not_equals is_key_start refl first parts.0)
    (list_all-weaker is_key_byte (λ byte. not (is_equals byte)) (not_equals is_key_byte refl) rest parts.1)

again : (key text value : List ℕ) → is_key key ≡ true → value_reading text ≡ Some value → os_reading (key ++ 61 ∷ text) ≡ Some (key, value)
unfolding with_key
again key text value key_is read =
    let line = key ++ 61 ∷ text in
    let end = position_or_len is_equals line in
    let end_is : end ≡ length key = prefix_len-front (λ byte. not (is_equals byte)) key (61 ∷ text) (key_has_no_equals key key_is) refl in
    let key_front : take end line ≡ key = ap (λ (n : ℕ). take n line) end_is ∙ take_at key (61 ∷ text) (length key) refl in
    let behind_is : drop (end + 1) line ≡ text =
    ap (λ (n : ℕ). drop (n + 1) line) end_is ∙ ap (λ (xs : List ℕ). drop (length key + 1) xs) (append_assoc-one key text)
    ∙ drop_at (key ++ 61 ∷ []) text (length key + 1) (length-append key (61 ∷ [])) in
    let below : end < length line = omega (arith, end_is, length-append key (61 ∷ text)) in
    let first : (ltb end (length line) && is_key (take end line)) ≡ true =
    and_from (ltb end (length line)) (is_key (take end line)) (lt-ltb end (length line) below) (subst (λ (key : List ℕ). is_key key ≡ true) (sym key_front) key_is) in
    cond-true (ltb end (length line) && is_key (take end line)) (with_key (take end line) (value_reading (drop (end + 1) line))) None first
    ∙ ap (λ (k : List ℕ). with_key k (value_reading (drop (end + 1) line))) key_front
    ∙ ap (λ (xs : List ℕ). with_key key (value_reading xs)) behind_is
    ∙ ap (with_key key) read
  where
    append_assoc-one : (key text : List ℕ) → key ++ 61 ∷ text ≡ (key ++ 61 ∷ []) ++ text
    append_assoc-one key text = sym (append_assoc key (61 ∷ []) text)

pub complete : (line : List ℕ) (pair : Pair) → OsLine line pair.0 pair.1 → os_reading line ≡ Some pair
complete line pair given =
    ap os_reading given.parts ∙ again pair.0 given.text pair.1 given.key_is (value_complete given.text pair.1 given.value_is)
