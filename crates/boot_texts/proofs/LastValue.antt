-- The last value of a key, where a reading finds in each line what a grammar gives there.
use Rattle.std.proofs.Common.{◌≡◌, ◌↔◌, ℕ, Bool, true, false, List, [], ◌∷◌, ◌++◌, Some, None, Option, map, filter, subst, sym, ap, ◌∙◌, refl, cond, append-nil, Bor, ◌<◌, ◌+◌, length, take, get_or, inl, inr, MatchOption, bytes_eq}
use Rattle.std.specs.List.{cons_option, filter_map, last_or}
use Rattle.std.proofs.lemmas.List.{map-append, take_more}
use Rattle.std.proofs.lemmas.List.Elements.{All-cons, All-head, All-nil, All-tail, filter-append, filter_map-append}
use Rattle.std.proofs.lemmas.Option.{MatchOption-at_none, MatchOption-at_some, none-some}
use Rattle.std.proofs.lemmas.Bool.{both_ways}
use Rattle.std.proofs.lemmas.Slice.Eq.{bytes_eq-Decides}
use Rattle.std.specs.Option.{option_copied, option_or, option_to_list}
use Rattle.boot_texts.specs.KeyValues.{AreAllValues, given_value, Grammar, IsLastValue, LacksKey, Pair, last_value, values_of}

last_or_push : {A : Type 0} (o : Option A) (xs : List A) (y : A) → last_or o (xs ++ y ∷ []) ≡ Some y
last_or_push o [] y = refl
last_or_push o (x ∷ xs) y = last_or_push (Some x) xs y

pub values_of-append : (key : List ℕ) (xs ys : List Pair) → values_of key (xs ++ ys) ≡ values_of key xs ++ values_of key ys
values_of-append key xs ys =
    ap (map (λ (pair : Pair). pair.1)) (filter-append (λ (pair : Pair). bytes_eq pair.0 key) xs ys)
    ∙ map-append (λ (pair : Pair). pair.1) (filter (λ (pair : Pair). bytes_eq pair.0 key) xs) (filter (λ (pair : Pair). bytes_eq pair.0 key) ys)

values_given : (key : List ℕ) (read : Option Pair) → values_of key (cons_option read []) ≡ option_to_list (given_value key read)
values_given key None = refl
values_given key (Some pair) = by_key (bytes_eq pair.0 key) refl
  where
    by_key : (b : Bool) → bytes_eq pair.0 key ≡ b → values_of key (pair ∷ []) ≡ option_to_list (given_value key (Some pair))
    by_key true e = rw e refl
    by_key false e = rw e refl

-- one more line
pub values_of_push : (reading : List ℕ → Option Pair) (key : List ℕ) (lines : List (List ℕ)) (line : List ℕ)
    → values_of key (filter_map reading (lines ++ line ∷ [])) ≡ values_of key (filter_map reading lines) ++ option_to_list (given_value key (reading line))
values_of_push reading key lines line =
    ap (values_of key) (filter_map-append reading lines (line ∷ []))
    ∙ values_of-append key (filter_map reading lines) (filter_map reading (line ∷ []))
    ∙ ap (λ (values : List (List ℕ)). values_of key (filter_map reading lines) ++ values) (values_given key (reading line))

last_or-given : {A : Type 0} (xs : List A) (o : Option A) → last_or None (xs ++ option_to_list o) ≡ option_or o (last_or None xs)
last_or-given xs None = ap (last_or None) (append-nil xs)
last_or-given xs (Some x) = last_or_push None xs x

pub last_value_push : (reading : List ℕ → Option Pair) (key : List ℕ) (lines : List (List ℕ)) (line : List ℕ)
    → last_value key (filter_map reading (lines ++ line ∷ [])) ≡ option_or (given_value key (reading line)) (last_value key (filter_map reading lines))
last_value_push reading key lines line =
    ap (last_or None) (values_of_push reading key lines line) ∙ last_or-given (values_of key (filter_map reading lines)) (given_value key (reading line))

-- one more pair of a list
pub last_value-take : (key : List ℕ) (pairs : List Pair) (i : ℕ) (pair : Pair) → i < length pairs → pair ≡ get_or pairs i pair
    → last_value key (take (i + 1) pairs) ≡ cond (bytes_eq pair.0 key) (Some pair.1) (last_value key (take i pairs))
last_value-take key pairs i pair below is =
    ap (last_value key) (take_more pairs i pair below)
    ∙ ap (λ (p : Pair). last_value key (take i pairs ++ p ∷ [])) (sym is)
    ∙ ap (last_or None) (values_of-append key (take i pairs) (pair ∷ []))
    ∙ by_key (bytes_eq pair.0 key) refl
  where
    by_key : (b : Bool) → bytes_eq pair.0 key ≡ b
        → last_or None (values_of key (take i pairs) ++ values_of key (pair ∷ [])) ≡ cond (bytes_eq pair.0 key) (Some pair.1) (last_value key (take i pairs))
    by_key true e = rw e (last_or_push None (values_of key (take i pairs)) pair.1)
    by_key false e = rw e (ap (last_or None) (append-nil (values_of key (take i pairs))))

-- the pairs of one more item that shows a line
pub pairs_of_more : {A : Type 0} (reading : List ℕ → Option Pair) (shown : A → List ℕ) (items : List A) (item : A)
    → filter_map reading (map shown (items ++ item ∷ [])) ≡ filter_map reading (map shown items) ++ cons_option (reading (shown item)) []
pairs_of_more reading shown items item =
    ap (filter_map reading) (map-append shown items (item ∷ []))
    ∙ filter_map-append reading (map shown items) (shown item ∷ [])

-- the values of a key with that of one more item that shows a line
pub values_of_more : {A : Type 0} (reading : List ℕ → Option Pair) (key : List ℕ) (shown : A → List ℕ) (items : List A) (item : A)
    → values_of key (filter_map reading (map shown (items ++ item ∷ []))) ≡ values_of key (filter_map reading (map shown items)) ++ option_to_list (given_value key (reading (shown item)))
values_of_more reading key shown items item =
    ap (λ (lines : List (List ℕ)). values_of key (filter_map reading lines)) (map-append shown items (item ∷ []))
    ∙ values_of_push reading key (map shown items) (shown item)

pub last_value_more : {A : Type 0} (reading : List ℕ → Option Pair) (key : List ℕ) (shown : A → List ℕ) (items : List A) (item : A)
    → last_value key (filter_map reading (map shown (items ++ item ∷ []))) ≡ option_or (given_value key (reading (shown item))) (last_value key (filter_map reading (map shown items)))
last_value_more reading key shown items item =
    ap (λ (lines : List (List ℕ)). last_value key (filter_map reading lines)) (map-append shown items (item ∷ []))
    ∙ last_value_push reading key (map shown items) (shown item)

pub option_copied-or : (one other : Option (Bor (List ℕ))) → option_copied (option_or one other) ≡ option_or (option_copied one) (option_copied other)
option_copied-or None other = refl
option_copied-or (Some one) other = refl

bytes_eq-same : (key : List ℕ) → bytes_eq key key ≡ true
bytes_eq-same key = (bytes_eq-Decides key key).1 refl

module _ (reading : List ℕ → Option Pair) (gives : Grammar)
    (sound : (line : List ℕ) (pair : Pair) → reading line ≡ Some pair → gives line pair.0 pair.1)
    (complete : (line : List ℕ) (pair : Pair) → gives line pair.0 pair.1 → reading line ≡ Some pair)
    (key : List ℕ) where
  abbrev pairs : List (List ℕ) → List Pair
  pairs lines = filter_map reading lines

  -- a line that gives the key nothing
  lacks_none : (line : List ℕ) → reading line ≡ None → (value : List ℕ) → gives line key value → ⊥
  lacks_none line none value given = let read : reading line ≡ Some (key, value) = complete line (key, value) given in cc

  lacks_other : (line : List ℕ) (pair : Pair) → reading line ≡ Some pair → bytes_eq pair.0 key ≡ false → (value : List ℕ) → gives line key value → ⊥
  lacks_other line pair read other value given =
      let again : reading line ≡ Some (key, value) = complete line (key, value) given in
      let P : Option Pair → Type 0 = λ (o : Option Pair). elim o as (λ _. Type 0) [ None ↦ Unit {0} | Some p ↦ bytes_eq p.0 key ≡ false ] in
      both_ways (bytes_eq key key) (subst P (sym read ∙ again) other) (bytes_eq-same key)

  -- what the values found in lines say of the lines
  abbrev Says : List (List ℕ) → List (List ℕ) → Type 0
  Says values lines = MatchOption (last_or None values) (LacksKey gives key lines) (λ value. IsLastValue gives key lines value)

  -- a line in front that gives the key nothing
  says_more : (line : List ℕ) (lines : List (List ℕ)) → ((value : List ℕ) → gives line key value → ⊥) → (found : Option (List ℕ))
      → MatchOption found (LacksKey gives key lines) (λ value. IsLastValue gives key lines value)
      → MatchOption found (LacksKey gives key (line ∷ lines)) (λ value. IsLastValue gives key (line ∷ lines) value)
  says_more line lines lacks None says = All-cons (λ (line : List ℕ). (value : List ℕ) → gives line key value → ⊥) line lines lacks says
  says_more line lines lacks (Some value) says =
      (line ∷ says.0, says.1, says.2, ap (λ (rest : List (List ℕ)). line ∷ rest) says.3, says.4, says.5)

  -- a line in front that gives it a value
  says_value : (line value : List ℕ) (lines values : List (List ℕ)) → gives line key value → Says values lines → Says (value ∷ values) (line ∷ lines)
  says_value line value lines [] given says = ([], line, lines, refl, given, says)
  says_value line value lines (later ∷ values) given says =
      last_more (last_or (Some later) values) (some_last later values) says
    where
      some_last : (later : List ℕ) (values : List (List ℕ)) → (last : List ℕ) × (last_or (Some later) values ≡ Some last)
      some_last later [] = (later, refl)
      some_last later (next ∷ values) = some_last next values

      last_more : (found : Option (List ℕ)) → (last : List ℕ) × (found ≡ Some last)
          → MatchOption found (LacksKey gives key lines) (λ value. IsLastValue gives key lines value)
          → MatchOption found (LacksKey gives key (line ∷ lines)) (λ value. IsLastValue gives key (line ∷ lines) value)
      last_more None is says = absurd (none-some is.0 is.1)
      last_more (Some last) is says = (line ∷ says.0, says.1, says.2, ap (λ (rest : List (List ℕ)). line ∷ rest) says.3, says.4, says.5)

  says_line : (line : List ℕ) (lines : List (List ℕ)) (read : Option Pair) → reading line ≡ read → Says (values_of key (pairs lines)) lines
      → Says (values_of key (cons_option read (pairs lines))) (line ∷ lines)
  says_line line lines None is says = says_more line lines (lacks_none line is) (last_or None (values_of key (pairs lines))) says
  says_line line lines (Some pair) is says = by_key (bytes_eq pair.0 key) refl
    where
      by_key : (b : Bool) → bytes_eq pair.0 key ≡ b → Says (values_of key (pair ∷ pairs lines)) (line ∷ lines)
      by_key true e =
          let given : gives line key pair.1 = subst (λ (k : List ℕ). gives line k pair.1) ((bytes_eq-Decides pair.0 key).0 e) (sound line pair is) in
          rw e (says_value line pair.1 lines (values_of key (pairs lines)) given says)
      by_key false e = rw e (says_more line lines (lacks_other line pair is e) (last_or None (values_of key (pairs lines))) says)

  says : (lines : List (List ℕ)) → Says (values_of key (pairs lines)) lines
  says [] = All-nil (λ (line : List ℕ). (value : List ℕ) → gives line key value → ⊥)
  says (line ∷ lines) = says_line line lines (reading line) refl (says lines)

  -- lines that give the key nothing
  values_more : (line : List ℕ) (lines : List (List ℕ)) → ((value : List ℕ) → gives line key value → ⊥) → (read : Option Pair) → reading line ≡ read
      → values_of key (cons_option read (pairs lines)) ≡ values_of key (pairs lines)
  values_more line lines lacks None is = refl
  values_more line lines lacks (Some pair) is = by_key (bytes_eq pair.0 key) refl
    where
      by_key : (b : Bool) → bytes_eq pair.0 key ≡ b → values_of key (pair ∷ pairs lines) ≡ values_of key (pairs lines)
      by_key true e = absurd (lacks pair.1 (subst (λ (k : List ℕ). gives line k pair.1) ((bytes_eq-Decides pair.0 key).0 e) (sound line pair is)))
      by_key false e = rw e refl

  values_none : (lines : List (List ℕ)) → LacksKey gives key lines → values_of key (pairs lines) ≡ []
  values_none [] lacks = refl
  values_none (line ∷ lines) lacks =
      values_more line lines (All-head (λ (line : List ℕ). (value : List ℕ) → gives line key value → ⊥) line lines lacks) (reading line) refl
      ∙ values_none lines (All-tail (λ (line : List ℕ). (value : List ℕ) → gives line key value → ⊥) line lines lacks)

  -- a line that gives the key a value, and none behind it
  values_last : (line value : List ℕ) (after : List (List ℕ)) → gives line key value → LacksKey gives key after → values_of key (pairs (line ∷ after)) ≡ value ∷ []
  values_last line value after given lacks =
      ap (λ (read : Option Pair). values_of key (cons_option read (pairs after))) (complete line (key, value) given)
      ∙ rw (bytes_eq-same key) (ap (λ (values : List (List ℕ)). value ∷ values) (values_none after lacks))

  last_value-at : (lines : List (List ℕ)) (value : List ℕ) → IsLastValue gives key lines value → last_value key (pairs lines) ≡ Some value
  last_value-at lines value is =
      ap (λ (lines : List (List ℕ)). last_value key (pairs lines)) is.3
      ∙ ap (last_value key) (filter_map-append reading is.0 (is.1 ∷ is.2))
      ∙ ap (last_or None) (values_of-append key (pairs is.0) (pairs (is.1 ∷ is.2)))
      ∙ ap (λ (last : List (List ℕ)). last_or None (values_of key (pairs is.0) ++ last)) (values_last is.1 value is.2 is.4 is.5)
      ∙ last_or_push None (values_of key (pairs is.0)) value

  pub last_value-some : (lines : List (List ℕ)) (value : List ℕ) → (last_value key (pairs lines) ≡ Some value) ↔ IsLastValue gives key lines value
  last_value-some lines value =
      (λ found. MatchOption-at_some (LacksKey gives key lines) (λ (value : List ℕ). IsLastValue gives key lines value) value found (says lines), last_value-at lines value)

  pub last_value-none : (lines : List (List ℕ)) → (last_value key (pairs lines) ≡ None) ↔ LacksKey gives key lines
  last_value-none lines =
      (λ found. MatchOption-at_none (LacksKey gives key lines) (λ (value : List ℕ). IsLastValue gives key lines value) found (says lines), λ lacks. ap (last_or None) (values_none lines lacks))

  -- all values of the key
  all_line : (line : List ℕ) (lines : List (List ℕ)) (read : Option Pair) → reading line ≡ read → AreAllValues gives key lines (values_of key (pairs lines))
      → AreAllValues gives key (line ∷ lines) (values_of key (cons_option read (pairs lines)))
  all_line line lines None is behind = inr (lacks_none line is, behind)
  all_line line lines (Some pair) is behind = by_key (bytes_eq pair.0 key) refl
    where
      by_key : (b : Bool) → bytes_eq pair.0 key ≡ b → AreAllValues gives key (line ∷ lines) (values_of key (pair ∷ pairs lines))
      by_key true e =
          let given : gives line key pair.1 = subst (λ (k : List ℕ). gives line k pair.1) ((bytes_eq-Decides pair.0 key).0 e) (sound line pair is) in
          rw e (inl (pair.1, values_of key (pairs lines), refl, given, behind))
      by_key false e = rw e (inr (lacks_other line pair is e, behind))

  all_values : (lines : List (List ℕ)) → AreAllValues gives key lines (values_of key (pairs lines))
  all_values [] = refl
  all_values (line ∷ lines) = all_line line lines (reading line) refl (all_values lines)

  -- a line that gives the key a value
  values_given_more : (line value : List ℕ) (lines : List (List ℕ)) → gives line key value → values_of key (pairs (line ∷ lines)) ≡ value ∷ values_of key (pairs lines)
  values_given_more line value lines given =
      ap (λ (read : Option Pair). values_of key (cons_option read (pairs lines))) (complete line (key, value) given) ∙ rw (bytes_eq-same key) refl

  all_values-once : (lines values : List (List ℕ)) → AreAllValues gives key lines values → values_of key (pairs lines) ≡ values
  all_values-once [] values are = sym are
  all_values-once (line ∷ lines) values (inl is) =
      values_given_more line is.0 lines is.3
      ∙ ap (λ (rest : List (List ℕ)). is.0 ∷ rest) (all_values-once lines is.1 is.4) ∙ sym is.2
  all_values-once (line ∷ lines) values (inr is) = values_more line lines is.0 (reading line) refl ∙ all_values-once lines values is.1

  pub values_of-all : (lines values : List (List ℕ)) → (values_of key (pairs lines) ≡ values) ↔ AreAllValues gives key lines values
  values_of-all lines values =
      (λ is. subst (λ (found : List (List ℕ)). AreAllValues gives key lines found) is (all_values lines), all_values-once lines values)
