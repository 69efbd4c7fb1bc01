-- What one item of a pattern says of a match, and each step of the search.
use Rattle.std.proofs.Common.{◌≡◌, ◌≢◌, ◌↔◌, arith, eqb, ℕ, true, false, List, [], ◌∷◌, ◌++◌, Some, None, length, subst, sym, ap, ◌∙◌, refl, ◌⊎◌, inl, inr}
use Rattle.std.specs.List.{flat_map, list_all}
use Rattle.std.proofs.lemmas.Bool.{and_from, and_parts, both_ways, eqb-true, false≢true}
use Rattle.std.proofs.lemmas.Option.{none-some, some_pair_parts}
use Rattle.boot_texts.specs.PatternItems.{item_reading}
use Rattle.boot_texts.specs.PatternSteps.{MatchesLater}
use Rattle.boot_texts.specs.Patterns.{IsPattern, PatternItem, any_run, any_byte, set, escape, plain, is_pattern_item, item_bytes, PatternMatches, ItemsMatch, ItemMatches, item_takes, is_any_run}
use Rattle.boot_texts.proofs.PatternItems.{first_complete, first_sound}

pub none_of_it : (xs : List ℕ) → length xs ≡ 0 → xs ≡ []
none_of_it [] is = refl
none_of_it (x ∷ xs) is = absurd (omega (arith, is))

pub some_of_it : (xs : List ℕ) → eqb (length xs) 0 ≡ false → xs ≢ []
some_of_it xs not is = both_ways (eqb (length xs) 0) not (ap (λ (ys : List ℕ). eqb (length ys) 0) is)

-- a pattern that is items is empty, or begins with the first of them
pub match_empty : (text : List ℕ) → PatternMatches [] text → text ≡ []
match_empty text m = by_items m.0 m.1.0 m.1.1 m.2
  where
    by_items : (items : List PatternItem) → list_all is_pattern_item items ≡ true → [] ≡ flat_map item_bytes items → ItemsMatch items text → text ≡ []
    by_items [] all is m = m
    by_items (item ∷ items) all is m =
        let parts = and_parts (is_pattern_item item) (list_all is_pattern_item items) all in
        absurd (none-some (item, flat_map item_bytes items) (ap item_reading is ∙ first_complete item (flat_map item_bytes items) parts.0))

pub match_ends : PatternMatches [] []
match_ends = ([], (refl, refl), refl)

pub match_never : (pattern : List ℕ) → item_reading pattern ≡ None → pattern ≢ [] → (text : List ℕ) → PatternMatches pattern text → ⊥
match_never pattern none there text m = by_items m.0 m.1.0 m.1.1
  where
    by_items : (items : List PatternItem) → list_all is_pattern_item items ≡ true → pattern ≡ flat_map item_bytes items → ⊥
    by_items [] all is = there is
    by_items (item ∷ items) all is =
        let parts = and_parts (is_pattern_item item) (list_all is_pattern_item items) all in
        none-some (item, flat_map item_bytes items) (sym none ∙ ap item_reading is ∙ first_complete item (flat_map item_bytes items) parts.0)

module _ (pattern : List ℕ) (item : PatternItem) (behind : List ℕ) (read : item_reading pattern ≡ Some (item, behind)) where
  -- a text that matches is a piece for the first item, and the rest
  pub match_parts : (text : List ℕ) → PatternMatches pattern text → (piece : List ℕ) × (rest : List ℕ) × (text ≡ piece ++ rest) × ItemMatches item piece × PatternMatches behind rest
  match_parts text m = by_items m.0 m.1.0 m.1.1 m.2
    where
      by_items : (items : List PatternItem) → list_all is_pattern_item items ≡ true → pattern ≡ flat_map item_bytes items → ItemsMatch items text
          → (piece : List ℕ) × (rest : List ℕ) × (text ≡ piece ++ rest) × ItemMatches item piece × PatternMatches behind rest
      by_items [] all is m = absurd (none-some (item, behind) (sym (ap item_reading is) ∙ read))
      by_items (first ∷ items) all is m =
          let parts = and_parts (is_pattern_item first) (list_all is_pattern_item items) all in
          let same = some_pair_parts item first behind (flat_map item_bytes items) (sym read ∙ ap item_reading is ∙ first_complete first (flat_map item_bytes items) parts.0) in
          (m.0, m.1, m.2, subst (λ (i : PatternItem). ItemMatches i m.0) (sym same.0) m.3, (items, (parts.1, same.1), m.4))

  pub match_from : (piece rest : List ℕ) → ItemMatches item piece → PatternMatches behind rest → PatternMatches pattern (piece ++ rest)
  match_from piece rest stands m =
      let sound = first_sound pattern item behind read in
      (item ∷ m.0, (and_from (is_pattern_item item) (list_all is_pattern_item m.0) sound.0 m.1.0, sound.1 ∙ ap (λ (xs : List ℕ). item_bytes item ++ xs) m.1.1), (piece, rest, refl, stands, m.2))

-- ---- `*`

somewhere : (pattern piece rest : List ℕ) → PatternMatches pattern rest → PatternMatches pattern (piece ++ rest) ⊎ MatchesLater pattern (piece ++ rest)
somewhere pattern [] rest m = inl m
somewhere pattern (byte ∷ piece) rest m = inr (somewhere pattern piece rest m)

from_somewhere : (pattern text : List ℕ) → PatternMatches pattern text ⊎ MatchesLater pattern text → (piece : List ℕ) × (rest : List ℕ) × (text ≡ piece ++ rest) × PatternMatches pattern rest
from_somewhere pattern text (inl m) = ([], text, refl, m)
from_somewhere pattern [] (inr none) = absurd none
from_somewhere pattern (byte ∷ text) (inr m) =
    let found = from_somewhere pattern text m in
    (byte ∷ found.0, found.1, ap (λ (xs : List ℕ). byte ∷ xs) found.2, found.3)

is_run : (item : PatternItem) → is_any_run item ≡ true → item ≡ any_run
is_run any_run is = refl
is_run any_byte is = absurd (false≢true is)
is_run (set between) is = absurd (false≢true is)
is_run (escape byte) is = absurd (false≢true is)
is_run (plain byte) is = absurd (false≢true is)

run_step_at : (pattern behind : List ℕ) → item_reading pattern ≡ Some (any_run, behind) → (text : List ℕ) → PatternMatches pattern text ↔ (PatternMatches behind text ⊎ MatchesLater behind text)
run_step_at pattern behind read text = (
  λ m. let parts = match_parts pattern any_run behind read text m in
      subst (λ (text : List ℕ). PatternMatches behind text ⊎ MatchesLater behind text) (sym parts.2) (somewhere behind parts.0 parts.1 parts.4),
  λ m. let found = from_somewhere behind text m in
      subst (λ (text : List ℕ). PatternMatches pattern text) (sym found.2) (match_from pattern any_run behind read found.0 found.1 tt found.3),
)

pub run_step : (pattern : List ℕ) (item : PatternItem) (behind : List ℕ) → item_reading pattern ≡ Some (item, behind) → is_any_run item ≡ true
    → (text : List ℕ) → PatternMatches pattern text ↔ (PatternMatches behind text ⊎ MatchesLater behind text)
run_step pattern item behind read run text =
    run_step_at pattern behind (read ∙ ap (λ (i : PatternItem). Some (i, behind)) (is_run item run)) text

-- ---- an item of one byte

pub one_byte : (item : PatternItem) → is_any_run item ≡ false → (piece : List ℕ) → ItemMatches item piece → (byte : ℕ) × (piece ≡ byte ∷ []) × (item_takes item byte ≡ true)
one_byte any_run is piece stands = absurd (false≢true (sym is))
one_byte any_byte is piece stands = stands
one_byte (set between) is piece stands = stands
one_byte (escape byte) is piece stands = stands
one_byte (plain byte) is piece stands = stands

pub stands_single : (item : PatternItem) (byte : ℕ) → item_takes item byte ≡ true → ItemMatches item (byte ∷ [])
stands_single any_run byte is = tt
stands_single any_byte byte is = (byte, refl, is)
stands_single (set between) byte is = (byte, refl, is)
stands_single (escape other) byte is = (byte, refl, is)
stands_single (plain other) byte is = (byte, refl, is)

module _ (pattern : List ℕ) (item : PatternItem) (behind : List ℕ) (read : item_reading pattern ≡ Some (item, behind)) (one : is_any_run item ≡ false) where
  pub one_parts : (text : List ℕ) → PatternMatches pattern text → (byte : ℕ) × (rest : List ℕ) × (text ≡ byte ∷ rest) × (item_takes item byte ≡ true) × PatternMatches behind rest
  one_parts text m =
      let parts = match_parts pattern item behind read text m in
      let byte = one_byte item one parts.0 parts.3 in
      (byte.0, parts.1, parts.2 ∙ ap (λ (piece : List ℕ). piece ++ parts.1) byte.1, byte.2, parts.4)

  pub short_fails : PatternMatches pattern [] → ⊥
  short_fails m = let parts = one_parts [] m in let is : [] ≡ parts.0 ∷ parts.1 = parts.2 in cc

  pub other_fails : (byte : ℕ) (rest : List ℕ) → item_takes item byte ≡ false → PatternMatches pattern (byte ∷ rest) → ⊥
  other_fails byte rest not m =
      let parts = one_parts (byte ∷ rest) m in
      let same : byte ≡ parts.0 = let is : byte ∷ rest ≡ parts.0 ∷ parts.1 = parts.2 in cc in
      both_ways (item_takes item byte) not (ap (item_takes item) same ∙ parts.3)

  pub on_match : (byte : ℕ) (rest : List ℕ) → item_takes item byte ≡ true → PatternMatches pattern (byte ∷ rest) ↔ PatternMatches behind rest
  on_match byte rest is = (
    λ m. let parts = one_parts (byte ∷ rest) m in
        let same : parts.1 ≡ rest = let is : byte ∷ rest ≡ parts.0 ∷ parts.1 = parts.2 in cc in
        subst (λ (rest : List ℕ). PatternMatches behind rest) same parts.4,
    λ m. match_from pattern item behind read (byte ∷ []) rest (stands_single item byte is) m,
  )

  pub on_behind : (byte : ℕ) (rest : List ℕ) → MatchesLater pattern (byte ∷ rest) → MatchesLater behind rest
  on_behind byte [] (inl m) = absurd (short_fails m)
  on_behind byte [] (inr m) = absurd m
  on_behind byte (next ∷ rest) (inl m) =
      let parts = one_parts (next ∷ rest) m in
      let same : parts.1 ≡ rest = let is : next ∷ rest ≡ parts.0 ∷ parts.1 = parts.2 in cc in
      inl (subst (λ (rest : List ℕ). PatternMatches behind rest) same parts.4)
  on_behind byte (next ∷ rest) (inr m) = inr (on_behind next rest m)

-- ---- the search

-- a pattern that is no list of items matches nothing further on
pub never_behind : (pattern : List ℕ) → ((other : List ℕ) → PatternMatches pattern other → ⊥) → (text : List ℕ) → MatchesLater pattern text → ⊥
never_behind pattern never [] m = m
never_behind pattern never (byte ∷ text) (inl m) = never text m
never_behind pattern never (byte ∷ text) (inr m) = never_behind pattern never text m

-- what begins with `*` and matches further on matches here
pub run_behind : (pattern behind : List ℕ) → ((other : List ℕ) → PatternMatches pattern other ↔ (PatternMatches behind other ⊎ MatchesLater behind other))
    → (text : List ℕ) → MatchesLater pattern text → PatternMatches pattern text
run_behind pattern behind run [] m = absurd m
run_behind pattern behind run (byte ∷ text) (inl m) = (run (byte ∷ text)).1 (inr ((run text).0 m))
run_behind pattern behind run (byte ∷ text) (inr m) = (run (byte ∷ text)).1 (inr ((run text).0 (run_behind pattern behind run text m)))

-- ---- lists of items

pub items_behind : (pattern : List ℕ) (item : PatternItem) (behind : List ℕ) → item_reading pattern ≡ Some (item, behind) → IsPattern pattern ↔ IsPattern behind
items_behind pattern item behind read = (
  λ is. by_items is.0 is.1.0 is.1.1,
  λ is. let sound = first_sound pattern item behind read in
      (item ∷ is.0, (and_from (is_pattern_item item) (list_all is_pattern_item is.0) sound.0 is.1.0, sound.1 ∙ ap (λ (xs : List ℕ). item_bytes item ++ xs) is.1.1)),
)
  where
    by_items : (items : List PatternItem) → list_all is_pattern_item items ≡ true → pattern ≡ flat_map item_bytes items → IsPattern behind
    by_items [] all is = absurd (none-some (item, behind) (sym (ap item_reading is) ∙ read))
    by_items (first ∷ items) all is =
        let parts = and_parts (is_pattern_item first) (list_all is_pattern_item items) all in
        let same = some_pair_parts item first behind (flat_map item_bytes items) (sym read ∙ ap item_reading is ∙ first_complete first (flat_map item_bytes items) parts.0) in
        (items, (parts.1, same.1))

pub items_end : (pattern : List ℕ) → item_reading pattern ≡ None → (eqb (length pattern) 0 ≡ true) ↔ IsPattern pattern
items_end pattern none = (
  λ e. ([], (refl, none_of_it pattern (eqb-true (length pattern) 0 e))),
  λ is. by_items is.0 is.1.0 is.1.1,
)
  where
    by_items : (items : List PatternItem) → list_all is_pattern_item items ≡ true → pattern ≡ flat_map item_bytes items → eqb (length pattern) 0 ≡ true
    by_items [] all is = ap (λ (xs : List ℕ). eqb (length xs) 0) is
    by_items (item ∷ items) all is =
        let parts = and_parts (is_pattern_item item) (list_all is_pattern_item items) all in
        absurd (none-some (item, flat_map item_bytes items) (sym none ∙ ap item_reading is ∙ first_complete item (flat_map item_bytes items) parts.0))
