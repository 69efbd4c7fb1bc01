-- The function that decides on a match finds what the relation says.
use Rattle.std.proofs.Common.{◌≡◌, ◌≤◌, ◌↔◌, ℕ, zero, suc, Bool, true, false, not, ◌||◌, ◌&&◌, eqb, List, [], ◌∷◌, ◌++◌, Some, None, Option, length, subst, sym, ap, ◌∙◌, refl, arith, ◌⊎◌, inl, inr, length-append, is_some, nat_le}
use Rattle.std.specs.List.{flat_map, list_all}
use Rattle.std.specs.Char.{is_ascii_graphic}
use Rattle.std.proofs.lemmas.Bool.{and_from, and_parts, eqb-true, le-leb, leb-true, ne_eqb, not-true, not_from_false, or_cases}
use Rattle.std.proofs.lemmas.Option.{none-some, same_Some}
use Rattle.boot_texts.specs.Conf.{IsDefaultPattern, may_be_default, names_variable}
use Rattle.boot_texts.specs.PatternDecisions.{any_end, first_passes, is_pattern_text, item_passes, items_by, items_decide, items_match, items_within, pattern_matches, with_item}
use Rattle.boot_texts.specs.PatternItems.{item_reading}
use Rattle.boot_texts.specs.Patterns.{AreItemsOf, IsPattern, ItemMatches, ItemsMatch, PatternItem, PatternMatches, any_byte, any_run, escape, is_any_run, is_pattern_item, item_bytes, item_takes, plain, set}
use Rattle.boot_texts.proofs.PatternItems.{first_complete, first_sound}
use Rattle.boot_texts.proofs.PatternSearch.{none_of_it, one_byte, stands_single}

-- ---- the items of a pattern

sound_with : (first : PatternItem) (found : Option (List PatternItem)) (items : List PatternItem) → with_item first found ≡ Some items
    → (behind : List PatternItem) × (found ≡ Some behind) × (first ∷ behind ≡ items)
sound_with first None items is = absurd (none-some items is)
sound_with first (Some behind) items is = (behind, refl, same_Some (first ∷ behind) items is)

sound_by : (behind : List ℕ → Option (List PatternItem)) → ((rest : List ℕ) (items : List PatternItem) → behind rest ≡ Some items → AreItemsOf items rest)
    → (bytes : List ℕ) (first : Option (PatternItem × List ℕ)) → ((item : PatternItem) (rest : List ℕ) → first ≡ Some (item, rest) → (is_pattern_item item ≡ true) × (bytes ≡ item_bytes item ++ rest))
    → (items : List PatternItem) → items_by behind bytes first ≡ Some items → AreItemsOf items bytes
sound_by behind below [] first reads items is =
    subst (λ (found : List PatternItem). AreItemsOf found []) (same_Some [] items is) (refl, refl)
sound_by behind below (byte ∷ bytes) None reads items is = absurd (none-some items is)
sound_by behind below (byte ∷ bytes) (Some first) reads items is =
    let found = sound_with first.0 (behind first.1) items is in
    let rest = below first.1 found.0 found.1 in
    let here = reads first.0 first.1 refl in
    subst (λ (all : List PatternItem). AreItemsOf all (byte ∷ bytes)) found.2
    (and_from (is_pattern_item first.0) (list_all is_pattern_item found.0) here.0 rest.0, here.1 ∙ ap (λ (xs : List ℕ). item_bytes first.0 ++ xs) rest.1)

items_sound : (n : ℕ) (bytes : List ℕ) (items : List PatternItem) → items_within n bytes ≡ Some items → AreItemsOf items bytes
items_sound zero bytes items is =
    sound_by (λ rest. None) (λ rest items is. absurd (none-some items is)) bytes None (λ item rest is. absurd (none-some (item, rest) is)) items is
items_sound (suc n) bytes items is =
    sound_by (items_within n) (items_sound n) bytes (item_reading bytes) (λ item rest read. first_sound bytes item rest read) items is

has_bytes : (item : PatternItem) → 1 ≤ length (item_bytes item)
has_bytes any_run = omega arith
has_bytes any_byte = omega arith
has_bytes (set between) = omega arith
has_bytes (escape byte) = omega arith
has_bytes (plain byte) = omega arith

complete_by : (behind : List ℕ → Option (List PatternItem)) (item : PatternItem) (rest bytes : List ℕ) (items : List PatternItem) → behind rest ≡ Some items → 1 ≤ length bytes
    → items_by behind bytes (Some (item, rest)) ≡ Some (item ∷ items)
complete_by behind item rest [] items is there = absurd (omega (arith, there))
complete_by behind item rest (byte ∷ bytes) items is there = rw is refl

empty_by : (behind : List ℕ → Option (List PatternItem)) (first : Option (PatternItem × List ℕ)) (bytes : List ℕ) → bytes ≡ [] → items_by behind bytes first ≡ Some []
empty_by behind first bytes is = ap (λ (bytes : List ℕ). items_by behind bytes first) is

items_complete : (n : ℕ) (items : List PatternItem) (bytes : List ℕ) → length bytes ≤ n → list_all is_pattern_item items ≡ true → bytes ≡ flat_map item_bytes items → items_within n bytes ≡ Some items
items_complete zero [] bytes short all is = empty_by (λ rest. None) None bytes is
items_complete (suc n) [] bytes short all is = empty_by (items_within n) (item_reading bytes) bytes is
items_complete zero (item ∷ items) bytes short all is =
    let whole = length-append (item_bytes item) (flat_map item_bytes items) in
    let same : length bytes ≡ length (item_bytes item ++ flat_map item_bytes items) = ap length is in
    absurd (omega (arith, short, same, whole, has_bytes item))
items_complete (suc n) (item ∷ items) bytes short all is =
    let parts = and_parts (is_pattern_item item) (list_all is_pattern_item items) all in
    let rest = flat_map item_bytes items in
    let whole = length-append (item_bytes item) rest in
    let same : length bytes ≡ length (item_bytes item ++ rest) = ap length is in
    let within : length rest ≤ n = omega (arith, short, same, whole, has_bytes item) in
    let there : 1 ≤ length bytes = omega (arith, same, whole, has_bytes item) in
    let read : item_reading bytes ≡ Some (item, rest) = ap item_reading is ∙ first_complete item rest parts.0 in
    ap (items_by (items_within n) bytes) read
    ∙ complete_by (items_within n) item rest bytes items (items_complete n items rest within parts.1 refl) there

-- ---- the match of items

-- the text has an end that passes
abbrev HasEnd : (List ℕ → Bool) → List ℕ → Type 0
HasEnd test text = (piece : List ℕ) × (rest : List ℕ) × (text ≡ piece ++ rest) × (test rest ≡ true)

end_found : (test : List ℕ → Bool) (text : List ℕ) → any_end test text ≡ true → HasEnd test text
end_found test [] is = ([], [], refl, is)
end_found test (byte ∷ text) is = by (or_cases (test (byte ∷ text)) (any_end test text) is) (λ later. end_found test text later)
  where
    by : (test (byte ∷ text) ≡ true) ⊎ (any_end test text ≡ true) → (any_end test text ≡ true → HasEnd test text) → HasEnd test (byte ∷ text)
    by (inl here) later = ([], byte ∷ text, refl, here)
    by (inr behind) later = let end = later behind in (byte ∷ end.0, end.1, ap (λ (rest : List ℕ). byte ∷ rest) end.2, end.3)

here_passes : (test : List ℕ → Bool) (text : List ℕ) → test text ≡ true → any_end test text ≡ true
here_passes test [] is = is
here_passes test (byte ∷ text) is = rw is refl

later_passes : (b c : Bool) → c ≡ true → (b || c) ≡ true
later_passes true c is = refl
later_passes false c is = is

end_passes : (test : List ℕ → Bool) (piece rest : List ℕ) → test rest ≡ true → any_end test (piece ++ rest) ≡ true
end_passes test [] rest is = here_passes test rest is
end_passes test (byte ∷ piece) rest is = later_passes (test (byte ∷ (piece ++ rest))) (any_end test (piece ++ rest)) (end_passes test piece rest is)

-- what an item and a test of what is behind it say of a text
abbrev ItemAnd : PatternItem → (List ℕ → Bool) → List ℕ → Type 0
ItemAnd item test text = (piece : List ℕ) × (rest : List ℕ) × (text ≡ piece ++ rest) × ItemMatches item piece × (test rest ≡ true)

first_found : (item : PatternItem) (test : List ℕ → Bool) (text : List ℕ) → first_passes item test text ≡ true
    → ((byte : ℕ) → item_takes item byte ≡ true → ItemMatches item (byte ∷ [])) → ItemAnd item test text
first_found item test [] is takes = cc
first_found item test (byte ∷ text) is takes =
    let parts = and_parts (item_takes item byte) (test text) is in
    (byte ∷ [], text, refl, takes byte parts.0, parts.1)

first_holds : (item : PatternItem) (test : List ℕ → Bool) (text rest : List ℕ) (byte : ℕ) → text ≡ byte ∷ rest → item_takes item byte ≡ true → test rest ≡ true → first_passes item test text ≡ true
first_holds item test text rest byte is takes passes =
    ap (first_passes item test) is ∙ and_from (item_takes item byte) (test rest) takes passes

item_found : (item : PatternItem) (test : List ℕ → Bool) (text : List ℕ) → item_passes item test text ≡ true → ItemAnd item test text
item_found any_run test text is = let end = end_found test text is in (end.0, end.1, end.2, tt, end.3)
item_found any_byte test text is = first_found any_byte test text is (stands_single any_byte)
item_found (set between) test text is = first_found (set between) test text is (stands_single (set between))
item_found (escape byte) test text is = first_found (escape byte) test text is (stands_single (escape byte))
item_found (plain byte) test text is = first_found (plain byte) test text is (stands_single (plain byte))

one_holds : (item : PatternItem) → is_any_run item ≡ false → (test : List ℕ → Bool) (text : List ℕ) → ItemAnd item test text → first_passes item test text ≡ true
one_holds item one test text is =
    let byte = one_byte item one is.0 is.3 in
    first_holds item test text is.1 byte.0 (is.2 ∙ ap (λ (piece : List ℕ). piece ++ is.1) byte.1) byte.2 is.4

item_holds : (item : PatternItem) (test : List ℕ → Bool) (text : List ℕ) → ItemAnd item test text → item_passes item test text ≡ true
item_holds any_run test text is = ap (any_end test) is.2 ∙ end_passes test is.0 is.1 is.4
item_holds any_byte test text is = one_holds any_byte refl test text is
item_holds (set between) test text is = one_holds (set between) refl test text is
item_holds (escape byte) test text is = one_holds (escape byte) refl test text is
item_holds (plain byte) test text is = one_holds (plain byte) refl test text is

items_found : (items : List PatternItem) (text : List ℕ) → items_match items text ≡ true → ItemsMatch items text
items_found [] text is = none_of_it text (eqb-true (length text) 0 is)
items_found (item ∷ items) text is =
    let found = item_found item (items_match items) text is in
    (found.0, found.1, found.2, found.3, items_found items found.1 found.4)

items_hold : (items : List PatternItem) (text : List ℕ) → ItemsMatch items text → items_match items text ≡ true
items_hold [] text is = ap (λ (text : List ℕ). eqb (length text) 0) is
items_hold (item ∷ items) text is =
    item_holds item (items_match items) text (is.0, is.1, is.2, is.3, items_hold items is.1 is.4)

-- ---- the match of a pattern

decide_found : (pattern text : List ℕ) (found : Option (List PatternItem)) → items_within (length pattern) pattern ≡ found → items_decide found text ≡ true → PatternMatches pattern text
decide_found pattern text None is decides = cc
decide_found pattern text (Some items) is decides = (items, items_sound (length pattern) pattern items is, items_found items text decides)

pub pattern_decides : (pattern text : List ℕ) → (pattern_matches pattern text ≡ true) ↔ PatternMatches pattern text
unfolding pattern_matches
pattern_decides pattern text = (
  decide_found pattern text (items_within (length pattern) pattern) refl,
  λ m. ap (λ (found : Option (List PatternItem)). items_decide found text) (items_complete (length pattern) m.0 pattern (omega arith) m.1.0 m.1.1) ∙ items_hold m.0 text m.2,
)

-- the bytes are a pattern
text_found : (bytes : List ℕ) (found : Option (List PatternItem)) → items_within (length bytes) bytes ≡ found → is_some found ≡ true → IsPattern bytes
text_found bytes None is some = cc
text_found bytes (Some items) is some = (items, items_sound (length bytes) bytes items is)

pub pattern_text : (bytes : List ℕ) → (is_pattern_text bytes ≡ true) ↔ IsPattern bytes
unfolding is_pattern_text
pattern_text bytes = (
  text_found bytes (items_within (length bytes) bytes) refl,
  λ m. ap is_some (items_complete (length bytes) m.0 bytes (omega arith) m.1.0 m.1.1),
)

-- two tests that say the same are the same
pub same_truth : {P : Type 0} (b c : Bool) → ((b ≡ true) ↔ P) → ((c ≡ true) ↔ P) → b ≡ c
same_truth true true one other = refl
same_truth false false one other = refl
same_truth true false one other = sym (other.1 (one.0 refl))
same_truth false true one other = one.1 (other.0 refl)

pub decided : (pattern text : List ℕ) (b : Bool) → ((b ≡ true) ↔ PatternMatches pattern text) → b ≡ pattern_matches pattern text
decided pattern text b says = same_truth b (pattern_matches pattern text) says (pattern_decides pattern text)

-- ---- values of the default

some_length : (n : ℕ) → not (eqb n 0) ≡ true → 1 ≤ n
some_length zero is = cc
some_length (suc n) is = omega arith

length_some : (n : ℕ) → 1 ≤ n → not (eqb n 0) ≡ true
length_some n there = not_from_false (eqb n 0) (ne_eqb n 0 (λ e. absurd (omega (arith, e, there))))

pub default_decides : (value : List ℕ) → (may_be_default value ≡ true) ↔ IsDefaultPattern value
unfolding may_be_default
default_decides value = (found, holds)
  where
    found : may_be_default value ≡ true → IsDefaultPattern value
    found is =
        let there = not (eqb (length value) 0) in
        let short = nat_le (length value) 255 in
        let graphic = list_all is_ascii_graphic value in
        let items = and_parts (there && short && graphic && not (names_variable value)) (is_pattern_text value) is in
        let no_variable = and_parts (there && short && graphic) (not (names_variable value)) items.0 in
        let bytes = and_parts (there && short) graphic no_variable.0 in
        let lengths = and_parts there short bytes.0 in
        record {
          there = some_length (length value) lengths.0;
          short = leb-true (length value) 255 lengths.1;
          graphic = bytes.1;
          no_variable = not-true (names_variable value) no_variable.1;
          items = (pattern_text value).0 items.1;
        }

    holds : IsDefaultPattern value → may_be_default value ≡ true
    holds is =
        let there = not (eqb (length value) 0) in
        let short = nat_le (length value) 255 in
        let graphic = list_all is_ascii_graphic value in
        and_from (there && short && graphic && not (names_variable value)) (is_pattern_text value)
        (and_from (there && short && graphic) (not (names_variable value))
        (and_from (there && short) graphic (and_from there short (length_some (length value) is.there) (le-leb (length value) 255 is.short)) is.graphic)
        (not_from_false (names_variable value) is.no_variable))
        ((pattern_text value).1 is.items)
