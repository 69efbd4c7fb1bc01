-- What each item matches.
use Rattle.std.proofs.Common.{◌≡◌, ◌≢◌, ◌≤◌, ◌<◌, ℕ, suc, Bool, true, false, not, ◌||◌, eqb, List, [], ◌∷◌, ◌++◌, Some, None, Option, length, take, drop, subst, sym, ap, ◌∙◌, refl, cond, arith, ◌⊎◌, inl, inr, ◌+◌, nat_le}
use Rattle.std.specs.List.{Contains, flat_map, list_all, list_any, prefix_len}
use Rattle.std.proofs.lemmas.Bool.{and_from, and_parts, both_ways, eq-eqb, eqb-true, leb-true, le-leb, or_cases, or_left, or_right, not_from_false, ne_eqb, false≢true}
use Rattle.std.proofs.lemmas.List.Elements.{Contains-append_cases, Contains-append_left, Contains-append_right, Contains-push, Contains-push_cases}
use Rattle.std.proofs.lemmas.Option.{none-some, some_pair_parts}
use Rattle.boot_texts.specs.PatternItems.{item_reading, set_reading}
use Rattle.boot_texts.specs.Patterns.{IsPattern, PatternItem, PatternMatches, SetMember, any_byte, any_run, escape, member_holds, is_inside_set, is_pattern_item, member_bytes, members_of, single, plain, range, set, item_bytes}
use Rattle.boot_texts.specs.PatternLaws.{EscapeMatches, MembersAreBetween, OneItemList, PlainMatches, QuestionMatches, SetMatches, StarMatches, UnclosedIsNoPattern}
use Rattle.boot_texts.proofs.PatternItems.{first_complete, set_complete}
use Rattle.boot_texts.proofs.PatternSearch.{items_end, match_from, match_parts, on_match, one_parts}

-- ---- members

HoldsOne : ℕ → List SetMember → Type 0
HoldsOne byte members = Contains members (single byte) ⊎ ((low : ℕ) × (high : ℕ) × Contains members (range low high) × (low ≤ byte) × (byte ≤ high))

more : (byte : ℕ) (member : SetMember) (members : List SetMember) → HoldsOne byte members → HoldsOne byte (member ∷ members)
unfolding HoldsOne
more byte member members (inl is) = inl (Contains-append_right (member ∷ []) members (single byte) is)
more byte member members (inr is) = inr (is.0, is.1, Contains-append_right (member ∷ []) members (range is.0 is.1) is.2, is.3, is.4)

here : (member : SetMember) (members : List SetMember) → Contains (member ∷ members) member
here member members = Contains-append_left (member ∷ []) members member (Contains-push [] member)

held_by : (byte : ℕ) (member : SetMember) (members : List SetMember) → member_holds byte member ≡ true → HoldsOne byte (member ∷ members)
unfolding HoldsOne
held_by byte (single other) members is = inl (subst (λ (b : ℕ). Contains (single other ∷ members) (single b)) (sym (eqb-true byte other is)) (here (single other) members))
held_by byte (range low high) members is =
    let parts = and_parts (nat_le low byte) (nat_le byte high) is in
    inr (low, high, here (range low high) members, leb-true low byte parts.0, leb-true byte high parts.1)

held : (byte : ℕ) (members : List SetMember) → list_any (member_holds byte) members ≡ true → HoldsOne byte members
held byte [] is = absurd (false≢true is)
held byte (member ∷ members) is = elim (or_cases (member_holds byte member) (list_any (member_holds byte) members) is) as (λ _. HoldsOne byte (member ∷ members)) [
  | inl e ↦ held_by byte member members e
  | inr e ↦ more byte member members (held byte members e)
]

any_of : (byte : ℕ) (members : List SetMember) (member : SetMember) → Contains members member → member_holds byte member ≡ true → list_any (member_holds byte) members ≡ true
any_of byte [] member is h = let below : is.0 < 0 = is.1 in absurd (omega (arith, below))
any_of byte (first ∷ members) member is h = elim (Contains-append_cases (first ∷ []) members member is) as (λ _. (member_holds byte first || list_any (member_holds byte) members) ≡ true) [
  | inl at ↦ (elim (Contains-push_cases [] first member at) as (λ _. (member_holds byte first || list_any (member_holds byte) members) ≡ true) [
    | inl none ↦ (let below : none.0 < 0 = none.1 in absurd (omega (arith, below)))
    | inr same ↦ or_left (member_holds byte first) (list_any (member_holds byte) members) (ap (member_holds byte) same ∙ h)
  ])
  | inr at ↦ or_right (member_holds byte first) (list_any (member_holds byte) members) (any_of byte members member at h)
]

from_held : (byte : ℕ) (members : List SetMember) → HoldsOne byte members → list_any (member_holds byte) members ≡ true
unfolding HoldsOne
from_held byte members (inl is) = any_of byte members (single byte) is (eq-eqb byte byte refl)
from_held byte members (inr is) = any_of byte members (range is.0 is.1) is.2 (and_from (nat_le is.0 byte) (nat_le byte is.1) (le-leb is.0 byte is.3) (le-leb byte is.1 is.4))

pub members_are_between : MembersAreBetween
members_are_between [] = refl
members_are_between (first ∷ []) = refl
members_are_between (first ∷ second ∷ []) = refl
members_are_between (first ∷ second ∷ third ∷ rest) = by_test (members_are_between rest) (members_are_between (second ∷ third ∷ rest)) (eqb second 45) refl
  where
    by_test : flat_map member_bytes (members_of rest) ≡ rest → flat_map member_bytes (members_of (second ∷ third ∷ rest)) ≡ second ∷ third ∷ rest → (b : Bool) → eqb second 45 ≡ b
        → flat_map member_bytes (members_of (first ∷ second ∷ third ∷ rest)) ≡ first ∷ second ∷ third ∷ rest
    by_test behind next true e =
        rw e (ap (λ (xs : List ℕ). first ∷ 45 ∷ third ∷ xs) behind ∙ ap (λ (b : ℕ). first ∷ b ∷ third ∷ rest) (sym (eqb-true second 45 e)))
    by_test behind next false e = rw e (ap (λ (xs : List ℕ). first ∷ xs) next)

-- ---- items

pub star_matches : StarMatches
star_matches pattern text = (
  λ m. let parts = match_parts (42 ∷ pattern) any_run pattern refl text m in (parts.0, parts.1, parts.2, parts.4),
  λ is. subst (λ (text : List ℕ). PatternMatches (42 ∷ pattern) text) (sym is.2) (match_from (42 ∷ pattern) any_run pattern refl is.0 is.1 tt is.3),
)

pub question_matches : QuestionMatches
question_matches pattern text = (
  λ m. let parts = one_parts (63 ∷ pattern) any_byte pattern refl refl text m in (parts.0, parts.1, parts.2, parts.4),
  λ is. subst (λ (text : List ℕ). PatternMatches (63 ∷ pattern) text) (sym is.2) ((on_match (63 ∷ pattern) any_byte pattern refl refl is.0 is.1 refl).1 is.3),
)

not_empty : (xs : List ℕ) → xs ≢ [] → not (eqb (length xs) 0) ≡ true
not_empty [] there = absurd (there refl)
not_empty (x ∷ xs) there = not_from_false (eqb (length (x ∷ xs)) 0) (ne_eqb (suc (length xs)) 0 (λ e. absurd (omega (arith, e))))

pub set_matches : SetMatches
unfolding HoldsOne
set_matches between pattern text there inside =
    let is_set : is_pattern_item (set between) ≡ true = and_from (not (eqb (length between) 0)) (list_all is_inside_set between) (not_empty between there) inside in
    let read : item_reading (91 ∷ (between ++ 93 ∷ pattern)) ≡ Some (set between, pattern) = set_complete between pattern is_set in (
      λ m. let parts = one_parts (91 ∷ (between ++ 93 ∷ pattern)) (set between) pattern read refl text m in (parts.0, parts.1, parts.2, held parts.0 (members_of between) parts.3, parts.4),
      λ is. subst (λ (text : List ℕ). PatternMatches (91 ∷ (between ++ 93 ∷ pattern)) text) (sym is.2)
          ((on_match (91 ∷ (between ++ 93 ∷ pattern)) (set between) pattern read refl is.0 is.1 (from_held is.0 (members_of between) is.3)).1 is.4),
    )

pub escape_matches : EscapeMatches
escape_matches byte pattern text = (
  λ m. let parts = one_parts (92 ∷ byte ∷ pattern) (escape byte) pattern refl refl text m in
      (parts.1, parts.2 ∙ ap (λ (b : ℕ). b ∷ parts.1) (eqb-true parts.0 byte parts.3), parts.4),
  λ is. subst (λ (text : List ℕ). PatternMatches (92 ∷ byte ∷ pattern) text) (sym is.1) ((on_match (92 ∷ byte ∷ pattern) (escape byte) pattern refl refl byte is.0 (eq-eqb byte byte refl)).1 is.2),
)

pub plain_matches : PlainMatches
plain_matches byte pattern text is_one =
    let read : item_reading (byte ∷ pattern) ≡ Some (plain byte, pattern) = first_complete (plain byte) pattern is_one in (
      λ m. let parts = one_parts (byte ∷ pattern) (plain byte) pattern read refl text m in
          (parts.1, parts.2 ∙ ap (λ (b : ℕ). b ∷ parts.1) (eqb-true parts.0 byte parts.3), parts.4),
      λ is. subst (λ (text : List ℕ). PatternMatches (byte ∷ pattern) text) (sym is.1) ((on_match (byte ∷ pattern) (plain byte) pattern read refl byte is.0 (eq-eqb byte byte refl)).1 is.2),
    )

-- ---- no pattern

no_items : (first : ℕ) (rest : List ℕ) → item_reading (first ∷ rest) ≡ None → IsPattern (first ∷ rest) → ⊥
no_items first rest none is =
    both_ways (eqb (length (first ∷ rest)) 0) (ne_eqb (suc (length rest)) 0 (λ e. absurd (omega (arith, e)))) ((items_end (first ∷ rest) none).1 is)

all_front : (test : ℕ → Bool) (xs : List ℕ) → list_all test xs ≡ true → prefix_len test xs ≡ length xs
all_front test [] all = refl
all_front test (x ∷ xs) all =
    let parts = and_parts (test x) (list_all test xs) all in
    let next : 1 + length xs ≡ suc (length xs) = omega arith in
    rw parts.0 (ap (λ (n : ℕ). 1 + n) (all_front test xs parts.1) ∙ next)

open_set : (rest : List ℕ) → list_all is_inside_set rest ≡ true → set_reading rest ≡ None
open_set rest all =
    let n = prefix_len is_inside_set rest in
    let at_end : (eqb n 0 || eqb n (length rest)) ≡ true = or_right (eqb n 0) (eqb n (length rest)) (eq-eqb n (length rest) (all_front is_inside_set rest all)) in
    let found : Option (PatternItem × List ℕ) = Some (set (take n rest), drop (n + 1) rest) in
    ap (λ (test : Bool). cond test None found) at_end

pub unreadable : UnclosedIsNoPattern
unreadable = (λ rest all. no_items 91 rest (open_set rest all), λ rest. no_items 91 (93 ∷ rest) refl, no_items 92 [] refl)

-- ---- one reading

there_twice : (item : PatternItem) (items : List PatternItem) → list_all is_pattern_item (item ∷ items) ≡ true → [] ≡ flat_map item_bytes (item ∷ items) → ⊥
there_twice item items all is =
    let parts = and_parts (is_pattern_item item) (list_all is_pattern_item items) all in
    none-some (item, flat_map item_bytes items) (ap item_reading is ∙ first_complete item (flat_map item_bytes items) parts.0)

same_items : (items others : List PatternItem) → list_all is_pattern_item items ≡ true
    → list_all is_pattern_item others ≡ true → flat_map item_bytes items ≡ flat_map item_bytes others → items ≡ others
same_items [] [] all also is = refl
same_items [] (other ∷ others) all also is = absurd (there_twice other others also is)
same_items (item ∷ items) [] all also is = absurd (there_twice item items all (sym is))
same_items (item ∷ items) (other ∷ others) all also is =
    let parts = and_parts (is_pattern_item item) (list_all is_pattern_item items) all in
    let again = and_parts (is_pattern_item other) (list_all is_pattern_item others) also in
    let same = some_pair_parts item other (flat_map item_bytes items) (flat_map item_bytes others)
    (sym (first_complete item (flat_map item_bytes items) parts.0) ∙ ap item_reading is ∙ first_complete other (flat_map item_bytes others) again.0) in
    ap (λ (i : PatternItem). i ∷ items) same.0 ∙ ap (λ (is : List PatternItem). other ∷ is) (same_items items others parts.1 again.1 same.1)

pub one_reading : OneItemList
one_reading items others bytes is also = same_items items others is.0 also.0 (sym is.1 ∙ also.1)
