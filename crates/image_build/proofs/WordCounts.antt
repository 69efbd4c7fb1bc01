-- How many values the words of a command give, and how long they are.
use Rattle.std.proofs.Common.{◌≡◌, ◌≤◌, ◌+◌, ℕ, List, [], ◌∷◌, length, refl, subst, true, false, arith, Result, Ok, Err, Bool, map, if◌then◌else◌, length-drop}
use Rattle.std.specs.List.{AllByRecursion, after_first, position_or_len}
use Rattle.word_grammar.specs.declared.grammar.CommandName.{CommandName}
use Rattle.word_grammar.specs.Grammar.{Word, OptionRule}
use Rattle.tool_words.specs.declared.fault.UsageReason.{UsageReason}
use Rattle.tool_words.specs.Items.{◌>>=◌, Item, Value, Operand, Said, Ends, Plain, Whole, Open, last_items, more_items, items, onto, word_meaning, option_said, option_of, with_value, without_value, check_value, has_equals, is_equals_sign, is_flag}

pub bound : {A B : Type 0} (r : Result A UsageReason) (f : A → Result B UsageReason) (b : B) → (r >>= f) ≡ Ok b → (a : A) × (r ≡ Ok a) × (f a ≡ Ok b)
bound (Ok a) f b is = (a, refl, is)
bound (Err e) f b is = cc

-- a word of at most so many bytes
abbrev pub IsShort : Word → Type 0
IsShort word = length word ≤ 1048576

-- what an item gives is at most so long
abbrev pub GivesShort : Item → Type 0
GivesShort (Value text value) = length value ≤ 1048576
GivesShort (Operand word) = length word ≤ 1048576

-- at most so many items, each of short words
pub record AreFew (count : ℕ) (found : List Item) : Type 0 where
  pub few : length found ≤ count
  pub short : AllByRecursion GivesShort found

few_one : (item : Item) (found : List Item) → GivesShort item → item ∷ [] ≡ found → AreFew 1 found
few_one item found short is = subst (AreFew 1) is (record { few = omega arith; short = (short, tt) })

few_more : (count : ℕ) (item : Item) (found : List Item) → GivesShort item → AreFew count found → AreFew (count + 1) (item ∷ found)
few_more count item found short fine = record { few = omega (arith, fine.few); short = (short, fine.short) }

few_up : (a b : ℕ) (found : List Item) → a ≤ b → AreFew a found → AreFew b found
few_up a b found le fine = record { few = omega (arith, fine.few, le); short = fine.short }

few_operands : (words : List Word) → AllByRecursion IsShort words → AreFew (length words) (map Operand words)
few_operands [] short = record { few = omega arith; short = tt }
few_operands (word ∷ words) short =
    let rest = few_operands words short.1 in
    record { few = omega (arith, rest.few); short = (short.0, rest.short) }

few_onto : (count : ℕ) (item : Item) (later : Result (List Item) UsageReason) (found : List Item) → GivesShort item
    → ((more : List Item) → later ≡ Ok more → AreFew count more) → onto item later ≡ Ok found → AreFew (count + 1) found
few_onto count item (Ok more) found short fine is = subst (AreFew (count + 1)) (cc is) (few_more count item more short (fine more refl))
few_onto count item (Err e) found short fine is = cc

-- what an option is said with in the same word is short
abbrev pub SaysShort : Said → Type 0
SaysShort Ends = Unit {0}
SaysShort Plain = Unit {0}
SaysShort (Whole text value) = length value ≤ 1048576
SaysShort (Open option) = Unit {0}

-- of two cases either
by_test : (b : Bool) (one other : Result Said UsageReason) (s : Said) → (one ≡ Ok s → SaysShort s) → (other ≡ Ok s → SaysShort s) → (if b then one else other) ≡ Ok s → SaysShort s
by_test true one other s first second is = first is
by_test false one other s first second is = second is

valued_same : (b : Bool) (why : UsageReason) (value taken : Word) → (let r : Result Word UsageReason = if b then Err why else Ok value in r) ≡ Ok taken → value ≡ taken
valued_same true why value taken is = cc
valued_same false why value taken is = cc

ok_short : (s t : Said) → SaysShort s → (let r : Result Said UsageReason = Ok s in r) ≡ Ok t → SaysShort t
ok_short s t short is = subst SaysShort (cc is) short

none_short : (why : UsageReason) (s : Said) → (let r : Result Said UsageReason = Err why in r) ≡ Ok s → SaysShort s
none_short why s is = cc

value_short : (option : OptionRule) (value : Word) (s : Said) → length value ≤ 1048576 → with_value option value ≡ Ok s → SaysShort s
value_short option value s short =
    by_test (is_flag option.takes) _ _ s (none_short _ s)
    (λ is.
    let taken = bound (check_value option value) _ s is in
    ok_short (Whole option.text taken.0) s (subst IsShort (valued_same _ _ value taken.0 taken.1) short) taken.2)

bare_short : (b : Bool) (option : OptionRule) → SaysShort (if b then Whole option.text [] else Open option)
bare_short true option = omega arith
bare_short false option = tt

option_short : (c : CommandName) (word : Word) (s : Said) → IsShort word → option_said c word ≡ Ok s → SaysShort s
option_short c word s short =
    by_test (has_equals word) _ _ s
    (λ is.
    let option = bound (option_of c _) _ s is in
    value_short option.0 (after_first is_equals_sign word) s (omega (arith, short, length-drop (position_or_len is_equals_sign word + 1) word)) option.2)
    (λ is.
    let option = bound (option_of c word) _ s is in
    ok_short (without_value option.0) s (bare_short (is_flag option.0.takes) option.0) option.2)

said_short : (c : CommandName) (word : Word) (s : Said) → IsShort word → word_meaning c word ≡ Ok s → SaysShort s
said_short c word s short =
    by_test _ _ _ s (ok_short Ends s tt)
    (by_test _ _ _ s (option_short c word s short)
    (by_test _ _ _ s (none_short _ s) (ok_short Plain s tt)))

few_last : (word : Word) (s : Said) (found : List Item) → IsShort word → SaysShort s → last_items word s ≡ Ok found → AreFew 1 found
few_last word Ends found short says is = let same : [] ≡ found = cc is in subst (AreFew 1) same (record { few = omega arith; short = tt })
few_last word Plain found short says is = few_one (Operand word) found short (cc is)
few_last word (Whole text value) found short says is = few_one (Value text value) found says (cc is)
few_last word (Open option) found short says is = cc

few_items_more : (word next : Word) (words : List Word) (s : Said) (later latest : Result (List Item) UsageReason) (found : List Item)
    → AllByRecursion IsShort (word ∷ next ∷ words) → SaysShort s
    → ((more : List Item) → later ≡ Ok more → AreFew (length words + 1) more) → ((more : List Item) → latest ≡ Ok more → AreFew (length words) more)
    → more_items word next words s later latest ≡ Ok found → AreFew (length words + 2) found
few_items_more word next words Ends later latest found short says first second is =
    subst (AreFew (length words + 2)) (cc is) (few_up (length (next ∷ words)) (length words + 2) (map Operand (next ∷ words)) (omega arith) (few_operands (next ∷ words) short.1))
few_items_more word next words Plain later latest found short says first second is =
    few_up (length words + 1 + 1) (length words + 2) found (omega arith) (few_onto (length words + 1) (Operand word) later found short.0 first is)
few_items_more word next words (Whole text value) later latest found short says first second is =
    few_up (length words + 1 + 1) (length words + 2) found (omega arith) (few_onto (length words + 1) (Value text value) later found says first is)
few_items_more word next words (Open option) later latest found short says first second is =
    let taken = bound (check_value option next) _ found is in
    few_up (length words + 1) (length words + 2) found (omega arith)
    (few_onto (length words) (Value option.text taken.0) latest found (subst IsShort (valued_same _ _ next taken.0 taken.1) short.1.0) second taken.2)

-- no more items than words, and no longer ones
pub few_items : (c : CommandName) (words : List Word) (found : List Item) → AllByRecursion IsShort words → items c words ≡ Ok found → AreFew (length words) found
unfolding items
few_items c [] found short is = let same : [] ≡ found = cc is in subst (AreFew 0) same (record { few = omega arith; short = tt })
few_items c (word ∷ []) found short is =
    let s = bound (word_meaning c word) _ found is in
    few_last word s.0 found short.0 (said_short c word s.0 short.0 s.1) s.2
few_items c (word ∷ next ∷ words) found short is =
    let s = bound (word_meaning c word) _ found is in
    few_up (length words + 2) (length (word ∷ next ∷ words)) found (omega arith)
    (few_items_more word next words s.0 (items c (next ∷ words)) (items c words) found short (said_short c word s.0 short.0 s.1)
    (λ more done. few_up (length (next ∷ words)) (length words + 1) more (omega arith) (few_items c (next ∷ words) more short.1 done))
    (λ more done. few_items c words more short.1.1 done) s.2)
