-- How many values of options the items of a command have, and how long they are.
use Rattle.std.proofs.Common.{◌≡◌, ◌≤◌, ◌+◌, ℕ, List, [], ◌∷◌, length, refl, sym, subst, true, false, arith, Bool, Option, Some, None, map, sum_by, bytes_eq, if◌then◌else◌, ◌==◌, ◌||◌}
use Rattle.std.specs.List.{list_any, AllByRecursion, last_or, cons_option}
use Rattle.std.proofs.lemmas.List.Sums.{sum_by-cons}
use Rattle.boot_machine.proofs.Listing.{bytes-true}
use Rattle.word_grammar.specs.Grammar.{Word}
use Rattle.tool_words.specs.declared.command.Given.{Given}
use Rattle.tool_words.specs.declared.command.Given.TheVariants.{Inline, File}
use Rattle.tool_words.specs.Items.{Item, Value, Operand, all_values, item_value}
use Rattle.tool_words.specs.Meaning.{inline_or_file}
use Rattle.image_build.proofs.WordCounts.{GivesShort, IsShort}

-- whether there is a value, as a number
abbrev one : Option Word → ℕ
one None = 0
one (Some value) = 1

cons_long : (value : Option Word) (values : List Word) → length (cons_option value values) ≡ one value + length values
cons_long None values = omega arith
cons_long (Some value) values = omega arith

-- how many values these options have together
abbrev pub values_count : List Word → List Item → ℕ
values_count options found = sum_by (λ option. length (all_values option found)) options

abbrev here_count : List Word → Item → ℕ
here_count options item = sum_by (λ option. one (item_value option item)) options

count_none : (options : List Word) → values_count options [] ≡ 0
count_none [] = refl
count_none (option ∷ options) = omega (arith, sum_by-cons (λ (o : Word). length (all_values o [])) option options, count_none options)

count_more : (options : List Word) (item : Item) (found : List Item) → values_count options (item ∷ found) ≡ here_count options item + values_count options found
count_more [] item found = refl
count_more (option ∷ options) item found =
    omega (
      arith,
      sum_by-cons (λ (o : Word). length (all_values o (item ∷ found))) option options,
      sum_by-cons (λ (o : Word). one (item_value o item)) option options,
      sum_by-cons (λ (o : Word). length (all_values o found)) option options,
      cons_long (item_value option item) (all_values option found),
      count_more options item found,
    )

-- no two of these are the same
abbrev pub AreApart : List Word → Type 0
AreApart [] = Unit {0}
AreApart (option ∷ options) = (list_any (bytes_eq option) options ≡ false) × AreApart options

abbrev hit : Bool → Word → ℕ
hit b value = one (if b then Some value else None)

hit_false : (b : Bool) (value : Word) → b ≡ false → hit b value ≡ 0
hit_false true value is = cc
hit_false false value is = refl

hit_few : (b : Bool) (value : Word) → hit b value ≤ 1
hit_few true value = omega arith
hit_few false value = omega arith

either_false : (a b : Bool) → (a || b) ≡ false → (a ≡ false) × (b ≡ false)
either_false true b is = cc
either_false false b is = (refl, is)

none_else : (text value : Word) (options : List Word) → list_any (bytes_eq text) options ≡ false → here_count options (Value text value) ≡ 0
none_else text value [] is = refl
none_else text value (option ∷ options) is =
    let both = either_false (bytes_eq text option) (list_any (bytes_eq text) options) is in
    omega (
      arith,
      sum_by-cons (λ (o : Word). one (item_value o (Value text value))) option options,
      hit_false (bytes_eq text option) value both.0,
      none_else text value options both.1,
    )

here_by : (text value option : Word) (options : List Word) (b : Bool) → bytes_eq text option ≡ b → AreApart (option ∷ options) → here_count options (Value text value) ≤ 1
    → here_count (option ∷ options) (Value text value) ≤ 1
here_by text value option options true is apart rest =
    let same : option ≡ text = sym (bytes-true text option is) in
    omega (
      arith,
      sum_by-cons (λ (o : Word). one (item_value o (Value text value))) option options,
      hit_few (bytes_eq text option) value,
      none_else text value options (subst (λ (o : Word). list_any (bytes_eq o) options ≡ false) same apart.0),
    )
here_by text value option options false is apart rest =
    omega (
      arith,
      sum_by-cons (λ (o : Word). one (item_value o (Value text value))) option options,
      hit_false (bytes_eq text option) value is,
      rest,
    )

here_few : (text value : Word) (options : List Word) → AreApart options → here_count options (Value text value) ≤ 1
here_few text value [] apart = omega arith
here_few text value (option ∷ options) apart = here_by text value option options (bytes_eq text option) refl apart (here_few text value options apart.1)

operand_none : (word : Word) (options : List Word) → here_count options (Operand word) ≡ 0
operand_none word [] = refl
operand_none word (option ∷ options) = omega (arith, sum_by-cons (λ (o : Word). one (item_value o (Operand word))) option options, operand_none word options)

item_few : (options : List Word) (item : Item) → AreApart options → here_count options item ≤ 1
item_few options (Value text value) apart = here_few text value options apart
item_few options (Operand word) apart = omega (arith, operand_none word options)

-- options that differ have no more values than there are items
pub values_few : (options : List Word) (found : List Item) → AreApart options → values_count options found ≤ length found
values_few options [] apart = omega (arith, count_none options)
values_few options (item ∷ found) apart = omega (arith, count_more options item found, item_few options item apart, values_few options found apart)

-- the values are short
cons_short : (value : Option Word) (values : List Word) → ((w : Word) → value ≡ Some w → IsShort w) → AllByRecursion IsShort values → AllByRecursion IsShort (cons_option value values)
cons_short None values short rest = rest
cons_short (Some w) values short rest = (short w refl, rest)

value_of : (b : Bool) (value w : Word) → IsShort value → (if b then Some value else None) ≡ Some w → IsShort w
value_of true value w short is = subst IsShort (cc is) short
value_of false value w short is = cc

in_short : (option : Word) (item : Item) (w : Word) → GivesShort item → item_value option item ≡ Some w → IsShort w
in_short option (Value text value) w short is = value_of (bytes_eq text option) value w short is
in_short option (Operand word) w short is = cc

pub values_short : (option : Word) (found : List Item) → AllByRecursion GivesShort found → AllByRecursion IsShort (all_values option found)
values_short option [] short = tt
values_short option (item ∷ found) short =
    cons_short (item_value option item) (all_values option found) (λ w is. in_short option item w short.0 is) (values_short option found short.1)

-- a text that is inline_or_file is short
abbrev pub IsShortGiven : Given → Type 0
IsShortGiven (Inline text) = length text ≤ 268435456
IsShortGiven (File word) = Unit {0}

-- at most so many are inline_or_file, each of them short
pub record AreShort (count : ℕ) (givens : List Given) : Type 0 where
  pub few : length givens ≤ count
  pub short : AllByRecursion IsShortGiven givens

pub short_map : (f : Word → Given) (values : List Word) → ((w : Word) → IsShort w → IsShortGiven (f w)) → AllByRecursion IsShort values → AreShort (length values) (map f values)
short_map f [] fits short = record { few = omega arith; short = tt }
short_map f (value ∷ values) fits short =
    let rest = short_map f values fits short.1 in
    record { few = omega (arith, rest.few); short = (fits value short.0, rest.short) }

-- of an option that isn't repeatable one value counts
once : (f : Word → Given) (value : Word) → ((w : Word) → IsShort w → IsShortGiven (f w)) → IsShort value → AreShort 1 (f value ∷ [])
once f value fits short = record { few = omega arith; short = (fits value short, tt) }

abbrev pub given_of : (Word → Given) → Option Word → List Given
given_of f None = []
given_of f (Some value) = f value ∷ []

last_short : (f : Word → Given) (first : Word) (values : List Word) → ((w : Word) → IsShort w → IsShortGiven (f w)) → IsShort first → AllByRecursion IsShort values
    → AreShort 1 (given_of f (last_or (Some first) values))
last_short f first [] fits short more = once f first fits short
last_short f first (value ∷ values) fits short more = last_short f value values fits more.0 more.1

more_short : (a b : ℕ) (givens : List Given) → a ≤ b → AreShort a givens → AreShort b givens
more_short a b givens le short = record { few = omega (arith, short.few, le); short = short.short }

pub once_short : (f : Word → Given) (values : List Word) → ((w : Word) → IsShort w → IsShortGiven (f w)) → AllByRecursion IsShort values → AreShort (length values) (given_of f (last_or None values))
once_short f [] fits short = record { few = omega arith; short = tt }
once_short f (value ∷ values) fits short = more_short 1 (length (value ∷ values)) _ (omega arith) (last_short f value values fits short.0 short.1)

at_short : (b : Bool) (bytes word : Word) → length word ≤ 268435456 → IsShortGiven (if b then File bytes else Inline word)
at_short true bytes word le = tt
at_short false bytes word le = le

pub given_short : (word : Word) → length word ≤ 268435456 → IsShortGiven (inline_or_file word)
given_short [] le = omega arith
given_short (first ∷ bytes) le = at_short (first == 64) bytes (first ∷ bytes) le
