-- Names that are written of what a name was read as.
use Rattle.std.proofs.Common.{◌≡◌, ◌≤◌, inl, inr, ℕ, List, ◌++◌, Option, Some, None, true, take, length, refl, sym, ap, ◌∙◌, IfSome, MatchOption}
use Rattle.std.proofs.lemmas.Bool.{cases_Bool}
use Rattle.std.proofs.Math.Seq.{take-append_seam}
use Rattle.menu_order.specs.declared.counted.Suffix.{Suffix}
use Rattle.menu_order.specs.Counter.{IsCounted, IsNumber, IsUncounted, is_number, suffix_text, written_name}
use Rattle.menu_order.specs.Renames.{bad_name_of, good_name_of}
use Rattle.menu_order.specs.Splits.{number_in, split_of}
use Rattle.menu_order.proofs.Splitting.{number_found, split_none, split_some}
use Rattle.menu_order.proofs.CounterSteps.{number_test}
use Rattle.menu_order.proofs.CounterWritten.{number_bound}

module _ (name base : List ℕ) (left done : ℕ) (suffix : Suffix) (read : IsCounted name base left done suffix) where
  base_is : take (length base) name ≡ base
  base_is = ap (take (length base)) read.parts ∙ take-append_seam base _

  pub good_is : (good : List ℕ) → good ≡ base ++ suffix_text suffix → Some good ≡ good_name_of name
  good_is good is = rw (split_some name base left done suffix read, base_is, is) refl

  pub bad_is : (bad : List ℕ) → bad ≡ written_name base 0 done suffix → Some bad ≡ bad_name_of name
  bad_is bad is = rw (split_some name base left done suffix read, base_is, is) refl

module _ (name : List ℕ) (none : IsUncounted name) where
  pub no_good : None ≡ good_name_of name
  no_good = rw (split_none name none) refl

  pub no_bad : None ≡ bad_name_of name
  no_bad = rw (split_none name none) refl

-- no text is a number that isn't read
none_read : (text : List ℕ) → ((n : ℕ) → IsNumber text n → ⊥) → None ≡ number_in text
none_read text none = elim (cases_Bool (is_number text)) [
  | inl is ↦ absurd (none _ (number_test text is))
  | inr other ↦ rw other refl
]

pub count_value : (text : List ℕ) (read : Option ℕ) → MatchOption read ((n : ℕ) → IsNumber text n → ⊥) (IsNumber text) → read ≡ number_in text
count_value text None none = none_read text none
count_value text (Some n) is = sym (number_found text n is)

pub count_limit : (text : List ℕ) (read : Option ℕ) → MatchOption read ((n : ℕ) → IsNumber text n → ⊥) (IsNumber text) → IfSome read (λ count. count ≤ 999999999)
count_limit text None none = tt
count_limit text (Some n) is = number_bound text n is
