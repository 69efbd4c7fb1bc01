-- Counts that words give (profile).
use Rattle.std.specs.Prelude.{ℕ, ◌==◌, List, Option, Some, None, Result, Ok, Err, if◌then◌else◌}
use Rattle.boot_base.specs.declared.refusal.Refusal.{Refusal}
use Rattle.boot_base.specs.declared.refusal.Refusal.TheVariants as refusals
use Rattle.menu_order.specs.Splits.{number_in}

-- the most that nine digits count
abbrev pub counter_limit : ℕ
counter_limit = 999999999

-- the number that was read, unless it is 0, or the refusal of the word
abbrev pub count_or : List ℕ → Option ℕ → Result ℕ Refusal
count_or word None = Err (refusals.BadNumber word)
count_or word (Some count) = if count == 0 then Err (refusals.BadNumber word) else Ok count

-- the count that a word writes: one to nine digits, and not 0
abbrev pub count_in : List ℕ → Result ℕ Refusal
count_in word = count_or word (number_in word)
