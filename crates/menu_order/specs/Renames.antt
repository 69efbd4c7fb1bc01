-- The names that an entry's file gets when it is booted or blessed (UAPI Boot Loader Specification, "Boot counting"),
-- as plain functions.
use Rattle.std.specs.Prelude.{ℕ, ◌==◌, List, ◌++◌, take, Option, Some, None, option_and_then, if◌then◌else◌}
use Rattle.std.specs.Option.{option_map}
use Rattle.menu_order.specs.declared.counted.Counted.{Counted}
use Rattle.menu_order.specs.Counter.{after_boot, suffix_text, written_name}
use Rattle.menu_order.specs.Splits.{split_of}

-- what a name has before the plus of its counter
abbrev pub base_of : List ℕ → Counted → List ℕ
base_of name counted = take counted.base_length name

-- the name with another counter
abbrev pub with_counter : List ℕ → Counted → List ℕ
with_counter name counted = written_name (base_of name counted) counted.left counted.done counted.suffix

-- the name without its counter, where it has one
abbrev pub good_name_of : List ℕ → Option (List ℕ)
good_name_of name = option_map (λ counted. base_of name counted ++ suffix_text counted.suffix) (split_of name)

-- the name with no boot left, where it has a counter
abbrev pub bad_name_of : List ℕ → Option (List ℕ)
bad_name_of name = option_map (λ counted. with_counter name (record counted { left = 0 })) (split_of name)

-- the name after one more boot, where it has a counter with a boot left
abbrev pub booted_name_of : List ℕ → Option (List ℕ)
booted_name_of name =
    option_and_then (λ counted. if counted.left == 0 then None else Some (with_counter name (after_boot counted)))
    (split_of name)
