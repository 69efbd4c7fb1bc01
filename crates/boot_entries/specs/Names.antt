-- What the name of an entry's file says (UAPI Boot Loader Specification, "Boot counting").
use Rattle.std.specs.Prelude.{ℕ, List, take, Option, Some, None}
use Rattle.menu_order.specs.Splits.{split_of, stem_of}
use Rattle.menu_order.specs.declared.counted.Counted.{Counted}
use Rattle.menu_order.specs.declared.counted.Suffix.{Suffix}
use Rattle.menu_order.specs.declared.item.Counter.{Counter}

-- the base of a name, and its counter if it has one
pub record EntryNameParts : Type 0 where
  pub base : List ℕ
  pub counter : Option Counter

-- what a name says, by what it is split into: without a counter its base is its stem
abbrev pub named_by : Suffix → List ℕ → Option Counted → EntryNameParts
named_by suffix name None = record { base = stem_of suffix name; counter = None }
named_by suffix name (Some counted) = record {
  base = take counted.base_length name;
  counter = Some (record { left = counted.left; done = counted.done });
}

-- what a name of that suffix says
unfoldable pub parts_of_name : Suffix → List ℕ → EntryNameParts
parts_of_name suffix name = named_by suffix name (split_of name)
