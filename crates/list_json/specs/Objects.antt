-- Objects whose members may be absent.
use Rattle.std.specs.Prelude.{ℕ, List, Bool, true, ◌&&◌, Option, Some, None}
use Rattle.std.specs.List.{fold, list_all}
use Rattle.std.specs.Option.{option_map_or}
use Rattle.std.specs.Str.{is_utf8}
use Rattle.serde_json.specs.Data.{Data, null, boolean, number, string, array, object, Items, no_items, item, Members, no_members, member, put}

-- a key, and its value if it has one
abbrev pub MaybeMember : Type 0
MaybeMember = List ℕ × Option Data

-- the members with one more at the place of its key, if it has a value
abbrev pub put_value : List ℕ → Option Data → Members → Members
put_value key None members = members
put_value key (Some value) members = put key value members

-- the members with that of a row at the place of its key, if it has a value
abbrev pub put_some : Members → MaybeMember → Members
put_some members row = put_value row.0 row.1 members

-- the members with more, each at the place of its key
abbrev pub put_all : Members → List MaybeMember → Members
put_all = fold put_some

-- the object of the members that have a value, in the order of their keys' bytes
abbrev pub object_of : List MaybeMember → Data
object_of rows = object (put_all no_members rows)

-- whether the texts of a value are UTF-8, as JSON's are (RFC 8259, section 8.1)
abbrev mutual
  pub is_text : Data → Bool
  is_text null = true
  is_text (boolean b) = true
  is_text (number n) = true
  is_text (string bytes) = is_utf8 bytes
  is_text (array items) = items_are_text items
  is_text (object members) = members_are_text members

  -- whether the texts of an array's items are UTF-8
  pub items_are_text : Items → Bool
  items_are_text no_items = true
  items_are_text (item value items) = is_text value && items_are_text items

  -- whether the texts of an object's values are UTF-8
  pub members_are_text : Members → Bool
  members_are_text no_members = true
  members_are_text (member key value members) = is_text value && members_are_text members

-- whether the texts of a member's value are UTF-8, if it has one
abbrev pub member_is_text : MaybeMember → Bool
member_is_text row = option_map_or is_text row.1 true

-- whether the texts of all members are UTF-8
abbrev pub are_text : List MaybeMember → Bool
are_text rows = list_all member_is_text rows
