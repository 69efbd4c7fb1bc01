-- Why an entry or a menu isn't told as JSON.
use Rattle.std.specs.Prelude.{◌≡◌, ◌<◌, Bool, true, false, List, length, position, find, slice_get, Some, Result, MatchResult}
use Rattle.menu_order.specs.declared.item.MenuItem.{MenuItem}
use Rattle.list_json.specs.declared.fault.JsonFault.{JsonFault}
use Rattle.list_json.specs.declared.fault.JsonFault.TheVariants as json
use Rattle.list_json.specs.declared.fault.Untold.{Untold}
use Rattle.list_json.specs.declared.fault.Untold.TheVariants as untold
use Rattle.list_json.specs.Menus.{is_untold}

-- why an entry isn't told: one of its texts isn't UTF-8, unless memory ran out
abbrev pub UntoldFor : Bool → Untold → Type 0
UntoldFor are_text untold.Memory = Unit {0}
UntoldFor are_text untold.NotText = are_text ≡ false

-- what was told is text, and what is said to be no text isn't
abbrev pub TellsText : {X : Type 0} → Result X Untold → Bool → Type 0
TellsText result are_text = MatchResult result (λ _. are_text ≡ true) (UntoldFor are_text)

-- the entry at that place is the first that JSON can't hold
abbrev pub IsCause : List MenuItem → JsonFault → Type 0
IsCause entries json.Memory = Unit {0}
IsCause entries (json.NotText index) =
    (index < length entries)
    × (position is_untold entries ≡ Some index)
    × (find is_untold entries ≡ slice_get entries index)
