-- The laws of the order of entries and of menus.
use Rattle.std.specs.Prelude.{◌≡◌, ◌≢◌, ◌↔◌, List, ◌∷◌, ◌++◌, All, AllPairs, Contains}
use Rattle.std.specs.declared.cmp.Ordering.TheVariants.{Equal}
use Rattle.menu_order.specs.declared.item.MenuItem.{MenuItem}
use Rattle.menu_order.specs.Parts.{parts_of}
use Rattle.menu_order.specs.Rules.{Rule, menu_rules, menu_cmp}
use Rattle.menu_order.specs.Menu.{IsBefore, IsMenu, HaveOwnPaths, menu_of}

-- no two entries are equal in the order but those of which no compared part differs
abbrev pub EqualParts : Type 0
EqualParts = (a b : MenuItem) → (menu_cmp a b ≡ Equal) ↔ (parts_of a ≡ parts_of b)

-- two entries go as the first rule by which they differ
abbrev pub FirstRule : Type 0
FirstRule =
    (a b : MenuItem) (before : List Rule) (rule : Rule) (later : List Rule)
    → menu_rules ≡ before ++ rule ∷ later
    → All (λ other. other (parts_of a) (parts_of b) ≡ Equal) before
    → rule (parts_of a) (parts_of b) ≢ Equal
    → menu_cmp a b ≡ rule (parts_of a) (parts_of b)

-- two lists with the same entries, in which each is before every later one, are one list
abbrev pub OneMenu : Type 0
OneMenu =
    (menu other : List MenuItem)
    → ((item : MenuItem) → Contains menu item ↔ Contains other item)
    → AllPairs IsBefore menu
    → AllPairs IsBefore other
    → menu ≡ other

-- entries with paths of their own have a menu
abbrev pub MenuOf : Type 0
MenuOf = (items : List MenuItem) → HaveOwnPaths items → IsMenu (Contains items) (menu_of items)
