-- What a blessing renames (systemd-bless-boot.service(8)).
use Rattle.std.specs.Prelude.{Bool, List, [], ◌∷◌, Option, Some, None, find, if◌then◌else◌}
use Rattle.menu_order.specs.declared.bless.BlessVerb.{BlessVerb}
use Rattle.menu_order.specs.declared.bless.BlessVerb.TheVariants.{Good, Bad, Indeterminate}
use Rattle.menu_order.specs.declared.bless.Present.{Present}
use Rattle.menu_order.specs.declared.bless.BlessChoice.{BlessChoice}
use Rattle.menu_order.specs.declared.bless.BlessChoice.TheVariants.{Nothing, FromGood, FromCounted, FromBad, NoSource}

-- the three names of an entry
pub data Name : Type 0 where
  GoodName : Name
  CountedName : Name
  BadName : Name

-- the name that a verb wants
abbrev pub target_of : BlessVerb → Name
target_of Good = GoodName
target_of Bad = BadName
target_of Indeterminate = CountedName

-- the names that a verb takes in its place, the first that is there
abbrev pub bless_sources : BlessVerb → List Name
bless_sources Good = CountedName ∷ BadName ∷ []
bless_sources Bad = CountedName ∷ GoodName ∷ []
bless_sources Indeterminate = GoodName ∷ BadName ∷ []

-- whether a name is there
abbrev pub is_there : Present → Name → Bool
is_there present GoodName = present.good
is_there present CountedName = present.counted
is_there present BadName = present.bad

-- the choice of a source
abbrev pub choice_from : Option Name → BlessChoice
choice_from (Some GoodName) = FromGood
choice_from (Some CountedName) = FromCounted
choice_from (Some BadName) = FromBad
choice_from None = NoSource

-- nothing where the target is there, else the first source that is
abbrev pub choice_of : BlessVerb → Present → BlessChoice
choice_of verb present =
    if is_there present (target_of verb) then Nothing else choice_from (find (is_there present) (bless_sources verb))
