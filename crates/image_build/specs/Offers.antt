-- What the words of a build may give of its parts, as rows.
use Rattle.std.specs.Prelude.{List, map, unwrap_or, [], ◌∷◌, ◌++◌}
use Rattle.std.specs.Option.{option_map}
use Rattle.tool_words.specs.declared.command.Given.{Given}
use Rattle.tool_words.specs.declared.command.Given.TheVariants.{File}
use Rattle.uki_parts.specs.Kinds.{kind_name}
use Rattle.uki_parts.specs.declared.kind.PartKind.{PartKind}
use Rattle.image_build.specs.Building.{WantedPart, clean, given_list, optional_part}
use Rattle.image_build.specs.declared.build_words.Offer.{Offer}
use Rattle.image_build.specs.declared.build_words.Offer.TheVariants as offers

-- what is given of a part, as a list
abbrev pub offered : Offer → List Given
offered (offers.One given) = given_list given.now
offered (offers.Line given) = given_list (option_map clean given.now)
offered (offers.Files words) = map File words.now

-- the part of that kind, where something is given of it
abbrev pub offered_part : PartKind × Offer → List WantedPart
offered_part row = optional_part row.0 (unwrap_or (kind_name row.0) []) (offered row.1)

-- the parts of rows in turn, and more behind them
abbrev pub offered_parts : List (PartKind × Offer) → List WantedPart → List WantedPart
offered_parts [] more = more
offered_parts (row ∷ rows) more = offered_part row ++ offered_parts rows more
