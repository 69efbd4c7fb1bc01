use Rattle.std.proofs.Common.{◌≡◌, map, take, Ok}
use Rattle.command_plans.specs.Prelude.{each, path_in}
use Rattle.image_commands.proofs.Parts.{given_of}
use Rattle.image_commands.specs.Calculating.{under_name}
use Rattle.image_commands.specs.Parts.{named_path}
use Rattle.image_commands.proofs.calculate.given_paths.Given as goal

abbrev pub invariant-loop-name : goal.invariant-loop-name
invariant-loop-name l = each (under_name path_in) (given_of (take l.name-index l.words)) ≡ Ok (map named_path l.paths.items)
