use Rattle.std.proofs.Common.{◌≡◌, take, Ok}
use Rattle.command_plans.specs.Prelude.{each}
use Rattle.type1_install.specs.Installing.{install_source}
use Rattle.type1_install.proofs.install_words.check_initrds.Given as goal

abbrev pub invariant-loop-path : goal.invariant-loop-path
invariant-loop-path l = each (install_source l.place.esp) (take l.path-index l.paths) ≡ Ok (take l.path-index l.paths)
