use Rattle.std.proofs.Common.{◌≡◌, take, Ok}
use Rattle.command_plans.specs.Prelude.{path_in, each}
use Rattle.type1_install.proofs.install_words.paths_in.Given as goal

abbrev pub invariant-loop-word : goal.invariant-loop-word
invariant-loop-word l = each path_in (take l.word-index l.words) ≡ Ok l.paths.items
