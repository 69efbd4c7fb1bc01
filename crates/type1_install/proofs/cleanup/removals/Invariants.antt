use Rattle.std.proofs.Common.{◌≡◌, map, take}
use Rattle.tool_words.specs.declared.action.Action.TheVariants as action
use Rattle.type1_install.proofs.cleanup.removals.Given as goal

abbrev pub invariant-loop-path : goal.invariant-loop-path
invariant-loop-path l = record {
  made : l.commands.items ≡ map action.Remove (take l.path-index l.paths);
}
