use Rattle.std.proofs.Common.{◌≡◌, ◌++◌, map, take}
use Rattle.type1_install.specs.Shown.{put_in}
use Rattle.type1_install.proofs.installation.add_puts.Given as goal

abbrev pub invariant-loop-payload : goal.invariant-loop-payload
invariant-loop-payload l = record {
  made : l.commands.items ≡ l.initial.commands.items ++ map (put_in l.folder) (take l.payload-index l.payloads);
}
