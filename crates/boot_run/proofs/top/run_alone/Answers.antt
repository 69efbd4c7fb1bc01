use Rattle.std.proofs.Common.{refl, Ok}
use Rattle.tool_words.specs.declared.command.Command.TheVariants as command
use Rattle.boot_run.proofs.Taken.{takes_nothing}
use Rattle.boot_run.proofs.top.run_alone.Goals as goal

pub returns : goal.returns
returns g c = record {
  runs = c.run_lines.ensures.runs;
  synced = c.run_lines.ensures.synced;
  tidies = c.run_lines.ensures.tidies;
  rests = c.run_lines.ensures.rests;
  behind = c.run_lines.ensures.behind;
  input = λ told. takes_nothing (Ok (command.One c.args.command)) _ _ _ refl (c.run_lines.ensures.behaves.input told);
  temps = c.run_lines.ensures.behaves.temps;
  spares = λ told firm q temp off spared. c.run_lines.ensures.spares told firm q temp spared;
  counted = c.run_lines.ensures.behaves.counted;
}
