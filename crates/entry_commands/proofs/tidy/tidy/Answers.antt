use Rattle.install_steps.specs.Steps.{Lacks}
use Rattle.entry_commands.proofs.Leftovers.{clean_after}
use Rattle.entry_commands.proofs.tidy.tidy.Goals as goal

pub returns-clause-tidies : goal.returns-clause-tidies
returns-clause-tidies g c told files dropped =
    let old = (g.M.Machine.state c.args.machine.now).files in
    let temps = c.in_ok-temps.temps.items in
    let lacks : Lacks temps old files = dropped in (
      clean_after old files c.args.folders.now.entries temps (c.in_ok-temps.ensures.entries told) lacks,
      clean_after old files c.args.folders.now.images temps (c.in_ok-temps.ensures.images told) lacks,
    )
