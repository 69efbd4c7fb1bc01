use Rattle.std.proofs.Common.{sym, subst}
use Rattle.entry_commands.specs.Installing.{IsImageName}
use Rattle.entry_commands.proofs.ImageNames.{target_suffix}
use Rattle.entry_commands.proofs.install.installation_of.Goals as goal

pub returns-clause-image : goal.returns-clause-image
returns-clause-image c =
    target_suffix c.args.esp.now c.as_str.result.now c.in_ok-target.target (subst IsImageName (sym c.as_str.ensures.value) c.in_ok-image.ensures.name)
    c.in_ok-target.ensures
