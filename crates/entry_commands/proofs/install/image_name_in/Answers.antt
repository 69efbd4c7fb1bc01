use Rattle.menu_order.specs.declared.counted.Suffix.TheVariants.{Efi}
use Rattle.command_plans.proofs.InstallNames.{taken_slash}
use Rattle.entry_commands.proofs.ImageNames.{image_file}
use Rattle.entry_commands.proofs.install.image_name_in.Goals as goal

pub returns-clause-name : goal.returns-clause-name
returns-clause-name c =
    image_file c.args.name.now _ c.in_ok-tries.tries (taken_slash Efi c.args.name.now _ c.in_ok-check_name.ensures) c.in_ok-tries.ensures.limit c.in_ok-image_name.ensures
