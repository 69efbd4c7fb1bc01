use Rattle.std.proofs.Common.{subst, sym, Result}
use Rattle.boot_base.specs.Layout.{images_below}
use Rattle.boot_base.specs.Paths.{Path, under}
use Rattle.boot_base.specs.declared.refusal.Refusal.{Refusal}
use Rattle.command_plans.specs.Prelude.{Means, ◌>>=◌, path_under}
use Rattle.entry_commands.proofs.install.image_path.Goals as goal

pub returns : goal.returns
returns c =
    subst
    (λ (esp : Result Path Refusal). Means (λ path. path) c.file_under.result (esp >>= λ esp. path_under esp (under images_below c.args.name.now)))
    (sym c.in_ok-esp.ensures) c.file_under.ensures
