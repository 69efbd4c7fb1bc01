use Rattle.std.proofs.Common.{◌∙◌, Err, ap}
use Rattle.type1_install.proofs.Places.{folder_below, made_is, not_bad}
use Rattle.type1_install.proofs.place.folder_below.Goals as goal

pub unreachable-requires : goal.unreachable-requires
unreachable-requires c = not_bad _ _ (c.under.ensures.bad (c.in-Err-BadPath.is ∙ ap Err c.in-Err-BadPath.field-0-is)) (folder_below c.args.esp.now c.know_normal.ensures.normal c.requires)

pub returns-in-Ok : goal.returns-in-Ok
returns-in-Ok c = made_is _ c.in-Ok.folder _ c.in-Ok.ensures.ok (folder_below c.args.esp.now c.know_normal.ensures.normal c.requires)
