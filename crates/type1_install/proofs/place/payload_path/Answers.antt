use Rattle.std.proofs.Common.{◌∙◌, Err, ap}
use Rattle.type1_install.proofs.Places.{made_is, not_bad, payload_below}
use Rattle.type1_install.proofs.place.payload_path.Goals as goal

pub unreachable-requires : goal.unreachable-requires
unreachable-requires c = not_bad _ _ (c.under.ensures.bad (c.in-Err-BadPath.is ∙ ap Err c.in-Err-BadPath.field-0-is))
    (payload_below c.args.folder.now c.args.name.now c.requires.name c.know_normal.ensures.normal c.requires.room)

pub returns-in-Ok : goal.returns-in-Ok
returns-in-Ok c = made_is _ c.in-Ok.path _ c.in-Ok.ensures.ok (payload_below c.args.folder.now c.args.name.now c.requires.name c.know_normal.ensures.normal c.requires.room)
