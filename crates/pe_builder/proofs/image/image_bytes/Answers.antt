use Rattle.std.proofs.Common.{◌∙◌}
use Rattle.pe_builder.proofs.PlannedIs.{fitting, image_by-is, if_ok_more}
use Rattle.pe_builder.proofs.image.image_bytes.Goals as goal

pub build_bytes-requires : goal.build_bytes-requires
build_bytes-requires c = fitting c.args.plan.now c.args.stub.now c.args.sbat.now _ c.requires

pub returns : goal.returns
returns c =
    if_ok_more c.build_bytes.result _ _
    (λ v is h sizes in_place e p g. is ∙ image_by-is c.args.plan.now h sizes _ in_place c.args.sbat.now c.args.stub.now e p g)
    c.build_bytes.ensures
