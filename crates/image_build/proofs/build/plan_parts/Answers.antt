use Rattle.pe_reader.specs.Prelude.{headers_of}
use Rattle.image_build.proofs.Planning.{built_found, image_meant_by, planned_on}
use Rattle.image_build.proofs.Imaged.{refused_as}
use Rattle.image_build.specs.Imaged.{image_result}
use Rattle.image_build.proofs.build.plan_parts.Goals as goal

pub returns-in-Ok-clause-says : goal.returns-in-Ok-clause-says
returns-in-Ok-clause-says c view sizes reads =
    let built = c.args.built in
    image_meant_by view (image_result view (headers_of built.head) built.stub built.parts.items built.linux built.sbat.items) c.in-Ok.image built.output
    (c.in-Ok.ensures.images view (built_found view built c.requires sizes reads))

pub returns-in-Ok-clause-planned : goal.returns-in-Ok-clause-planned
returns-in-Ok-clause-planned c view sizes reads =
    planned_on view c.args.built c.in-Ok.image sizes reads c.in-Ok.ensures.own (c.in-Ok.ensures.images view (built_found view c.args.built c.requires sizes reads)).0

pub returns-in_ok-builder_refusal-in-Err-clause-says : goal.returns-in_ok-builder_refusal-in-Err-clause-says
returns-in_ok-builder_refusal-in-Err-clause-says c view sizes reads =
    let built = c.args.built in
    refused_as view (image_result view (headers_of built.head) built.stub built.parts.items built.linux built.sbat.items) c.in-Err.fault built.output
    c.in_ok-builder_refusal-in-Err.field-0 c.in_ok-builder_refusal-in-Err.ensures (c.in-Err.ensures.images view (built_found view built c.requires sizes reads))
