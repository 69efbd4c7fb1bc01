use Rattle.std.proofs.Common.{ap, List, subst, ◌∙◌, rules, map}
use Rattle.pe_builder.specs.declared.size.PartSize.{PartSize}
use Rattle.pe_builder.specs.Planned.{PlansImage}
use Rattle.pe_builder.specs.Sizes.{size_of}
use Rattle.pe_reader.specs.Prelude.{headers_of}
use Rattle.image_build.proofs.Imaged.{plan_refused}
use Rattle.image_build.proofs.build_plan.image_plan.Goals as goal

pub returns-in_err-plan : goal.returns-in_err-plan
returns-in_err-plan c =
    let h = headers_of c.args.head.now in
    plan_refused (λ plan. PlansImage plan h c.args.stub.length c.deref.result.now c.args.in_place) h c.args.stub.length c.args.stub.path c.args.parts c.deref.result.now c.args.in_place c.args.sbat.items
    c.in_err-plan.field-0.0 c.from_residual-in_err-plan.result (c.deref.ensures.value ∙ c.in_ok-sizes.ensures.exact ∙ ap (map size_of) c.parts-2.ensures.items)
    c.in_err-plan.ensures c.from_residual-in_err-plan.ensures.0 c.from_residual-in_err-plan.ensures.1

pub returns : goal.returns
returns c =
    let sizes = c.deref.ensures.value ∙ c.in_ok-sizes.ensures.exact ∙ ap (map size_of) c.parts-2.ensures.items in
    record {
      plans = subst (λ (l : List PartSize). PlansImage c.in_ok-plan.plan (headers_of c.args.head.now) c.args.stub.length l c.args.in_place) sizes c.in_ok-plan.ensures.1;
      stub_is = search rules;
      parts_are = search rules;
      sbat_is = search rules;
    }
