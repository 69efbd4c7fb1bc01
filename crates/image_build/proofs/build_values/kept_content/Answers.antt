use Rattle.std.proofs.Common.{◌≡◌, Ok, ap, subst, ◌∙◌}
use Rattle.boot_base.specs.Paths.{Path}
use Rattle.boot_machine.specs.Prelude.{contents}
use Rattle.pe_reader.specs.Prelude.{pe_of, loaded_bytes, headers_of}
use Rattle.image_build.specs.Planning.{IsContent, kept_bytes, stub_bytes}
use Rattle.image_build.proofs.Values.{kept_not_named, kept_not_placed}
use Rattle.image_build.proofs.build_values.kept_content.Goals as goal
use Rattle.image_build.proofs.build_values.kept_content.Goals.{else-eq-via-then-eq+else-is_some, else-eq-via-else-eq}

pub returns-clause-holds : goal.returns-clause-holds
returns-clause-holds c view on =
    let plan = c.args.plan.now in
    let name = c.args.name.now in
    let kept : loaded_bytes (stub_bytes view plan) name ≡ kept_bytes view plan on.own.in_place name =
    elim c.else-eq.branch [
      | else-eq-via-then-eq+else-is_some w ↦ kept_not_placed view plan on name (cc (w.sbat_place.ensures, w.is_some.ensures, w.if-is_some.false))
      | else-eq-via-else-eq w ↦ kept_not_named view plan on name (cc (c.eq.ensures, c.as_slice.ensures, w.if-eq.false))
    ]
    in
    let reads : pe_of (contents view c.stub.result.now) ≡ Ok (headers_of plan.head) = ap (λ (path : Path). pe_of (contents view path)) c.stub.ensures ∙ on.reads in
    subst (IsContent (contents view) c.stub_content.result) (ap (λ (path : Path). loaded_bytes (contents view path) name) c.stub.ensures ∙ kept) (c.stub_content.ensures.holds (contents view) reads)
