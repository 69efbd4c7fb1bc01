use Rattle.std.proofs.Common.{◌≡◌, ◌<◌, ◌≤◌, ℕ, List, sym, ap, subst, ◌∙◌, arith, sum_by}
use Rattle.boot_base.specs.Paths.{Path}
use Rattle.boot_machine.specs.Prelude.{view, contents}
use Rattle.pe_reader.specs.declared.head.Head.{Head}
use Rattle.pe_builder.specs.Known.{planned_before, planned_stub_length}
use Rattle.image_writer.specs.Chunks.{behind_stub, new_stub_bytes}
use Rattle.image_writer.specs.Sourced.{new_sbat, part_list, parts_bytes, stub_path}
use Rattle.install_steps.proofs.Appending.{appends_on, appends-there, appends-source}
use Rattle.install_steps.specs.proofs.AppendLaws.{contents-view, grown_as, grown_from_none, ok_then}
use Rattle.uki_parts.specs.declared.part.Part.{Part}
use Rattle.image_writer.specs.Taken.{kept_length, part_reading}
use Rattle.image_writer.proofs.Assembled.{aligned, finished_bytes, kept_within}
use Rattle.image_writer.proofs.image.write_image.Goals as goal

pub write_parts-requires : goal.write_parts-requires
write_parts-requires g c = record {
  there = appends-there c.write_stub.ensures.appends c.requires.there;
}

pub returns-clause-appends : goal.returns-clause-appends
returns-clause-appends g c = appends_on c.in_ok-write_stub.ensures.appends c.write_parts.ensures.appends

pub returns-clause-image : goal.returns-clause-image
returns-clause-image g c = ok_then c.write_parts.result c.write_parts.ensures.grows (λ parts told h sizes in_place reads plans len.
    let m = (g.M.Machine.state c.args.machine.now).files in
    let files = contents (view m) in
    let plan = c.args.plan.now in
    let sources = c.args.sources.now in
    let stub = files (stub_path sources) in
    let is = c.requires.sourced told in
    let unit : 0 < c.stub_head.result.now.file_alignment =
    subst (λ (head : Head). 0 < head.file_alignment) (sym c.stub_head.ensures) (aligned plan stub (new_sbat sources) (parts_bytes files (part_list sources)) is.plan_is) in
    let back = parts told unit files (λ (q : Path) shown. contents-view m q shown ∙ sym (appends-source q c.know-2.ensures shown c.write_stub.ensures.appends told)) in
    let same : behind_stub files c.stub_head.result.now.file_alignment c.stub_length-stub_length.result c.parts.result.now
    ≡ behind_stub files (planned_before plan).file_alignment (planned_stub_length plan) (part_list sources) =
    ap (λ (head : Head). behind_stub files head.file_alignment c.stub_length-stub_length.result c.parts.result.now) c.stub_head.ensures
    ∙ ap (λ (n : ℕ). behind_stub files (planned_before plan).file_alignment n c.parts.result.now) c.stub_length-stub_length.ensures
    ∙ ap (behind_stub files (planned_before plan).file_alignment (planned_stub_length plan)) c.parts.ensures.items in
    grown_from_none _ _ _ _ _ _ _ (c.requires.empty told) (grown_as _ _ _ _ _
    (ap (λ (l : List ℕ). new_stub_bytes plan l (new_sbat sources)) (sym (contents-view m (stub_path sources) c.know.ensures.lasting))) (c.in_ok-write_stub.ensures.grows told)) back same
    ∙ finished_bytes plan stub (new_sbat sources) files (part_list sources) is.plan_is is.pieced h sizes in_place reads plans len)

pub returns-in_err-write_stub-clause-taken : goal.returns-in_err-write_stub-clause-taken
returns-in_err-write_stub-clause-taken g c told =
    let plan = c.args.plan.now in
    let within : kept_length plan ≤ planned_stub_length plan = kept_within plan _ _ _ (c.requires.sourced told).plan_is in
    omega (arith, within, c.write_stub.ensures.taken told)

pub returns-clause-taken : goal.returns-clause-taken
returns-clause-taken g c told =
    let plan = c.args.plan.now in
    let within : kept_length plan ≤ planned_stub_length plan = kept_within plan _ _ _ (c.requires.sourced told).plan_is in
    omega (arith, within, c.write_stub.ensures.taken told, c.write_parts.ensures.taken told, ap (λ (ps : List Part). sum_by part_reading ps) c.parts.ensures.items)
