use Rattle.std.proofs.Common.{subst, sym, ap, arith, rules, length, ◌∙◌, All}
use Rattle.std.proofs.lemmas.List.Sums.{sum_by-take-le}
use Rattle.boot_machine.specs.Prelude.{contents}
use Rattle.stub_replay.specs.declared.measurable.Measurable.{Measurable}
use Rattle.stub_replay.specs.Measured.{measured_names, section_items}
use Rattle.stub_replay.specs.Parts.{HaveSizes, IsPlaced, IsWhole, files_length}
use Rattle.stub_replay.proofs.Pushed.{contents_pushed}
use Rattle.stub_replay.proofs.Turns.{items_all, name_at, names_end}
use Rattle.image_build.specs.Planning.{section_bytes}
use Rattle.image_build.proofs.Taken.{short_more}
use Rattle.image_build.proofs.Values.{image_items, image_long, section_more}
use Rattle.image_build.proofs.build_values.measured_parts.Goals as goal

pub loop-name-preserved : goal.loop-name-preserved
loop-name-preserved c =
    let before = c.loop-name.invariant in
    let at = name_at c.measured_names-name-items.result.now c.loop-name.name-index _ c.measured_names-name-items.ensures (omega arith) in
    let parts = c.loop-name.parts.items in
    let content = c.section_content.result in
    let is = sym c.in_ok-push_part.ensures.ok in
    record {
      items = λ view on.
          section_more (contents view) (section_bytes view c.args.plan.now on.own.in_place) c.loop-name.name-index parts _ _ content c.in_ok-push_part.ensures.ok
          (before.items view on) (c.section_content.ensures.holds view on).bytes_are at;
      whole = λ view on. subst (HaveSizes (contents view)) is (contents_pushed (IsWhole (contents view)) parts _ content (c.section_content.ensures.holds view on).whole (before.whole view on));
      short = λ view on.
          short_more (contents view) (section_bytes view c.args.plan.now on.own.in_place) c.loop-name.name-index parts _ _ content c.in_ok-push_part.ensures.ok
          (before.short view on) (c.section_content.ensures.holds view on).bytes_are (c.section_content.ensures.holds view on).whole at;
      placed = subst (All (λ (part : Measurable). IsPlaced part.content)) is (contents_pushed IsPlaced parts _ content c.section_content.ensures.placed before.placed);
    }

pub returns-clause-items : goal.returns-clause-items
returns-clause-items c view on =
    c.loop-name.invariant.items view on
    ∙ items_all (λ n. section_items n (section_bytes view c.args.plan.now on.own.in_place n)) c.loop-name.name-index
    (names_end c.measured_names-name-items.result.now c.loop-name.name-index c.measured_names-name-items.ensures (omega arith))
    ∙ image_items view c.args.plan.now on

pub loop-name-init : goal.loop-name-init
loop-name-init c = record {
  items = search rules;
  whole = search rules;
  short = λ view on. omega (arith, ap files_length c.new-parts.ensures.items);
  placed = search rules;
}

pub returns-clause-short : goal.returns-clause-short
returns-clause-short c view on =
    omega (
      arith,
      c.loop-name.invariant.short view on,
      sum_by-take-le (λ name. length (section_bytes view c.args.plan.now on.own.in_place name)) measured_names c.loop-name.name-index,
      image_long view c.args.plan.now on,
    )
