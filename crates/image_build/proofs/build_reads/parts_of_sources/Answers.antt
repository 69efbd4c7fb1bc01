use Rattle.std.proofs.Common.{◌∙◌, ◌++◌, ap, sym, refl, rules, arith, map}
use Rattle.boot_machine.proofs.Reading.{reads_none, reads_on}
use Rattle.boot_machine.specs.Prelude.{State, contents, seen}
use Rattle.uki_parts.specs.declared.part.Part.{Part}
use Rattle.image_build.specs.Building.{part_bytes, part_named}
use Rattle.image_build.specs.Reads.{PartFrom, PartHasSizes, part_as}
use Rattle.image_build.proofs.BuiltImage.{all_more, mapped_cut, mapped_more, one_refused, zip_more}
use Rattle.command_plans.proofs.Each.{each_none, one_over}
use Rattle.image_build.proofs.build_reads.parts_of_sources.Goals as goal

pub loop-source-init : goal.loop-source-init
loop-source-init g c = record {
  left = sym c.into_iter-source-iterator.ensures.into_iter_gives.0;
  from = search rules;
  found = λ told. rw c.new-parts.ensures.items (each_none _);
  sizes = λ told. search rules;
  reads = λ told. reads_none g.M.Machine.time g.M.Machine.state c.args.machine.now (λ m o left. g.met.M.Machine.only_now c.args.machine.now m o told left);
  taken = λ told. omega arith;
  counts = refl;
}

pub returns-in_err-part-clause-says : goal.returns-in_err-part-clause-says
returns-in_err-part-clause-says g c told =
    let before = c.loop-source.invariant in
    let rest = c.next.new.self.rest.items in
    one_refused _ (λ (s : State). part_bytes (seen s)) (g.M.Machine.state c.args.machine.now) (g.M.Machine.state c.loop-source.machine)
    (map part_named c.args.sources.items) (map part_named c.loop-source.yielded) (map part_named rest) _
    (part_named c.in-Some.source) c.in_err-part.field-0.0 c.from_residual.result (before.reads told).same
    (mapped_cut part_named c.args.sources.items c.loop-source.yielded rest c.in-Some.source (before.left ∙ ap (λ l. c.loop-source.yielded ++ l) c.in-Some.ensures.steps.0))
    (before.found told) (c.in_err-part.ensures.says told) c.from_residual.ensures.0 c.from_residual.ensures.1

pub returns-in_err-part-clause-looks : goal.returns-in_err-part-clause-looks
returns-in_err-part-clause-looks g c = record {
  reads = λ told. reads_on g.M.Machine.time g.M.Machine.state _ _ _ (c.loop-source.invariant.reads told) (c.in_err-part.ensures.looks.reads told);
  counted = search rules;
}

pub loop-source-preserved : goal.loop-source-preserved
loop-source-preserved g c =
    let before = c.loop-source.invariant in
    record {
      left = before.left ∙ one_over c.loop-source.yielded c.in-Some.source c.loop-source.source-iterator.rest.items c.next.new.self.rest.items c.in-Some.ensures.steps.0;
      from =
          zip_more PartFrom c.loop-source.yielded c.loop-source.parts.items c.push.new.self.items c.in-Some.source c.in_ok-part.part before.from
          c.in_ok-part.ensures.from c.in_ok-push.ensures.items;
      found = λ told.
          mapped_more part_named (λ (s : State). part_bytes (seen s)) (λ (s : State). part_as (contents (seen s))) (g.M.Machine.state c.args.machine.now) (g.M.Machine.state c.loop-source.machine)
          c.loop-source.yielded c.loop-source.parts.items c.push.new.self.items c.in-Some.source c.in_ok-part.part
          (before.reads told).same (before.found told) (c.in_ok-part.ensures.says told) c.in_ok-push.ensures.items;
      sizes = λ told.
          all_more (λ (s : State) (part : Part). PartHasSizes (contents (seen s)) part) (g.M.Machine.state c.args.machine.now) (g.M.Machine.state c.loop-source.machine)
          c.loop-source.parts.items c.push.new.self.items c.in_ok-part.part (before.reads told).same (before.sizes told) (c.in_ok-part.ensures.sizes told) c.in_ok-push.ensures.items;
      reads = λ told. reads_on g.M.Machine.time g.M.Machine.state _ _ _ (before.reads told) (c.in_ok-part.ensures.looks.reads told);
      taken = λ told. omega (arith, before.taken told, c.in_ok-part.ensures.taken told);
      counts = search rules;
    }

pub returns-in_err-push-clause-looks : goal.returns-in_err-push-clause-looks
returns-in_err-push-clause-looks g c = record {
  reads = λ told. reads_on g.M.Machine.time g.M.Machine.state _ _ _ (c.loop-source.invariant.reads told) (c.in_ok-part.ensures.looks.reads told);
  counted = search rules;
}

pub returns-in_err-part-clause-taken : goal.returns-in_err-part-clause-taken
returns-in_err-part-clause-taken g c told = omega (arith, c.loop-source.invariant.taken told, c.in_err-part.ensures.taken told)

pub returns-in_err-push-clause-taken : goal.returns-in_err-push-clause-taken
returns-in_err-push-clause-taken g c told = omega (arith, c.loop-source.invariant.taken told, c.in_ok-part.ensures.taken told)
