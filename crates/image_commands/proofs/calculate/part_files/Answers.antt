use Rattle.std.proofs.Common.{◌∙◌, ◌++◌, ap, arith, sym, refl, rules}
use Rattle.boot_machine.proofs.Reading.{reads_none, reads_on}
use Rattle.command_plans.proofs.Each.{each_none, one_over}
use Rattle.image_commands.proofs.Parts.{file_more, size_more, file_refused}
use Rattle.image_commands.proofs.calculate.part_files.Goals as goal

pub loop-name-init : goal.loop-name-init
loop-name-init g c = record {
  left = sym c.into_iter-name-iterator.ensures.into_iter_gives.0;
  found = λ told. rw c.new-files.ensures.items (each_none _);
  sizes = λ told. search rules;
  reads = λ told. reads_none g.M.Machine.time g.M.Machine.state c.args.machine.now (λ m o left. g.met.M.Machine.only_now c.args.machine.now m o told left);
  counts = refl;
  taken = λ told. omega arith;
}

pub returns-in_err-file-clause-says : goal.returns-in_err-file-clause-says
returns-in_err-file-clause-says g c told =
    let before = c.loop-name.invariant in
    file_refused _ (g.M.Machine.state c.args.machine.now) (g.M.Machine.state c.loop-name.machine) c.args.paths.items c.loop-name.yielded c.next.new.self.rest.items c.loop-name.files.items _ _
    c.in_err-file.field-0.0 c.from_residual.result (before.reads told).same
    (before.left ∙ ap (λ l. c.loop-name.yielded ++ l) c.in-Some.ensures.steps.0) (before.found told) (c.in_err-file.ensures.says told)
    c.from_residual.ensures.0 c.from_residual.ensures.1

pub returns-in_err-file-clause-looks : goal.returns-in_err-file-clause-looks
returns-in_err-file-clause-looks g c = record {
  reads = λ told. reads_on g.M.Machine.time g.M.Machine.state _ _ _ (c.loop-name.invariant.reads told) (c.in_err-file.ensures.looks.reads told);
  counted = search rules;
}

pub loop-name-preserved : goal.loop-name-preserved
loop-name-preserved g c =
    let before = c.loop-name.invariant in
    record {
      left = before.left ∙ one_over c.loop-name.yielded _ c.loop-name.name-iterator.rest.items c.next.new.self.rest.items c.in-Some.ensures.steps.0;
      found = λ told.
          file_more (g.M.Machine.state c.args.machine.now) (g.M.Machine.state c.loop-name.machine) c.loop-name.yielded c.loop-name.files.items c.push.new.items.items _ _ c.in_ok-file.file
          (before.reads told).same (before.found told) (c.in_ok-file.ensures.says told) c.in_ok-push.ensures;
      sizes = λ told.
          size_more (g.M.Machine.state c.args.machine.now) (g.M.Machine.state c.loop-name.machine) c.loop-name.files.items c.push.new.items.items _ c.in_ok-file.file
          (before.reads told).same (before.sizes told) (c.in_ok-file.ensures.size told) c.in_ok-push.ensures;
      reads = λ told. reads_on g.M.Machine.time g.M.Machine.state _ _ _ (before.reads told) (c.in_ok-file.ensures.looks.reads told);
      counts = search rules;
      taken = λ told. omega (arith, before.taken told, c.in_ok-file.ensures.taken told);
    }

pub returns-in_err-push-clause-looks : goal.returns-in_err-push-clause-looks
returns-in_err-push-clause-looks g c = record {
  reads = λ told. reads_on g.M.Machine.time g.M.Machine.state _ _ _ (c.loop-name.invariant.reads told) (c.in_ok-file.ensures.looks.reads told);
  counted = search rules;
}
