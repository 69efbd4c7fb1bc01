use Rattle.std.proofs.Common.{◌≡◌, ◌∙◌, arith, drop, refl, rules, subst, sym}
use Rattle.boot_machine.specs.Prelude.{State, fill_with_zeros, contents}
use Rattle.boot_machine.proofs.Pieces.{none_of}
use Rattle.boot_machine.proofs.Reading.{reads_none, reads_on}
use Rattle.type1_install.proofs.SameBytes.{alike_more}
use Rattle.type1_install.proofs.alike.are_alike.Goals as goal

pub loop-done-init : goal.loop-done-init
loop-done-init g c =
    let files = (g.M.Machine.state c.args.machine.now).files in
    record {
      within = omega arith;
      same = λ told. sym (none_of (contents files c.args.first.now)) ∙ none_of (contents files c.args.second.now);
      reads =
          λ told.
          reads_none g.M.Machine.time g.M.Machine.state c.args.machine.now
          (λ m o left. g.met.M.Machine.only_now c.args.machine.now m o told left);
      counts = refl;
      taken = λ told. omega arith;
    }

pub returns-in_err-count-clause-looks : goal.returns-in_err-count-clause-looks
returns-in_err-count-clause-looks g c = record {
  reads = λ told. reads_on g.M.Machine.time g.M.Machine.state c.args.machine.now c.loop-done.machine c.same_piece.new.machine
      (c.loop-done.invariant.reads told) (c.same_piece.ensures.looks.reads told);
  counted = search rules;
}

pub returns-then-count-eq0-clause-looks : goal.returns-then-count-eq0-clause-looks
returns-then-count-eq0-clause-looks g c = record {
  reads = λ told. reads_on g.M.Machine.time g.M.Machine.state c.args.machine.now c.loop-done.machine c.same_piece.new.machine
      (c.loop-done.invariant.reads told) (c.same_piece.ensures.looks.reads told);
  counted = search rules;
}

pub loop-done-preserved : goal.loop-done-preserved
loop-done-preserved g c =
    let before = c.loop-done.invariant in
    let done = c.loop-done.done in
    let count = c.in_ok-count.count in
    let first = c.args.first.now in
    let second = c.args.second.now in
    let files = (g.M.Machine.state c.args.machine.now).files in
    let next = λ (s : State). fill_with_zeros (drop done (contents s.files first)) count ≡ fill_with_zeros (drop done (contents s.files second)) count in
    record {
      within = omega (arith, c.in_ok-count.ensures.within);
      same =
          λ told.
          alike_more (contents files first) (contents files second) done count (before.same told)
          (subst next (before.reads told).same (c.in_ok-count.ensures.same told));
      reads =
          λ told.
          reads_on g.M.Machine.time g.M.Machine.state c.args.machine.now c.loop-done.machine c.same_piece.new.machine
          (before.reads told) (c.same_piece.ensures.looks.reads told);
      counts = search rules;
      taken = λ told. omega (arith, before.taken told, c.in_ok-count.ensures.taken_same told (omega (arith, c.if-count-eq0.false)));
    }

pub returns-in_err-count-clause-taken : goal.returns-in_err-count-clause-taken
returns-in_err-count-clause-taken g c told = omega (arith, c.loop-done.invariant.taken told, c.same_piece.ensures.taken told)

pub returns-then-count-eq0-clause-taken : goal.returns-then-count-eq0-clause-taken
returns-then-count-eq0-clause-taken g c told = omega (arith, c.loop-done.invariant.taken told, c.same_piece.ensures.taken told)

pub returns-clause-taken : goal.returns-clause-taken
returns-clause-taken g c told = omega (arith, c.loop-done.invariant.taken told)
