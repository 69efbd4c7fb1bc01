use Rattle.std.proofs.Common.{◌≡◌, ◌∙◌, ◌∷◌, [], Ok, ap, arith, length, length-append, refl, rules, subst, sym, All}
use Rattle.std.proofs.lemmas.List.Elements.{All-nil, All-push}
use Rattle.std.proofs.lemmas.List.Sums.{sum_by-take-le}
use Rattle.boot_base.specs.Paths.{Path}
use Rattle.boot_machine.specs.Prelude.{State, TakesAtMost, seen}
use Rattle.boot_machine.proofs.Reading.{reads_none, reads_on}
use Rattle.command_plans.specs.Prelude.{bytes_at, ReadErrorFor}
use Rattle.command_plans.proofs.Each.{each_none, each_taken}
use Rattle.command_plans.proofs.ReadErrors.{says_read_error}
use Rattle.type1_install.specs.Installing.{digesting_length}
use Rattle.type1_install.specs.Shown.{HasPayloadName, payload_at}
use Rattle.type1_install.proofs.Payloads.{taken_read_error}
use Rattle.type1_install.proofs.Taken.{last_read, more_read}
use Rattle.type1_install.proofs.payload.payloads_at.Goals as goal

pub loop-file-init : goal.loop-file-init
loop-file-init g c = record {
  found = λ told. each_none _ ∙ ap Ok (sym c.new-payloads.ensures.items);
  names = subst (All HasPayloadName) (sym c.new-payloads.ensures.items) (All-nil HasPayloadName);
  count = ap length c.new-payloads.ensures.items;
  reads = λ told. reads_none g.M.Machine.time g.M.Machine.state c.args.machine.now (λ m o left. g.met.M.Machine.only_now c.args.machine.now m o told left);
  counts = refl;
  taken = λ told. omega arith;
}

pub returns-in_err-payload-clause-says : goal.returns-in_err-payload-clause-says
returns-in_err-payload-clause-says g c told =
    let before = c.loop-file.invariant in
    let first = g.M.Machine.state c.args.machine.now in
    says_read_error c.from_residual.result c.in_err-payload.field-0.0 _ _ c.from_residual.ensures.0 c.from_residual.ensures.1
    (taken_read_error (payload_at (seen first)) c.args.files.now c.loop-file.file-index c.loop-file.payloads.items c.file-item.result c.file-item.result c.in_err-payload.field-0.0 c.loop-file-test.true (before.found told) c.file-item.is
    (subst (λ (s : State). ReadErrorFor c.in_err-payload.field-0.0 (payload_at (seen s) c.file-item.result)) (before.reads told).same (c.in_err-payload.ensures.says told)))

pub returns-in_err-payload-clause-looks : goal.returns-in_err-payload-clause-looks
returns-in_err-payload-clause-looks g c = record {
  reads = λ told. reads_on g.M.Machine.time g.M.Machine.state _ _ _ (c.loop-file.invariant.reads told) (c.payload_at.ensures.looks.reads told);
  counted = search rules;
}

pub returns-in_err-push-clause-looks : goal.returns-in_err-push-clause-looks
returns-in_err-push-clause-looks g c = record {
  reads = λ told. reads_on g.M.Machine.time g.M.Machine.state _ _ _ (c.loop-file.invariant.reads told) (c.payload_at.ensures.looks.reads told);
  counted = search rules;
}

pub loop-file-preserved : goal.loop-file-preserved
loop-file-preserved g c =
    let before = c.loop-file.invariant in
    let first = g.M.Machine.state c.args.machine.now in
    record {
      found = λ told.
          each_taken (payload_at (seen first)) c.args.files.now c.loop-file.file-index c.loop-file.payloads.items c.push.new.items.items c.file-item.result c.file-item.result c.in_ok-payload.payload c.loop-file-test.true (before.found told) c.file-item.is
          (subst (λ (s : State). payload_at (seen s) c.file-item.result ≡ Ok c.in_ok-payload.payload) (before.reads told).same (c.in_ok-payload.ensures.says told))
          c.in_ok-push.ensures;
      names = subst (All HasPayloadName) (sym c.in_ok-push.ensures) (All-push HasPayloadName c.loop-file.payloads.items c.in_ok-payload.payload before.names c.in_ok-payload.ensures.name);
      count = omega (arith, before.count, ap length c.in_ok-push.ensures, length-append c.loop-file.payloads.items (c.in_ok-payload.payload ∷ []));
      reads = λ told. reads_on g.M.Machine.time g.M.Machine.state _ _ _ (before.reads told) (c.payload_at.ensures.looks.reads told);
      counts = search rules;
      taken = λ told.
          more_read (λ (file : Path). digesting_length (bytes_at (seen first) file)) c.args.files.now c.loop-file.file-index c.file-item.result _ _ _ c.loop-file-test.true c.file-item.is
          (before.taken told)
          (subst (λ (s : State). TakesAtMost (digesting_length (bytes_at (seen s) c.file-item.result)) (g.M.Machine.taken c.loop-file.machine)
          (g.M.Machine.taken c.payload_at.new.machine)) (before.reads told).same (c.payload_at.ensures.taken told));
    }

pub returns-clause-count : goal.returns-clause-count
returns-clause-count g c = omega (arith, c.loop-file.invariant.count)

pub returns-in_err-payload-clause-taken : goal.returns-in_err-payload-clause-taken
returns-in_err-payload-clause-taken g c told =
    let before = c.loop-file.invariant in
    let first = g.M.Machine.state c.args.machine.now in
    last_read (λ (file : Path). digesting_length (bytes_at (seen first) file)) c.args.files.now c.loop-file.file-index c.file-item.result _ _ _ c.loop-file-test.true c.file-item.is
    (before.taken told)
    (subst (λ (s : State). TakesAtMost (digesting_length (bytes_at (seen s) c.file-item.result)) (g.M.Machine.taken c.loop-file.machine)
    (g.M.Machine.taken c.payload_at.new.machine)) (before.reads told).same (c.payload_at.ensures.taken told))

pub returns-in_err-push-clause-taken : goal.returns-in_err-push-clause-taken
returns-in_err-push-clause-taken g c told =
    let before = c.loop-file.invariant in
    let first = g.M.Machine.state c.args.machine.now in
    last_read (λ (file : Path). digesting_length (bytes_at (seen first) file)) c.args.files.now c.loop-file.file-index c.file-item.result _ _ _ c.loop-file-test.true c.file-item.is
    (before.taken told)
    (subst (λ (s : State). TakesAtMost (digesting_length (bytes_at (seen s) c.file-item.result)) (g.M.Machine.taken c.loop-file.machine)
    (g.M.Machine.taken c.payload_at.new.machine)) (before.reads told).same (c.payload_at.ensures.taken told))

pub returns-clause-taken : goal.returns-clause-taken
returns-clause-taken g c told =
    omega (
      arith,
      c.loop-file.invariant.taken told,
      sum_by-take-le (λ (file : Path). digesting_length (bytes_at (seen (g.M.Machine.state c.args.machine.now)) file)) c.args.files.now c.loop-file.file-index,
    )
