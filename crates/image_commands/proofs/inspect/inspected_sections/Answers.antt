use Rattle.std.proofs.Common.{◌≡◌, rules, refl, ap, arith}
use Rattle.boot_machine.specs.Prelude.{State, contents}
use Rattle.pe_reader.specs.Prelude.{headers_of}
use Rattle.boot_machine.proofs.Reading.{reads_none, reads_on}
use Rattle.pcr_values.specs.Prelude.{bank_of}
use Rattle.pcr_values.specs.declared.bank.Bank.TheVariants as banks
use Rattle.list_json.specs.declared.inspection.Inspected.{Inspected}
use Rattle.image_commands.proofs.Inspecting.{all_more, item_inside, facts_more, unwrapped}
use Rattle.image_commands.proofs.Taking.{all_sections_taken, sections_taken}
use Rattle.command_plans.proofs.ReadErrors.{says_read_error, unrefused}
use Rattle.image_commands.proofs.inspect.inspected_sections.Goals as goal

pub loop-section-init : goal.loop-section-init
loop-section-init g c = record {
  found = λ told. search rules;
  sha256 = search rules;
  reads = λ told. reads_none g.M.Machine.time g.M.Machine.state c.args.machine.now (λ m o left. g.met.M.Machine.only_now c.args.machine.now m o told left);
  counts = refl;
  taken = λ told. omega arith;
}

pub returns-in_err-section-clause-looks : goal.returns-in_err-section-clause-looks
returns-in_err-section-clause-looks g c = record {
  reads =
      λ told. reads_on g.M.Machine.time g.M.Machine.state c.args.machine.now c.loop-section.machine c.inspected_section.new.machine
      (c.loop-section.invariant.reads told) (c.inspected_section.ensures.looks.reads told);
  counted = search rules;
}

pub returns-in_err-section-clause-says : goal.returns-in_err-section-clause-says
returns-in_err-section-clause-says g c told =
    let same = ap (λ (s : State). contents s.files c.args.path.now) (c.loop-section.invariant.reads told).same in
    says_read_error c.from_residual.result c.in_err-section.field-0.0 _ _ c.from_residual.ensures.0 c.from_residual.ensures.1
    (unrefused c.in_err-section.field-0.0 _ _ (c.in_err-section.ensures.says told
    (item_inside (contents (g.M.Machine.state c.args.machine.now).files c.args.path.now) _ (headers_of c.args.head.now)
    c.sections-section-items.result.now c.loop-section.section-index _ (c.requires.head
    told) same c.sections-section-items.ensures c.loop-section-test.true)))

pub loop-section-preserved : goal.loop-section-preserved
loop-section-preserved g c =
    let before = c.loop-section.invariant in
    record {
      found = λ told.
          let same = ap (λ (s : State). contents s.files c.args.path.now) (before.reads told).same in
          facts_more (contents (g.M.Machine.state c.args.machine.now).files c.args.path.now) _ c.sections-section-items.result.now
          c.loop-section.section-index _ c.loop-section.found.items c.push.new.items.items c.in_ok-section.section c.loop-section-test.true same
          (before.found told) (search rules)
          (unwrapped _ _ _ _ refl refl (c.in_ok-section.ensures.says told
          (item_inside (contents (g.M.Machine.state c.args.machine.now).files c.args.path.now) _ (headers_of c.args.head.now)
          c.sections-section-items.result.now c.loop-section.section-index _ (c.requires.head
          told) same c.sections-section-items.ensures c.loop-section-test.true)));
      sha256 =
          all_more (λ (section : Inspected). bank_of section.digest ≡ banks.Sha256) c.loop-section.found.items c.push.new.items.items
          c.in_ok-section.section before.sha256 c.in_ok-section.ensures.sha256 (search rules);
      reads =
          λ told. reads_on g.M.Machine.time g.M.Machine.state c.args.machine.now c.loop-section.machine c.inspected_section.new.machine
          (before.reads told) (c.inspected_section.ensures.looks.reads told);
      counts = search rules;
      taken = λ told. sections_taken c.sections-section-items.result.now c.loop-section.section-index _ _ _ _ c.loop-section-test.true (before.taken told) (c.inspected_section.ensures.taken told);
    }

pub returns-in_err-section-clause-taken : goal.returns-in_err-section-clause-taken
returns-in_err-section-clause-taken g c told =
    all_sections_taken c.sections-section-items.result.now _ _ _ _ c.sections-section-items.ensures
    (sections_taken c.sections-section-items.result.now c.loop-section.section-index _ _ _ _ c.loop-section-test.true (c.loop-section.invariant.taken told) (c.inspected_section.ensures.taken told))

pub returns-clause-taken : goal.returns-clause-taken
returns-clause-taken g c told = all_sections_taken c.sections-section-items.result.now _ _ _ _ c.sections-section-items.ensures (c.loop-section.invariant.taken told)

pub returns-in_err-push-clause-looks : goal.returns-in_err-push-clause-looks
returns-in_err-push-clause-looks g c = record {
  reads =
      λ told. reads_on g.M.Machine.time g.M.Machine.state c.args.machine.now c.loop-section.machine c.inspected_section.new.machine
      (c.loop-section.invariant.reads told) (c.inspected_section.ensures.looks.reads told);
  counted = search rules;
}

pub returns-in_err-push-clause-taken : goal.returns-in_err-push-clause-taken
returns-in_err-push-clause-taken g c told =
    all_sections_taken c.sections-section-items.result.now _ _ _ _ c.sections-section-items.ensures
    (sections_taken c.sections-section-items.result.now c.loop-section.section-index _ _ _ _ c.loop-section-test.true (c.loop-section.invariant.taken told) (c.inspected_section.ensures.taken told))
