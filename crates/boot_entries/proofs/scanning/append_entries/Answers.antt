-- One file more.
use Rattle.std.proofs.Common.{◌++◌, ℕ, List, refl, sym, ap, ◌∙◌, arith, append-nil, rules, option_to_list}
use Rattle.boot_base.specs.Paths.{under}
use Rattle.boot_machine.proofs.Reading.{reads_none, reads_on}
use Rattle.boot_machine.specs.Prelude.{State}
use Rattle.boot_entries.specs.Entries.{entry_if}
use Rattle.boot_entries.specs.Scanning.{read_limit}
use Rattle.boot_entries.proofs.Scans.{chosen_more, taken_more}
use Rattle.boot_entries.proofs.scanning.append_entries.Goals as goal

pub loop-name-init : goal.loop-name-init
loop-name-init g c = record {
  entries = λ told. sym (append-nil c.args.items.now.items);
  reads = λ told. reads_none g.M.Machine.time g.M.Machine.state c.args.machine.now (λ m o left. g.met.M.Machine.only_now c.args.machine.now m o told left);
  counts = refl;
  taken = λ told. omega arith;
}

pub loop-name-preserved : goal.loop-name-preserved
loop-name-preserved g c =
    let before = c.loop-name.invariant in
    let one = c.in_ok-append_entry.ensures in
    let files = (g.M.Machine.state c.args.machine.now).files in
    record {
      entries = λ told.
          chosen_more (λ (name : List ℕ). entry_if c.args.suffix files (under c.args.folder.now name)) c.args.items.now.items c.loop-name.items.items c.append_entry.new.items.items c.args.names.now c.loop-name.name-index c.name-item.result c.loop-name-test.true c.name-item.is
          (before.entries told)
          (one.entry told ∙ ap (λ (s : State). c.loop-name.items.items ++ option_to_list (entry_if c.args.suffix s.files (under c.args.folder.now c.name-item.result))) (before.reads told).same);
      reads = λ told. reads_on g.M.Machine.time g.M.Machine.state _ _ _ (before.reads told) (c.append_entry.ensures.looks.reads told);
      counts = one.looks.counted ∙ before.counts;
      taken = λ told. taken_more (read_limit c.args.suffix) c.loop-name.name-index _ _ _ (before.taken told) (one.taken told);
    }

pub returns-in_err-append_entry-clause-looks : goal.returns-in_err-append_entry-clause-looks
returns-in_err-append_entry-clause-looks g c = record {
  reads = λ told. reads_on g.M.Machine.time g.M.Machine.state _ _ _ (c.loop-name.invariant.reads told) (c.append_entry.ensures.looks.reads told);
  counted = search rules;
}
