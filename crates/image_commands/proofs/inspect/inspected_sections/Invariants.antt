use Rattle.std.proofs.Common.{◌≡◌, All, IsTrue, map, take, sum_by}
use Rattle.boot_machine.specs.Prelude.{OnlyReads, TakesAtMost, contents}
use Rattle.pcr_values.specs.Prelude.{bank_of}
use Rattle.pcr_values.specs.declared.bank.Bank.TheVariants as banks
use Rattle.list_json.specs.Sections.{facts_of}
use Rattle.image_commands.specs.Said.{section_facts}
use Rattle.stub_replay.specs.Measured.{raw_length}
use Rattle.image_commands.proofs.inspect.inspected_sections.Given as goal

abbrev pub invariant-loop-section : goal.invariant-loop-section
invariant-loop-section g l = record {
  found : IsTrue g.M.Machine.tells → map facts_of l.found.items ≡ map (section_facts (contents (g.M.Machine.state l.initial.machine).files l.path)) (take l.section-index l.section-items);
  sha256 : All (λ section. bank_of section.digest ≡ banks.Sha256) l.found.items;
  reads : IsTrue g.M.Machine.tells → OnlyReads g.M.Machine.time g.M.Machine.state l.initial.machine l.machine;
  counts : g.M.Machine.counts l.machine ≡ g.M.Machine.counts l.initial.machine;
  taken : IsTrue g.M.Machine.tells → TakesAtMost (sum_by raw_length (take l.section-index l.section-items)) (g.M.Machine.taken l.initial.machine) (g.M.Machine.taken l.machine);
}
