use Rattle.std.proofs.Common.{◌∙◌, map, sym, subst, rules}
use Rattle.boot_machine.specs.Prelude.{contents, seen}
use Rattle.pcr_values.specs.Prelude.{HasDistinctBanks}
use Rattle.pcr_values.proofs.Distinct.{distinct_registers}
use Rattle.boot_machine.proofs.Reading.{looks_none, looks_on}
use Rattle.image_commands.specs.Parts.{named_file, named_path}
use Rattle.image_commands.proofs.Calculated.{registers_of, taken_of}
use Rattle.image_commands.proofs.Registers.{calculation_is}
use Rattle.image_commands.proofs.calculate.calculate_result.Goals as goal

pub returns-in_err-paths-clause-looks : goal.returns-in_err-paths-clause-looks
returns-in_err-paths-clause-looks g c = looks_none (g.met.M.Machine.only_now c.args.machine.now) (search rules)

pub returns-in_err-registers-clause-looks : goal.returns-in_err-registers-clause-looks
returns-in_err-registers-clause-looks g c = looks_on c.part_files.ensures.looks c.registers.ensures.looks (search rules)

pub told_values-requires-clause-banks : goal.told_values-requires-clause-banks
told_values-requires-clause-banks g c =
    subst HasDistinctBanks (sym c.deref-3.ensures.value)
    (distinct_registers c.in_ok-registers.registers.items c.in_ok-banks.banks.items (c.in_ok-registers.ensures.banks ∙ c.deref-2.ensures.value) c.in_ok-banks.ensures.distinct)

pub returns-in_err-told_values-clause-looks : goal.returns-in_err-told_values-clause-looks
returns-in_err-told_values-clause-looks g c = looks_on c.part_files.ensures.looks c.registers.ensures.looks (search rules)

pub returns-clause-says : goal.returns-clause-says
returns-clause-says g c told =
    let s = g.M.Machine.state c.args.machine.now in
    calculation_is (seen s) c.args.words.now (map named_path c.in_ok-paths.paths.items) (map (named_file (contents (seen s))) c.in_ok-files.files.items)
    c.in_ok-banks.banks.items c.deref-4.result.now c.in_ok-registers.registers.items c.deref-3.result.now c.in_ok-told_values.field-0.items
    c.in_ok-paths.ensures (c.in_ok-files.ensures.says told)
    (registers_of s (g.M.Machine.state c.part_files.new.machine) c.in_ok-files.files.items c.deref.result.now c.in_ok-banks.banks.items
    c.deref-2.result.now c.in_ok-registers.registers.items (c.part_files.ensures.looks.reads told).same
    c.deref.ensures.value c.deref-2.ensures.value (c.in_ok-registers.ensures.says told) (c.in_ok-files.ensures.sizes told))
    c.deref-3.ensures.value (search rules) (search rules) c.in_ok-told_values.ensures

pub returns-clause-looks : goal.returns-clause-looks
returns-clause-looks g c = looks_on c.part_files.ensures.looks c.registers.ensures.looks (search rules)

pub returns-in_err-registers-clause-taken : goal.returns-in_err-registers-clause-taken
returns-in_err-registers-clause-taken g c told =
    let s = g.M.Machine.state c.args.machine.now in
    taken_of s (g.M.Machine.state c.part_files.new.machine) c.args.words.now (map named_path c.in_ok-paths.paths.items) c.in_ok-files.files.items
    c.deref.result.now _ _ _ (c.part_files.ensures.looks.reads told).same c.deref.ensures.value
    c.in_ok-paths.ensures (c.in_ok-files.ensures.says told) (c.in_ok-files.ensures.sizes told) (c.part_files.ensures.taken told) (c.registers.ensures.taken told)

pub returns-in_err-told_values-clause-taken : goal.returns-in_err-told_values-clause-taken
returns-in_err-told_values-clause-taken g c told =
    let s = g.M.Machine.state c.args.machine.now in
    taken_of s (g.M.Machine.state c.part_files.new.machine) c.args.words.now (map named_path c.in_ok-paths.paths.items) c.in_ok-files.files.items
    c.deref.result.now _ _ _ (c.part_files.ensures.looks.reads told).same c.deref.ensures.value
    c.in_ok-paths.ensures (c.in_ok-files.ensures.says told) (c.in_ok-files.ensures.sizes told) (c.part_files.ensures.taken told) (c.registers.ensures.taken told)

pub returns-clause-taken : goal.returns-clause-taken
returns-clause-taken g c told =
    let s = g.M.Machine.state c.args.machine.now in
    taken_of s (g.M.Machine.state c.part_files.new.machine) c.args.words.now (map named_path c.in_ok-paths.paths.items) c.in_ok-files.files.items
    c.deref.result.now _ _ _ (c.part_files.ensures.looks.reads told).same c.deref.ensures.value
    c.in_ok-paths.ensures (c.in_ok-files.ensures.says told) (c.in_ok-files.ensures.sizes told) (c.part_files.ensures.taken told) (c.registers.ensures.taken told)
