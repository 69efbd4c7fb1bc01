use Rattle.std.proofs.Common.{bytes_eq, sym}
use Rattle.memory_folder.specs.declared.entry.Entry.{Entry}
use Rattle.memory_folder.proofs.Kept.{same_entry}
use Rattle.memory_folder.proofs.Moved.{moved_row, same_row}
use Rattle.memory_folder.proofs.Place.{is_there}
use Rattle.memory_folder.proofs.folder.MemoryFolder.move_file.Goals as goal

pub returns-then-eq-clause-row : goal.returns-then-eq-clause-row
returns-then-eq-clause-row c =
    let from = c.args.from.now in
    let entries = c.args.self.now.entries.items in
    let there = is_there (λ (entry : Entry). bytes_eq entry.path from) entries c.in_ok-at.at c.in_ok-at.ensures.place in
    same_row entries from c.args.to.now c.in_ok-at.ensures.named.0 there (sym c.if-eq.ensures)

pub returns-clause-row : goal.returns-clause-row
returns-clause-row c =
    let from = c.args.from.now in
    let entries = c.args.self.now.entries.items in
    let there = is_there (λ (entry : Entry). bytes_eq entry.path from) entries c.in_ok-at.at c.in_ok-at.ensures.place in
    moved_row entries c.move_entry.new.entries.items from c.args.to.now c.in_ok-at.ensures.named.0 c.in_ok-at.ensures.named.1 there
    c.move_entry.ensures.there c.move_entry.ensures.left

pub returns-clause-kept : goal.returns-clause-kept
returns-clause-kept c other not_from not_to =
    same_entry c.args.self.now.entries.items c.move_entry.new.entries.items other
    (c.move_entry.ensures.kept other not_from not_to)
