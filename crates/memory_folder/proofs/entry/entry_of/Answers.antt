use Rattle.std.proofs.Common.{rules, tests, ◌==◌}
use Rattle.std.proofs.lemmas.Iterator.{YieldsList-from_slice}
use Rattle.std.proofs.lemmas.Iterator.Search.{find_from_yields_List}
use Rattle.memory_folder.specs.declared.entry.Entry.{Entry}
use Rattle.memory_folder.proofs.entry.entry_of.Goals as goal

pub returns-clause-first : goal.returns-clause-first
returns-clause-first c =
    find_from_yields_List (λ (entry : Entry). entry.inode == c.args.inode) _ _ c.find.result c.find.ensures.ran
    (YieldsList-from_slice c.args.entries.now (search rules)) (λ x b q k. search (rules, tests))
