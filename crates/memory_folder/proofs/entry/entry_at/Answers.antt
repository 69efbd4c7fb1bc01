use Rattle.std.proofs.Common.{rules, tests, bytes_eq}
use Rattle.std.proofs.lemmas.Iterator.{YieldsList-from_slice}
use Rattle.std.proofs.lemmas.Iterator.Search.{find_from_yields_List}
use Rattle.memory_folder.specs.declared.entry.Entry.{Entry}
use Rattle.memory_folder.proofs.entry.entry_at.Goals as goal

pub returns : goal.returns
returns c =
    find_from_yields_List (λ (entry : Entry). bytes_eq entry.path c.args.path.now) _ _ c.find.result c.find.ensures.ran
    (YieldsList-from_slice c.args.entries.now (search rules)) (λ x b q k. search (rules, tests))
