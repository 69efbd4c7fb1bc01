use Rattle.std.proofs.Common.{◌≡◌, [], ◌∷◌, ◌++◌, ap, option_map}
use Rattle.folder_calls.specs.Calls.{inode_of}
use Rattle.memory_folder.specs.declared.entry.Entry.{Entry}
use Rattle.memory_folder.proofs.Added.{added_there}
use Rattle.memory_folder.proofs.Kept.{kept_after_add}
use Rattle.memory_folder.proofs.folder.MemoryFolder.add.Goals as goal

pub returns-clause-stands : goal.returns-clause-stands
returns-clause-stands c =
    let entry : Entry = record {
      path = c.in_ok-path.path;
      kind = c.args.kind;
      bytes = c.args.bytes;
      inode = c.in-Some.inode;
    } in
    let before = c.args.self.now.entries.items in
    let pushed : c.push.new.self.items ≡ before ++ entry ∷ [] = c.in_ok-push.ensures.items in
    rw pushed (added_there before entry c.args.path.now c.in_ok-path.ensures c.in_ok-require_new.ensures)

pub returns-clause-row : goal.returns-clause-row
returns-clause-row c =
    record { free = c.in_ok-require_new.ensures; there = ap (option_map inode_of) (returns-clause-stands c) }

pub returns-clause-kept : goal.returns-clause-kept
returns-clause-kept c other differs =
    let entry : Entry = record {
      path = c.in_ok-path.path;
      kind = c.args.kind;
      bytes = c.args.bytes;
      inode = c.in-Some.inode;
    } in
    let before = c.args.self.now.entries.items in
    let pushed : c.push.new.self.items ≡ before ++ entry ∷ [] = c.in_ok-push.ensures.items in
    rw pushed (kept_after_add before entry c.args.path.now c.in_ok-path.ensures other differs)
