use Rattle.std.proofs.Common.{◌≡◌, not, bytes_eq, filter, rules}
use Rattle.std.proofs.lemmas.Fn.{filter_same}
use Rattle.memory_folder.specs.declared.entry.Entry.{Entry}
use Rattle.memory_folder.proofs.Gone.{gone_there}
use Rattle.memory_folder.proofs.Kept.{kept_after_drop}
use Rattle.memory_folder.proofs.folder.MemoryFolder.drop_entry.Goals as goal

pub returns : goal.returns
returns c =
    let entries = c.args.self.now.entries.items in
    let path = c.args.path.now in
    let is : c.retain.new.self.items ≡ filter (λ (entry : Entry). not (bytes_eq entry.path path)) entries =
    filter_same _ (λ (entry : Entry). not (bytes_eq entry.path path)) _ (λ x b f' k. search rules) _ _ c.retain.ensures.filtered in
    record {
      row = rw is (gone_there entries path c.requires);
      kept = λ other differs. rw is (kept_after_drop entries path other differs);
      waits = search rules;
    }
