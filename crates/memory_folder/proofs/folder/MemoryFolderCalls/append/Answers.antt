use Rattle.std.proofs.Common.{refl, sym}
use Rattle.memory_folder.proofs.Kept.{bytes_after_write, names_after_write}
use Rattle.memory_folder.proofs.Place.{extended_there}
use Rattle.memory_folder.proofs.folder.MemoryFolderCalls.append.Goals as goal

pub returns-clause-row : goal.returns-clause-row
returns-clause-row c tells =
    let entry = c.index_mut-entry.result.now in
    extended_there c.args.self.now.entries.items c.args.file.now.inode c.in-Some.at entry
    (record { path = entry.path; kind = entry.kind; bytes = c.extend_from_slice.new.self; inode = entry.inode })
    c.args.bytes.now (sym c.in-Some.ensures.place) c.index_mut-entry.ensures.value refl
    c.in_ok-extend_from_slice.ensures.items

pub returns-clause-kept : goal.returns-clause-kept
returns-clause-kept c tells =
    let entry = c.index_mut-entry.result.now in
    names_after_write c.args.self.now.entries.items c.in-Some.at entry
    (record { path = entry.path; kind = entry.kind; bytes = c.extend_from_slice.new.self; inode = entry.inode })
    c.index_mut-entry.ensures.value refl refl

pub returns-clause-others : goal.returns-clause-others
returns-clause-others c tells =
    let entry = c.index_mut-entry.result.now in
    bytes_after_write c.args.self.now.entries.items c.args.file.now.inode c.in-Some.at entry
    (record { path = entry.path; kind = entry.kind; bytes = c.extend_from_slice.new.self; inode = entry.inode })
    (sym c.in-Some.ensures.place) c.index_mut-entry.ensures.value refl

-- without memory for them the entry is written back as well
pub returns-in_err-extend_from_slice-clause-kept : goal.returns-in_err-extend_from_slice-clause-kept
returns-in_err-extend_from_slice-clause-kept c tells =
    let entry = c.index_mut-entry.result.now in
    names_after_write c.args.self.now.entries.items c.in-Some.at entry
    (record { path = entry.path; kind = entry.kind; bytes = c.extend_from_slice.new.self; inode = entry.inode })
    c.index_mut-entry.ensures.value refl refl

pub returns-in_err-extend_from_slice-clause-others : goal.returns-in_err-extend_from_slice-clause-others
returns-in_err-extend_from_slice-clause-others c tells =
    let entry = c.index_mut-entry.result.now in
    bytes_after_write c.args.self.now.entries.items c.args.file.now.inode c.in-Some.at entry
    (record { path = entry.path; kind = entry.kind; bytes = c.extend_from_slice.new.self; inode = entry.inode })
    (sym c.in-Some.ensures.place) c.index_mut-entry.ensures.value refl
