use Rattle.std.proofs.Common.{◌≡◌, IsTrue, map, string_bytes, take}
use Rattle.folder_machine.specs.Listing.{files_in}
use Rattle.folder_machine.proofs.listing.files_among.Given as goal

-- the files among the names so far
abbrev pub invariant-loop-name : goal.invariant-loop-name
invariant-loop-name g l = IsTrue g.C.Calls.tells
    → l.files.items ≡ files_in (g.C.Calls.tree l.calls) l.folder (map string_bytes (take l.name-index l.names))
