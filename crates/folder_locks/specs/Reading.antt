-- What is known of a file's bytes from an earlier read.
use Rattle.std.specs.Prelude.{◌≡◌, ℕ, List, length, take}
use Rattle.folder_locks.specs.declared.looked.LookedFile.{LookedFile}

-- what was kept of an open file are the first of these bytes
abbrev pub HasHead : {F : Type 0} → List ℕ → LookedFile F → Type 0
HasHead bytes looked = looked.head.items ≡ take (length looked.head.items) bytes
