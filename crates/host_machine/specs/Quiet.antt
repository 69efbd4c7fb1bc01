-- What the real folder tells: nothing.
use Rattle.std.specs.Prelude.{false, [], None}
use Rattle.name_syncs.specs.Waiting.{Waiting}
use Rattle.folder_calls.specs.Calls.{Inode, Locking, alone}
use Rattle.folder_calls.specs.Tree.{Tree}

-- a folder of which no clause says what stands there
abbrev pub tree_untold : Tree
tree_untold = record { stands = λ _. None; leads = λ _. None; names = λ _. []; bytes = λ _. [] }

-- a disk of which no clause says what waits
abbrev pub waits_untold : Waiting
waits_untold = record {
  files = λ _. false;
  folders = λ _. false;
  left = λ _. false;
  fat = λ _. false;
  syncs = λ _. false;
  opens = λ _. false;
  asked = [];
  logged = false;
}

-- the number of a file of which no clause says which it is
abbrev pub inode_untold : Inode
inode_untold = (0, 0)

-- a lock of which no clause says what it is on
abbrev pub locks_untold : Locking
locks_untold = alone inode_untold
