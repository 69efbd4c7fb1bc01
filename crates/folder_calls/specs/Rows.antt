-- What a call that changes a folder has done once it answers Ok (POSIX: open with O_EXCL, write, rename, unlink, mkdir).
use Rattle.std.specs.Prelude.{◌≡◌, ◌≢◌, ℕ, true, is_some, List, ◌++◌, Option, None, Some}
use Rattle.std.specs.Option.{option_map}
use Rattle.folder_calls.specs.Calls.{Inode, inode_of}
use Rattle.folder_calls.specs.Tree.{Tree}

-- what stands at a path, by its number
abbrev pub inode_at : Tree → List ℕ → Option Inode
inode_at tree path = option_map inode_of (tree.stands path)

-- each path has the file that it had
abbrev pub KeepsNames : Tree → Tree → Type 0
KeepsNames old new = (path : List ℕ) → inode_at new path ≡ inode_at old path

-- so has each path but this one
abbrev pub KeepsNamesBut : List ℕ → Tree → Tree → Type 0
KeepsNamesBut path old new = (other : List ℕ) → other ≢ path → inode_at new other ≡ inode_at old other

-- and each but these two
abbrev pub KeepsNamesButTwo : List ℕ → List ℕ → Tree → Tree → Type 0
KeepsNamesButTwo from to old new =
    (other : List ℕ) → other ≢ from → other ≢ to → inode_at new other ≡ inode_at old other

-- each file has the bytes that it had, but for this one
abbrev pub KeepsBytesBut : Inode → Tree → Tree → Type 0
KeepsBytesBut inode old new = (other : Inode) → other ≢ inode → new.bytes other ≡ old.bytes other

-- a new file stands at a path, at which nothing stood
pub record MadeRow (old new : Tree) (path : List ℕ) (inode : Inode) : Type 0 where
  pub free : old.stands path ≡ None
  pub there : inode_at new path ≡ Some inode

-- something stands at a path
abbrev pub HasName : Tree → List ℕ → Type 0
HasName tree path = is_some (tree.stands path) ≡ true

-- A file has its new path, and has left the old one. If both are of one file a rename does nothing.
pub record MovedRow (old new : Tree) (from to : List ℕ) : Type 0 where
  pub was : is_some (old.stands from) ≡ true
  pub there : inode_at new to ≡ inode_at old from
  pub left : inode_at old from ≢ inode_at old to → new.stands from ≡ None

-- nothing stands at a path any more
abbrev pub GoneRow : Tree → List ℕ → Type 0
GoneRow new path = new.stands path ≡ None

-- a file has these bytes behind those that it had
abbrev pub WrittenRow : Tree → Tree → Inode → List ℕ → Type 0
WrittenRow old new inode bytes = new.bytes inode ≡ old.bytes inode ++ bytes
