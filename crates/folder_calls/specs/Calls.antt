-- What has to be known before a call that frees bytes.
use Rattle.std.specs.Prelude.{ℕ, ◌≡◌, ◌<◌, ◌≤◌, Bool, true, false, not, ◌&&◌, bytes_eq, List, [], All, length, take, Option, Some, None, IfSome, IsSomeAnd}
use Rattle.boot_base.specs.Paths.{file_name_of}
use Rattle.name_syncs.specs.Folders.{parent_folder, path_in}
use Rattle.fat_rules.specs.Sharing.{may_share}
use Rattle.fat_rules.specs.Twins.{may_be_of_one_file}
use Rattle.folder_calls.specs.Tree.{Tree, is_fat_file, is_file, same_inode}
use Rattle.folder_calls.specs.declared.calls.Hold.{Hold}
use Rattle.folder_calls.specs.declared.calls.Hold.TheVariants.{Alone}
use Rattle.folder_calls.specs.declared.found.Found.{Found}

-- a file by its number, and that of its file system
abbrev pub Inode : Type 0
Inode = ℕ × ℕ

-- that of what was found
abbrev pub inode_of : Found → Inode
inode_of found = (found.device, found.inode)

-- what is locked, and who else may hold it
abbrev pub Locking : Type 0
Locking = Inode × Hold

-- no other run may hold it
abbrev pub alone : Inode → Locking
alone inode = (inode, Alone)

-- So many of these bytes were read: the buffer begins with them, and there are some if there is one and room for it.
pub record ReadsSome (bytes into : List ℕ) (count : ℕ) : Type 0 where
  pub most : count ≤ length bytes
  pub there : take count into ≡ take count bytes
  pub some : 0 < length bytes → 0 < length into → 0 < count

-- two files have the same bytes up to a length
abbrev pub same_start : Tree → ℕ → Inode → Inode → Bool
same_start tree length one other = bytes_eq (take length (tree.bytes one)) (take length (tree.bytes other))

-- another file looks as if it stood over the same clusters of FAT, by what the system tells of it
abbrev pub looks_alike : Found → Found → Bool
looks_alike found other = is_file other && (not (same_inode found other) && may_share found.facts other.facts)

-- it has the same bytes
abbrev pub has_same_bytes : Tree → Found → Found → Bool
has_same_bytes tree found other = same_start tree found.facts.length (inode_of found) (inode_of other)

-- two files may stand over the same clusters of FAT, by what the system tells of them and by their bytes
abbrev pub share_clusters : Tree → Option Found → Option Found → Bool
share_clusters tree None other = false
share_clusters tree (Some one) None = false
share_clusters tree (Some one) (Some other) = may_share one.facts other.facts && has_same_bytes tree one other

-- another file is found that may stand over the same clusters of FAT: then it looks alike, and has the same bytes
abbrev pub is_twin : Tree → Found → Option Found → Bool
is_twin tree found None = false
is_twin tree found (Some other) = looks_alike found other && has_same_bytes tree found other

-- a name in the folder of a file is that of its twin
abbrev pub names_twin : Tree → List ℕ → Found → List ℕ → Bool
names_twin tree path found name =
    may_be_of_one_file (file_name_of path) name && is_twin tree found (tree.stands (path_in (parent_folder path) name))

-- A file that may stand on FAT shares its clusters with no name in its folder but maybe one: a cut rename leaves two
-- names over the same clusters, and who frees them under the one takes them from the other.
abbrev pub IsAloneBut : Tree → List ℕ → List ℕ → Found → Type 0
IsAloneBut tree path but found =
    is_fat_file found ≡ true
    → All (λ name. not (bytes_eq name but) && names_twin tree path found name ≡ false) (tree.names (parent_folder path))

-- What goes at a path may be freed: it is a file that this run holds alone, and shares its clusters with no name but maybe
-- one.
pub record MayFree (tree : Tree) (path but : List ℕ) (held : Option Locking) (found : Found) : Type 0 where
  pub locked : held ≡ Some (alone (inode_of found))
  pub alone : IsAloneBut tree path but found

-- If a regular file stands at a path it may be freed: this run holds it alone, and it shares its clusters with no name but
-- maybe one.
abbrev pub MayGoBut : Tree → List ℕ → List ℕ → Option Locking → Type 0
MayGoBut tree path but held = IfSome (tree.stands path) (λ found. is_file found ≡ true → MayFree tree path but held found)

-- If a regular file stands at a path it may be freed: this run holds it alone, and it shares its clusters with no name at
-- all. The name that is left out is empty, so it is no file's.
abbrev pub MayGo : Tree → List ℕ → Option Locking → Type 0
MayGo tree path held = MayGoBut tree path [] held

-- the open file stands at a path
abbrev pub IsOpenAt : Tree → List ℕ → Inode → Type 0
IsOpenAt tree path inode = IsSomeAnd (tree.stands path) (λ found. inode_of found ≡ inode)

-- a file stands at a path that is held alone
abbrev pub IsLockedAt : Tree → List ℕ → Locking → Type 0
IsLockedAt tree path locking = IsSomeAnd (tree.stands path) (λ found. alone (inode_of found) ≡ locking)
