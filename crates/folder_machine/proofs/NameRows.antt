-- What stands at a path after calls that change names.
use Rattle.std.proofs.Common.{◌≡◌, ◌≢◌, ◌∙◌, ap, refl, sym, ℕ, Bool, true, false, ◌==◌, List, Option, Some, None, IsSomeAnd, bytes_eq, is_some, option_map}
use Rattle.std.proofs.lemmas.Bool.{and_parts, eqb-true}
use Rattle.std.proofs.lemmas.Option.{none-some}
use Rattle.std.specs.Option.{option_map_or}
use Rattle.std.proofs.lemmas.Slice.Eq.{bytes_eq-Decides}
use Rattle.folder_calls.specs.Calls.{Inode, IsOpenAt, inode_of}
use Rattle.folder_calls.specs.Rows.{GoneRow, HasName, KeepsNames, KeepsNamesBut, MovedRow, inode_at}
use Rattle.folder_calls.specs.Tree.{Tree, same_inode}
use Rattle.folder_calls.specs.declared.found.Found.{Found}
use Rattle.folder_machine.specs.Opening.{stands_still}

there_too : (one other : Option Found) → option_map inode_of one ≡ option_map inode_of other → is_some other ≡ true
    → is_some one ≡ true
there_too None None same there = there
there_too None (Some found) same there = absurd (none-some _ same)
there_too (Some found) other same there = refl

-- what was moved stands at its new path
pub moved_stands : (old new : Tree) (from to : List ℕ) → MovedRow old new from to → HasName new to
moved_stands old new from to row = there_too (new.stands to) (old.stands from) row.there row.was

no_test : false ≡ true → ⊥
no_test is = cc

-- the open file stands at a path if what it is found to be stands there
pub open_there : (tree : Tree) (path : List ℕ) (found : Found) (inode : Inode) → stands_still tree path found ≡ true
    → inode ≡ inode_of found → IsOpenAt tree path inode
open_there tree path found inode still is = by_found (tree.stands path) still
  where
    by_found : (there : Option Found) → option_map_or (λ other. same_inode other found) there false ≡ true
        → IsSomeAnd there (λ other. inode_of other ≡ inode)
    by_found None still = absurd (no_test still)
    by_found (Some other) still =
        let parts = and_parts (other.device == found.device) (other.inode == found.inode) still in
        rw (eqb-true other.device found.device parts.0, eqb-true other.inode found.inode parts.1) (sym is)

-- then something stands there
pub open_stands : (tree : Tree) (path : List ℕ) (inode : Inode) → IsOpenAt tree path inode → HasName tree path
open_stands tree path inode = by_found (tree.stands path)
  where
    by_found : (there : Option Found) → IsSomeAnd there (λ other. inode_of other ≡ inode) → is_some there ≡ true
    by_found None there = absurd there
    by_found (Some other) there = refl

-- a name that comes and goes leaves each as it was
pub comes_and_goes : (old mid new : Tree) (path : List ℕ) → old.stands path ≡ None → KeepsNamesBut path old mid
    → KeepsNamesBut path mid new → GoneRow new path → KeepsNames old new
comes_and_goes old mid new path free first then gone other = by_test (bytes_eq other path) refl
  where
    by_test : (same : Bool) → bytes_eq other path ≡ same → inode_at new other ≡ inode_at old other
    by_test true is =
        let at : other ≡ path = (bytes_eq-Decides other path).0 is in
        rw at (ap (option_map inode_of) (gone ∙ sym free))
    by_test false is =
        let differs : other ≢ path = λ same. no_test (sym is ∙ (bytes_eq-Decides other path).1 same) in
        then other differs ∙ first other differs
