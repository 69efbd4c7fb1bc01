-- What a run holds, call by call.
use Rattle.std.proofs.Common.{◌≡◌, Bool, List, [], ◌++◌, sym, ap, ◌∙◌, append_assoc, arith, append-nil}
use Rattle.std.proofs.lemmas.List.Elements.{All-append}
use Rattle.folder_calls.specs.Calls.{Inode}
use Rattle.folder_locks.specs.Holding.{HoldsMore, IsHeldAs, TellsNewFolders}
use Rattle.folder_locks.specs.declared.locks.Held.{Held}
use Rattle.folder_locks.specs.declared.locks.Locks.{Locks}

-- nothing more is held
pub holds_same : {C F L : Type 0} (tells : Bool) (inode : F → Inode) (old new : List (Held C F L)) → new ≡ old
    → HoldsMore tells inode old new
holds_same tells inode old new same =
    record { more = []; behind = same ∙ sym (append-nil old); found = λ told k d inside. absurd (omega arith) }

-- what is held more after two calls
pub holds_then : {C F L : Type 0} (tells : Bool) (inode : F → Inode) (old mid new : List (Held C F L))
    → HoldsMore tells inode old mid → HoldsMore tells inode mid new → HoldsMore tells inode old new
holds_then tells inode old mid new first then =
    record {
      more = first.more ++ then.more;
      behind = then.behind ∙ (ap (λ all. all ++ then.more) first.behind ∙ append_assoc old first.more then.more);
      found = λ told. All-append (IsHeldAs inode) first.more then.more (first.found told) (then.found told);
    }

-- whether a folder is new, after two calls
pub tells_then : {C F L : Type 0} (old mid new : Locks C F L) → TellsNewFolders old mid → TellsNewFolders mid new → TellsNewFolders old new
tells_then old mid new first then = record {
  none = λ none. then.none none ∙ first.none (then.before none);
  before = λ none. first.before (then.before none);
}
