-- What stays on the disk, and stays noted, after other syncs and changes.
use Rattle.std.proofs.Common.{◌≡◌, inl, inr, ℕ, ◌+◌, ◌<◌, Bool, true, false, List, [], ◌∷◌, ◌++◌, String, Global, string_bytes, Result, Ok, Err, IfErr, IfOk, codes, length, get_or, take, map, sym, subst, ap, ◌∙◌, All, if◌then◌else◌}
use Rattle.std.proofs.lemmas.Bool.{cases_Bool}
use Rattle.std.proofs.lemmas.List.{append-nil, map-append, take_more}
use Rattle.std.proofs.lemmas.List.Elements.{All-cons, All-nil, All-push, All-weaker}
use Rattle.boot_base.specs.Layout.{entries_below, images_below}
use Rattle.name_syncs.specs.Folders.{folders_above, has_folder, listed, path_in, with_folder, with_folders}
use Rattle.name_syncs.specs.Named.{Covers, NothingWaits, settled_at}
use Rattle.name_syncs.specs.Paths.{has_path}
use Rattle.name_syncs.specs.Waiting.{Asks, AsksAmong, FileAt, FolderAt, HasNoneLeft, IsShutOut, KeepsSynced, LeavesNoMore, ListsLeft, Sync, SyncRow, Waiting}
use Rattle.name_syncs.specs.declared.disk.FolderFault.{FolderFault}
use Rattle.name_syncs.specs.declared.folders.FolderSet.{FolderSet}
use Rattle.name_syncs.specs.declared.named.Named.{Named}
use Rattle.name_syncs.proofs.Syncing.{among_none, among_then, asks_among, before, none_left_still, one_more, with_folder-has}
use Rattle.name_syncs.proofs.Noted.{all_there, noted_are_listed, settled_are_covered}
use Rattle.folder_calls.specs.Ready.{HasNoneReplaced, IsNearClear, MaySync, replaced_below}
use Rattle.folder_changes.specs.Clear.{IsClear}
use Rattle.folder_changes.specs.Noted.{AreReady, IsKnown}
use Rattle.folder_changes.specs.declared.ready.Ready.{Ready}

-- ---- syncs of what others have left

pub others_of : (syncs : List Sync) (old new : Waiting) → Asks syncs old new → AsksAmong [] old new
others_of syncs old new asks = record { all = syncs; asks = asks; within = tt }

pub others_then : (old between new : Waiting) → AsksAmong [] old between → AsksAmong [] between new → AsksAmong [] old new
others_then old between new first next = among_then [] [] old between new first next

pub others_none : (waits : Waiting) → AsksAmong [] waits waits
others_none waits = among_none waits

-- ---- what stays

module _ (old new : Waiting) (others : LeavesNoMore old new) where
  pub replaced_still : (above : List ℕ) → HasNoneReplaced old above → HasNoneReplaced new above
  replaced_still above none = All-weaker (λ below. HasNoneLeft old (path_in above below)) (λ below. HasNoneLeft new (path_in above below))
      (λ below left. none_left_still old new others (path_in above below) left) replaced_below none

  pub ready_still : (folder : List ℕ) → MaySync old folder → MaySync new folder
  ready_still folder ready = record {
    own = none_left_still old new others folder ready.own;
    near = λ fat above there.
        replaced_still above (ready.near (sym (ap (λ (fats : List ℕ → Bool). fats folder) others.fat) ∙ fat) above there);
  }

  pub are_ready_still : (ready : Ready) → AreReady ready old → AreReady ready new
  are_ready_still ready are = record {
    folders = λ folder there. ready_still folder (are.folders folder there);
    near = λ above there. replaced_still above (are.near above there);
    clear = λ folder there. none_left_still old new others folder (are.clear folder there);
  }

unlike : false ≡ true → ⊥
unlike is = cc

pub covers_still : (named : Named) (old new : Waiting) → KeepsSynced old new → Covers named old → Covers named new
covers_still named old new kept covers = record {
  files = λ path waiting. covers.files path (before (old.files path) (new.files path) (kept.files path) waiting);
  folders = λ folder waiting. covers.folders folder (before (old.folders folder) (new.folders folder) (kept.folders folder) waiting);
  own = λ folder waiting. covers.own folder (before (old.folders folder) (new.folders folder) (kept.folders folder) waiting);
}

pub known_still : (is_unsure : Bool) (named : Named) (ready : Ready) (old new : Waiting) → KeepsSynced old new
    → IsKnown is_unsure named ready old → IsKnown is_unsure named ready new
known_still is_unsure named ready old new kept known = record {
  noted = λ sure. covers_still named old new kept (known.noted sure);
  cleared = are_ready_still old new kept.others ready known.cleared;
}

-- if it was known what waits, it is known behind a sync too, whatever is unsure then
pub known_after : (before after : Bool) (named : Named) (ready : Ready) (old new : Waiting) → before ≡ false → KeepsSynced old new
    → IsKnown before named ready old → IsKnown after named ready new
known_after before after named ready old new sure kept known = record {
  noted = λ _. covers_still named old new kept (known.noted sure);
  cleared = are_ready_still old new kept.others ready known.cleared;
}

-- ---- at the start

has_none : (folder : List ℕ) → has_folder (record { has_root = false; below = [] }) folder ≡ true → ⊥
has_none [] there = unlike there
has_none (byte ∷ folder) there = unlike there

pub known_at_start : (named : Named) (ready : Ready) (waits : Waiting) → NothingWaits waits
    → ready.folders ≡ record { has_root = false; below = [] } → ready.near ≡ record { has_root = false; below = [] }
    → ready.clear ≡ record { has_root = false; below = [] } → IsKnown false named ready waits
known_at_start named ready waits nothing folders near clear = record {
  noted = λ _. record {
    files = λ path waiting. absurd (unlike (sym (nothing.files path) ∙ waiting));
    folders = λ folder waiting. absurd (unlike (sym (nothing.folders folder) ∙ waiting));
    own = λ folder waiting. absurd (unlike (sym (nothing.folders folder) ∙ waiting));
  };
  cleared = record {
    folders = λ folder there. absurd (has_none folder (subst (λ (all : FolderSet). has_folder all folder ≡ true) folders there));
    near = λ above there. absurd (has_none above (subst (λ (all : FolderSet). has_folder all above ≡ true) near there));
    clear = λ folder there. absurd (has_none folder (subst (λ (all : FolderSet). has_folder all folder ≡ true) clear there));
  };
}

-- ---- one more

pub folder_added : (ready after : Ready) (waits : Waiting) (folder : List ℕ) → after.folders ≡ with_folder ready.folders folder
    → after.near ≡ ready.near → after.clear ≡ ready.clear → AreReady ready waits → MaySync waits folder → AreReady after waits
folder_added ready after waits folder folders near clear are one = record {
  folders = λ other there. elim (with_folder-has ready.folders folder other (subst (λ (all : FolderSet). has_folder all other ≡ true) folders there)) [
    | inl before ↦ are.folders other before
    | inr same ↦ subst (MaySync waits) same one
  ];
  near = λ above there. are.near above (subst (λ (all : FolderSet). has_folder all above ≡ true) near there);
  clear = λ other there. are.clear other (subst (λ (all : FolderSet). has_folder all other ≡ true) clear there);
}

pub near_added : (ready after : Ready) (waits : Waiting) (above : List ℕ) → after.near ≡ with_folder ready.near above
    → after.folders ≡ ready.folders → after.clear ≡ ready.clear → AreReady ready waits → HasNoneReplaced waits above
    → AreReady after waits
near_added ready after waits above near folders clear are one = record {
  folders = λ other there. are.folders other (subst (λ (all : FolderSet). has_folder all other ≡ true) folders there);
  near = λ other there. elim (with_folder-has ready.near above other (subst (λ (all : FolderSet). has_folder all other ≡ true) near there)) [
    | inl before ↦ are.near other before
    | inr same ↦ subst (HasNoneReplaced waits) same one
  ];
  clear = λ other there. are.clear other (subst (λ (all : FolderSet). has_folder all other ≡ true) clear there);
}

pub clear_added : (ready after : Ready) (waits : Waiting) (folder : List ℕ) → after.clear ≡ with_folder ready.clear folder
    → after.folders ≡ ready.folders → after.near ≡ ready.near → AreReady ready waits → HasNoneLeft waits folder
    → AreReady after waits
clear_added ready after waits folder clear folders near are one = record {
  folders = λ other there. are.folders other (subst (λ (all : FolderSet). has_folder all other ≡ true) folders there);
  near = λ above there. are.near above (subst (λ (all : FolderSet). has_folder all above ≡ true) near there);
  clear = λ other there. elim (with_folder-has ready.clear folder other (subst (λ (all : FolderSet). has_folder all other ≡ true) clear there)) [
    | inl before ↦ are.clear other before
    | inr same ↦ subst (HasNoneLeft waits) same one
  ];
}

-- what is kept beside changes nothing of it
pub same_ready : (ready after : Ready) (waits : Waiting) → after.folders ≡ ready.folders → after.near ≡ ready.near
    → after.clear ≡ ready.clear → AreReady ready waits → AreReady after waits
same_ready ready after waits folders near clear are = record {
  folders = λ other there. are.folders other (subst (λ (all : FolderSet). has_folder all other ≡ true) folders there);
  near = λ above there. are.near above (subst (λ (all : FolderSet). has_folder all above ≡ true) near there);
  clear = λ other there. are.clear other (subst (λ (all : FolderSet). has_folder all other ≡ true) clear there);
}

-- ---- names that are cleared

pub clear_still : (old new : Waiting) (folder : List ℕ) → LeavesNoMore old new → (name : List ℕ) → IsClear old folder name
    → IsClear new folder name
clear_still old new folder others name clear lasting = others.left _ (clear lasting)

pub clear_push : (folder : List ℕ) (names : List (String Global)) (i : ℕ) (item : String Global) (name : List ℕ) (old new : Waiting)
    → i < length names → item ≡ get_or names i item → name ≡ string_bytes item → LeavesNoMore old new
    → All (IsClear old folder) (map string_bytes (take i names)) → IsClear new folder name
    → All (IsClear new folder) (map string_bytes (take (i + 1) names))
clear_push folder names i item name old new inside at is others before one =
    let last : take (i + 1) names ≡ take i names ++ item ∷ [] =
    take_more names i item inside ∙ ap (λ (item : String Global). take i names ++ item ∷ []) (sym at) in
    let all : map string_bytes (take (i + 1) names) ≡ map string_bytes (take i names) ++ name ∷ [] =
    ap (map string_bytes) last ∙ map-append string_bytes (take i names) (item ∷ [])
    ∙ ap (λ (name : List ℕ). map string_bytes (take i names) ++ name ∷ []) (sym is) in
    rw all (All-push (IsClear new folder) (map string_bytes (take i names)) name
    (All-weaker (IsClear old folder) (IsClear new folder) (clear_still old new folder others) (map string_bytes (take i names)) before) one)

-- what isn't listed nobody has left
pub none_left : (old new : Waiting) (folder : List ℕ) (names : List (List ℕ)) → LeavesNoMore old new → ListsLeft old folder names
    → All (IsClear new folder) names → HasNoneLeft new folder
none_left old new folder names others lists clear fat name single lasting = elim (cases_Bool (old.left (FileAt (path_in folder name)))) [
  | inl left ↦
      let was : old.fat folder ≡ true = sym (ap (λ (fats : List ℕ → Bool). fats folder) others.fat) ∙ fat in
      all_there (IsClear new folder) names name clear (lists was name single left) lasting
  | inr none ↦ others.left _ none
]

pub none_off_fat : (disk : Waiting) (folder : List ℕ) → disk.fat folder ≡ false → HasNoneLeft disk folder
none_off_fat disk folder off fat name single lasting = absurd (unlike (sym off ∙ fat))

-- ---- folders that are cleared

pub replaced_push : (near : List (List ℕ)) (i : ℕ) (item above : List ℕ) (old new : Waiting) → i < length near
    → item ≡ get_or near i item → above ≡ item → LeavesNoMore old new → All (HasNoneReplaced old) (take i near)
    → HasNoneReplaced new above → All (HasNoneReplaced new) (take (i + 1) near)
replaced_push near i item above old new inside at is others before one =
    rw (one_more near i item above inside at is) (All-push (HasNoneReplaced new) (take i near) above
    (All-weaker (HasNoneReplaced old) (HasNoneReplaced new) (replaced_still old new others) (take i near) before) one)

pub replaced_all : (disk : Waiting) (above : List ℕ) → HasNoneLeft disk (path_in above images_below)
    → HasNoneLeft disk (path_in above (codes "loader")) → HasNoneLeft disk (path_in above entries_below) → HasNoneReplaced disk above
replaced_all disk above images loader entries =
    let P : List ℕ → Type 0 = λ below. HasNoneLeft disk (path_in above below) in
    All-cons P images_below (codes "loader" ∷ entries_below ∷ []) images
    (All-cons P (codes "loader") (entries_below ∷ []) loader (All-cons P entries_below [] entries (All-nil P)))

-- a folder and those above it, as they are gone through
pub near_clear : (disk : Waiting) (folder : List ℕ) (none : FolderSet) (near : FolderSet)
    → near ≡ with_folders (with_folder none folder) (folders_above folder) → All (HasNoneReplaced disk) near.below
    → HasNoneReplaced disk [] → IsNearClear disk folder
near_clear disk folder none near is below root above there =
    let set : with_folders none (folder ∷ folders_above folder) ≡ near = sym is in
    let listed_there : has_path (listed near) above ≡ true =
    subst (λ (all : FolderSet). has_path (listed all) above ≡ true) set
    (noted_are_listed none (folder ∷ folders_above folder) above (inr there)) in
    all_there (HasNoneReplaced disk) (listed near) above (by_root near.has_root) listed_there
  where
    by_root : (has_root : Bool) → All (HasNoneReplaced disk) (near.below ++ (if has_root then [] ∷ [] else []))
    by_root true = All-push (HasNoneReplaced disk) near.below [] below root
    by_root false = rw (append-nil near.below) below

pub if_near_clear : {E : Type 0} (result : Result (Unit {0}) E) (tells : Type 0) (between new : Waiting) (folder : List ℕ)
    (none near : FolderSet) → near ≡ with_folders (with_folder none folder) (folders_above folder) → (tells → AsksAmong [] between new)
    → (tells → All (HasNoneReplaced between) near.below) → IfOk result (λ _. tells → HasNoneReplaced new [])
    → IfOk result (λ _. tells → IsNearClear new folder)
if_near_clear (Ok _) tells between new folder none near is asks below root = λ told.
    near_clear new folder none near is
    (All-weaker (HasNoneReplaced between) (HasNoneReplaced new) (replaced_still between new (asks told).asks.kept.others) near.below (below told))
    (root told)
if_near_clear (Err _) tells between new folder none near is asks below root = root

pub may_sync : (between new : Waiting) (folder : List ℕ) → LeavesNoMore between new → HasNoneLeft new folder
    → IsNearClear between folder → MaySync new folder
may_sync between new folder others own near = record {
  own = own;
  near = λ _ above there. replaced_still between new others above (near above there);
}

-- ---- answers

-- what a folder's sync leaves behind what comes before it
pub sync_row : {F : Type 0} (result : Result Bool (FolderFault F)) (tells : Type 0) (start before new : Waiting) (folder : List ℕ)
    → tells → AsksAmong [] start before → HasNoneLeft before folder → Asks (FolderAt folder ∷ []) before new
    → IfOk result (λ is_there. tells → is_there ≡ true → new.folders folder ≡ false)
    → IfOk result (λ is_there. tells → is_there ≡ true → new.left (FolderAt folder) ≡ false)
    → IfOk result (λ is_there. tells → is_there ≡ false → new.opens (FolderAt folder) ≡ false)
    → IfErr result (λ failure. tells → failure.syncs_none ≡ true → new.syncs folder ≡ false)
    → IfErr result (λ failure. tells → failure.is_refused ≡ true → IsShutOut new)
    → SyncRow start new folder result
sync_row (Ok is_there) tells start before new folder told ready none asks synced left gone unable refused = record {
  others = others_then start before new ready (others_of (FolderAt folder ∷ []) before new asks);
  asks = λ there. among_then [] (FolderAt folder ∷ []) start before new ready (asks_among (FolderAt folder ∷ []) before new asks);
  synced = λ there. record {
    names = synced told there;
    left = left told there;
    files = none_left_still before new asks.kept.others folder none;
  };
  gone = gone told;
  unable = tt;
  refused = tt;
}
sync_row (Err failure) tells start before new folder told ready none asks synced left gone unable refused = record {
  others = others_then start before new ready (others_of (FolderAt folder ∷ []) before new asks);
  asks = tt;
  synced = tt;
  gone = tt;
  unable = unable told;
  refused = refused told;
}

-- behind syncs nothing waits that the run has changed, whatever was noted
pub known_done : (after : Bool) (named : Named) (ready : Ready) (waits : Waiting) → NothingWaits waits → AreReady ready waits
    → IsKnown after named ready waits
known_done after named ready waits nothing cleared = record {
  noted = λ _. record {
    files = λ path waiting. absurd (unlike (sym (nothing.files path) ∙ waiting));
    folders = λ folder waiting. absurd (unlike (sym (nothing.folders folder) ∙ waiting));
    own = λ folder waiting. absurd (unlike (sym (nothing.folders folder) ∙ waiting));
  };
  cleared = cleared;
}

-- a renamed file that was synced is noted no longer
pub known_settled : (is_unsure : Bool) (named after : Named) (ready : Ready) (old new : Waiting) (path : List ℕ)
    → after ≡ settled_at named path → KeepsSynced old new → new.files path ≡ false → IsKnown is_unsure named ready old
    → IsKnown is_unsure after ready new
known_settled is_unsure named after ready old new path is kept synced known = record {
  noted = λ sure. rw is (settled_are_covered named new path (covers_still named old new kept (known.noted sure)) synced);
  cleared = are_ready_still old new kept.others ready known.cleared;
}

pub if_asked_behind : {E : Type 0} (result : Result (Unit {0}) E) (tells : Type 0) (one more : List Sync) (old between new : Waiting)
    → (tells → AsksAmong one old between) → IfOk result (λ _. tells → AsksAmong more between new)
    → IfOk result (λ _. tells → AsksAmong (one ++ more) old new)
if_asked_behind (Ok _) tells one more old between new first next = λ told. among_then one more old between new (first told) (next told)
if_asked_behind (Err _) tells one more old between new first next = next
