-- What waits after one sync and then others.
use Rattle.std.proofs.Common.{◌≡◌, inl, inr, ◌⊎◌, ℕ, Bool, true, false, not, List, [], ◌∷◌, ◌++◌, map, length, get_or, take, drop, ◌+◌, ◌<◌, refl, sym, ap, ◌∙◌, subst, append_assoc, bytes_eq, filter, All, ◌&&◌, ◌||◌, if◌then◌else◌, Result, Ok, Err, OnOk, OnErr}
use Rattle.std.specs.declared.alloc.AllocError.{AllocError}
use Rattle.std.proofs.lemmas.Bool.{cases_Bool}
use Rattle.std.proofs.lemmas.List.{append-nil, map-append, take-append-drop, take_more}
use Rattle.std.proofs.lemmas.List.Elements.{All-push, All-weaker, filter-append}
use Rattle.std.proofs.lemmas.List.Folds.{list_any-append}
use Rattle.std.proofs.lemmas.Slice.Eq.{bytes_eq-Decides}
use Rattle.name_syncs.specs.Paths.{has_path}
use Rattle.name_syncs.specs.Folders.{has_folder, listed, with_folder}
use Rattle.name_syncs.specs.Named.{AsksChanged}
use Rattle.name_syncs.specs.Waiting.{Asks, AsksAmong, AsksFolders, FileAt, FolderAt, HasNoSync, HasNoneLeft, IsOnDisk, KeepsSynced, LeavesNoMore, NeedsNoSync, SettlesOnly, ShowsTruth, StandWithin, Sync, Waiting, those_that_sync}
use Rattle.name_syncs.specs.declared.folders.FolderSet.{FolderSet}
use Rattle.name_syncs.specs.declared.named.Named.{Named}

pub leaves_then : (old between new : Waiting) → LeavesNoMore old between → LeavesNoMore between new → LeavesNoMore old new
leaves_then old between new first next = record {
  left = λ sync none. next.left sync (first.left sync none);
  fat = next.fat ∙ first.fat;
}

pub keeps_then : (old between new : Waiting) → KeepsSynced old between → KeepsSynced between new → KeepsSynced old new
keeps_then old between new first next = record {
  files = λ path synced. next.files path (first.files path synced);
  folders = λ folder synced. next.folders folder (first.folders folder synced);
  others = leaves_then old between new first.others next.others;
  syncs = next.syncs ∙ first.syncs;
  opens = next.opens ∙ first.opens;
}

pub asks_then : (one more : List Sync) (old between new : Waiting) → Asks one old between → Asks more between new
    → Asks (one ++ more) old new
asks_then one more old between new first next = record {
  kept = keeps_then old between new first.kept next.kept;
  asked = λ logged.
      let later = next.asked logged in
      let sooner = first.asked later.0 in
      (sooner.0, later.1 ∙ ap (λ (asked : List Sync). asked ++ more) sooner.1 ∙ append_assoc old.asked one more);
}

-- what waits behind a sync has waited before it
pub before : (old new : Bool) → (old ≡ false → new ≡ false) → new ≡ true → old ≡ true
before old new kept waiting = elim (cases_Bool old) [
  | inl is ↦ is
  | inr none ↦ absurd (unlike (sym (kept none) ∙ waiting))
]
  where
    unlike : false ≡ true → ⊥
    unlike is = cc

-- ---- syncs among others

pub within_itself : (syncs : List Sync) → StandWithin syncs syncs
within_itself [] = tt
within_itself (sync ∷ rest) = inl (refl, within_itself rest)

within_behind : (syncs front more : List Sync) → StandWithin syncs more → StandWithin syncs (front ++ more)
within_behind syncs [] more within = within
within_behind [] (other ∷ front) more within = tt
within_behind (sync ∷ rest) (other ∷ front) more within = inr (within_behind (sync ∷ rest) front more within)

pub within_then : (one front more back : List Sync) → StandWithin one front → StandWithin more back
    → StandWithin (one ++ more) (front ++ back)
within_then [] front more back first next = within_behind more front back next
within_then (sync ∷ rest) [] more back first next = absurd first
within_then (sync ∷ rest) (other ∷ front) more back (inl here) next = inl (here.0, within_then rest front more back here.1 next)
within_then (sync ∷ rest) (other ∷ front) more back (inr later) next =
    inr (within_then (sync ∷ rest) front more back later next)

pub asks_among : (syncs : List Sync) (old new : Waiting) → Asks syncs old new → AsksAmong syncs old new
asks_among syncs old new asks = record { all = syncs; asks = asks; within = within_itself syncs }

pub among_then : (one more : List Sync) (old between new : Waiting) → AsksAmong one old between → AsksAmong more between new
    → AsksAmong (one ++ more) old new
among_then one more old between new first next = record {
  all = first.all ++ next.all;
  asks = asks_then first.all next.all old between new first.asks next.asks;
  within = within_then one first.all more next.all first.within next.within;
}

pub keeps_none : (waits : Waiting) → KeepsSynced waits waits
keeps_none waits = record {
  files = λ path none. none;
  folders = λ folder none. none;
  others = record { left = λ sync none. none; fat = refl };
  syncs = refl;
  opens = refl;
}

pub asks_none : (waits : Waiting) → Asks [] waits waits
asks_none waits = record {
  kept = keeps_none waits;
  asked = λ logged. (logged, sym (append-nil waits.asked));
}

pub among_none : (waits : Waiting) → AsksAmong [] waits waits
among_none waits = asks_among [] waits waits (asks_none waits)

-- ---- what is on the disk stays so

pub none_left_still : (old new : Waiting) → LeavesNoMore old new → (folder : List ℕ) → HasNoneLeft old folder
    → HasNoneLeft new folder
none_left_still old new others folder none fat name single lasting =
    others.left _ (none (sym (ap (λ (fats : List ℕ → Bool). fats folder) others.fat) ∙ fat) name single lasting)

pub on_disk_still : (old new : Waiting) → KeepsSynced old new → (folder : List ℕ) → IsOnDisk old folder → IsOnDisk new folder
on_disk_still old new kept folder on = record {
  names = kept.folders folder on.names;
  left = kept.others.left (FolderAt folder) on.left;
  files = none_left_still old new kept.others folder on.files;
}

pub no_sync_still : (old new : Waiting) → KeepsSynced old new → (folder : List ℕ) → HasNoSync old folder → HasNoSync new folder
no_sync_still old new kept folder (inl closed) = inl (ap (λ (opens : Sync → Bool). opens (FolderAt folder)) kept.opens ∙ closed)
no_sync_still old new kept folder (inr unable) = inr (ap (λ (syncs : List ℕ → Bool). syncs folder) kept.syncs ∙ unable)

pub settled_still : (own : FolderSet) (old new : Waiting) → KeepsSynced old new → (folder : List ℕ)
    → NeedsNoSync own old folder → NeedsNoSync own new folder
settled_still own old new kept folder (inl on) = inl (on_disk_still old new kept folder on)
settled_still own old new kept folder (inr none) = inr (none.0, no_sync_still old new kept folder none.1)

pub shows_still : (old new : Waiting) → KeepsSynced old new → (folder : List ℕ) → ShowsTruth old folder → ShowsTruth new folder
shows_still old new kept folder (inl on) = inl (on_disk_still old new kept folder on)
shows_still old new kept folder (inr (inl none)) = inr (inl (no_sync_still old new kept folder none))
shows_still old new kept folder (inr (inr closed)) =
    inr (inr (closed.0, ap (λ (opens : Sync → Bool). opens closed.0) kept.opens ∙ closed.1))

pub needs_shows : (own : FolderSet) (disk : Waiting) (folder : List ℕ) → NeedsNoSync own disk folder → ShowsTruth disk folder
needs_shows own disk folder (inl on) = inl on
needs_shows own disk folder (inr none) = inr (inl none.1)

-- ---- which folders are settled

or_first : (one other : Bool) → one ≡ true → (one || other) ≡ true
or_first one other is = rw is refl

or_second : (one other : Bool) → other ≡ true → (one || other) ≡ true
or_second true other is = refl
or_second false other is = is

pub in_front : (front back : List (List ℕ)) (path : List ℕ) → has_path front path ≡ true → has_path (front ++ back) path ≡ true
in_front front back path there =
    list_any-append (λ known. bytes_eq known path) front back ∙ or_first (has_path front path) (has_path back path) there

pub in_back : (front back : List (List ℕ)) (path : List ℕ) → has_path back path ≡ true → has_path (front ++ back) path ≡ true
in_back front back path there =
    list_any-append (λ known. bytes_eq known path) front back ∙ or_second (has_path front path) (has_path back path) there

pub settles_then : (front back : List (List ℕ)) (old new : Waiting) (before between after : FolderSet) → KeepsSynced old new
    → SettlesOnly front old before between → SettlesOnly back new between after → SettlesOnly (front ++ back) new before after
settles_then front back old new before between after kept first next folder there = elim (next folder there) [
  | inl known ↦ elim (first folder known) [
    | inl from ↦ inl from
    | inr added ↦ inr (in_front front back folder added.0, kept.folders folder added.1)
  ]
  | inr added ↦ inr (in_back front back folder added.0, added.1)
]

pub either : (one other : Bool) → (one || other) ≡ true → (one ≡ true) ⊎ (other ≡ true)
either true other is = inl refl
either false other is = inr is

pub itself : (path : List ℕ) → has_path (path ∷ []) path ≡ true
itself path = or_first (bytes_eq path path) false ((bytes_eq-Decides path path).1 refl)

with_path-has : (found : Bool) (paths : List (List ℕ)) (path other : List ℕ)
    → has_path (if found then paths else (paths ++ path ∷ [])) other ≡ true → (has_path paths other ≡ true) ⊎ (path ≡ other)
with_path-has true paths path other there = inl there
with_path-has false paths path other there =
    elim (either (has_path paths other) (has_path (path ∷ []) other) (sym (list_any-append (λ known. bytes_eq known other) paths (path ∷ [])) ∙ there)) [
      | inl known ↦ inl known
      | inr last ↦ elim (either (bytes_eq path other) false last) [
        | inl same ↦ inr ((bytes_eq-Decides path other).0 same)
        | inr none ↦ absurd (unlike none)
      ]
    ]
  where
    unlike : false ≡ true → ⊥
    unlike is = cc

-- a folder that is noted was noted before, or is the new one
pub with_folder-has : (folders : FolderSet) (folder other : List ℕ) → has_folder (with_folder folders folder) other ≡ true
    → (has_folder folders other ≡ true) ⊎ (folder ≡ other)
with_folder-has folders [] [] there = inr refl
with_folder-has folders [] (byte ∷ other) there = inl there
with_folder-has folders (byte ∷ folder) [] there = inl there
with_folder-has folders (byte ∷ folder) (first ∷ other) there =
    with_path-has (has_path folders.below (byte ∷ folder)) folders.below (byte ∷ folder) (first ∷ other) there

pub settles_folder : (disk : Waiting) (settled : FolderSet) (folder : List ℕ) → disk.folders folder ≡ false
    → SettlesOnly (folder ∷ []) disk settled (with_folder settled folder)
settles_folder disk settled folder synced other there = elim (with_folder-has settled folder other there) [
  | inl known ↦ inl known
  | inr same ↦ inr (ap (has_path (folder ∷ [])) (sym same) ∙ itself folder, ap disk.folders (sym same) ∙ synced)
]

-- the note of a folder that was synced may fail for want of memory
pub settles_noted : (result : Result (Unit {0}) AllocError) (disk : Waiting) (settled after : FolderSet) (folder : List ℕ)
    → OnOk result (after ≡ with_folder settled folder) → OnErr result (after ≡ settled) → disk.folders folder ≡ false
    → SettlesOnly (folder ∷ []) disk settled after
settles_noted (Ok _) disk settled after folder ok err synced other there =
    subst (SettlesOnly (folder ∷ []) disk settled) (sym ok) (settles_folder disk settled folder synced) other there
settles_noted (Err _) disk settled after folder ok err synced other there =
    inl (subst (λ (noted : FolderSet). has_folder noted other ≡ true) err there)

pub settles_more : (front back : List (List ℕ)) (disk : Waiting) (before after : FolderSet)
    → SettlesOnly front disk before after → SettlesOnly (front ++ back) disk before after
settles_more front back disk before after settles folder there = elim (settles folder there) [
  | inl known ↦ inl known
  | inr added ↦ inr (in_front front back folder added.0, added.1)
]

-- an element more of a list that is gone through
pub one_more : (paths : List (List ℕ)) (i : ℕ) (item path : List ℕ) → i < length paths → item ≡ get_or paths i item
    → path ≡ item → take (i + 1) paths ≡ take i paths ++ path ∷ []
one_more paths i item path inside at is =
    take_more paths i item inside ∙ ap (λ (last : List ℕ). take i paths ++ last ∷ []) (sym at ∙ sym is)

-- only folders among these are settled behind the sync of one more, even if those behind it aren't gone through
pub settles_some : (paths : List (List ℕ)) (i : ℕ) (path : List ℕ) (old new : Waiting) (before middle after : FolderSet)
    → take (i + 1) paths ≡ take i paths ++ path ∷ [] → KeepsSynced old new
    → SettlesOnly (take i paths) old before middle → SettlesOnly (path ∷ []) new middle after → SettlesOnly paths new before after
settles_some paths i path old new before middle after is kept first next =
    let both = settles_then (take i paths) (path ∷ []) old new before middle after kept first next in
    let front : SettlesOnly (take (i + 1) paths) new before after =
    λ folder there. subst (λ (all : List (List ℕ)). (has_folder before folder ≡ true) ⊎ ((has_path all folder ≡ true) × (new.folders folder ≡ false))) (sym is) (both folder there) in
    λ folder there. subst (λ (all : List (List ℕ)). (has_folder before folder ≡ true) ⊎ ((has_path all folder ≡ true) × (new.folders folder ≡ false)))
    (take-append-drop (i + 1) paths) (settles_more (take (i + 1) paths) (drop (i + 1) paths) new before after front folder there)

-- ---- files, one after the other

-- these files were synced, and nothing else was done
pub record FilesDone (paths : List (List ℕ)) (old new : Waiting) : Type 0 where
  pub asks : Asks (map FileAt paths) old new
  pub synced : All (λ path. new.files path ≡ false) paths

pub files_push : (paths more : List (List ℕ)) (path : List ℕ) (old between new : Waiting) → more ≡ paths ++ path ∷ []
    → FilesDone paths old between → Asks (FileAt path ∷ []) between new → new.files path ≡ false → FilesDone more old new
files_push paths more path old between new is done asks synced = record {
  asks = rw (is, map-append FileAt paths (path ∷ [])) (asks_then (map FileAt paths) (FileAt path ∷ []) old between new done.asks asks);
  synced = rw is (All-push (λ path. new.files path ≡ false) paths path
      (All-weaker (λ path. between.files path ≡ false) (λ path. new.files path ≡ false) asks.kept.files paths done.synced) synced);
}

-- ---- changed folders, one after the other

-- which can is the same behind a sync
pub same_sync : (old new : Waiting) → KeepsSynced old new → (folders : List (List ℕ))
    → those_that_sync new folders ≡ those_that_sync old folders
same_sync old new kept folders =
    rw (kept.opens, kept.syncs) refl

pub folders_then : (one more : List (List ℕ)) (old between new : Waiting) → AsksFolders one old between → AsksFolders more between new
    → AsksFolders (one ++ more) old new
folders_then one more old between new first next =
    let behind : AsksAmong (map FolderAt (those_that_sync old more)) between new =
    subst (λ (some : List (List ℕ)). AsksAmong (map FolderAt some) between new) (same_sync old between first.asks.kept more) next in
    rw (
      filter-append (λ folder. old.opens (FolderAt folder) && old.syncs folder) one more,
      map-append FolderAt (those_that_sync old one) (those_that_sync old more),
    )
    (among_then (map FolderAt (those_that_sync old one)) (map FolderAt (those_that_sync old more)) old between new first behind)

-- these changed folders were gone through, and nothing else was done
pub record FoldersDone (own : FolderSet) (folders : List (List ℕ)) (old new : Waiting) (before after : FolderSet) : Type 0 where
  pub asks : AsksFolders folders old new
  pub synced : All (NeedsNoSync own new) folders
  pub settles : SettlesOnly folders new before after

module _ (own : FolderSet) (folders more : List (List ℕ)) (folder : List ℕ) (old between new : Waiting) (before middle after : FolderSet) where
  pub folders_push : more ≡ folders ++ folder ∷ [] → FoldersDone own folders old between before middle
      → AsksFolders (folder ∷ []) between new → NeedsNoSync own new folder → SettlesOnly (folder ∷ []) new middle after
      → FoldersDone own more old new before after
  folders_push is done asks synced settles = record {
    asks = rw is (folders_then folders (folder ∷ []) old between new done.asks asks);
    synced = rw is (All-push (NeedsNoSync own new) folders folder
        (All-weaker (NeedsNoSync own between) (NeedsNoSync own new) (settled_still own between new asks.asks.kept) folders done.synced) synced);
    settles = rw is (settles_then folders (folder ∷ []) between new before middle after asks.asks.kept done.settles settles);
  }

-- ---- folders that were seen, one after the other

-- those that were changed are left out
abbrev pub unchanged : FolderSet → List (List ℕ) → List (List ℕ)
unchanged changed folders = filter (λ folder. not (has_folder changed folder)) folders

pub record SeenDone (changed : FolderSet) (folders : List (List ℕ)) (old new : Waiting) (before after : FolderSet) : Type 0 where
  pub kept : KeepsSynced old new
  pub shown : All (ShowsTruth new) (unchanged changed folders)
  pub settles : SettlesOnly folders new before after

module _ (changed : FolderSet) (folders more : List (List ℕ)) (folder : List ℕ) (is : more ≡ folders ++ folder ∷ []) where
  passed : (own : Bool) → has_folder changed folder ≡ own
      → unchanged changed more ≡ unchanged changed folders ++ (if own then [] else (folder ∷ []))
  passed true own =
      let parts = filter-append (λ folder. not (has_folder changed folder)) folders (folder ∷ []) in
      rw (is, parts, own) refl
  passed false own =
      let parts = filter-append (λ folder. not (has_folder changed folder)) folders (folder ∷ []) in
      rw (is, parts, own) refl

  module _ (old between new : Waiting) (before middle after : FolderSet) (done : SeenDone changed folders old between before middle) where
    pub seen_skip : has_folder changed folder ≡ true → SeenDone changed more old between before middle
    seen_skip own =
        let none = passed true own ∙ append-nil (unchanged changed folders) in
        record {
          kept = done.kept;
          shown = rw none done.shown;
          settles = rw is (settles_more folders (folder ∷ []) between before middle done.settles);
        }

    pub seen_push : has_folder changed folder ≡ false → KeepsSynced between new → ShowsTruth new folder
        → SettlesOnly (folder ∷ []) new middle after → SeenDone changed more old new before after
    seen_push own kept shown settles = record {
      kept = keeps_then old between new done.kept kept;
      shown = rw (passed false own) (All-push (ShowsTruth new) (unchanged changed folders) folder
          (All-weaker (ShowsTruth between) (ShowsTruth new) (shows_still between new kept) (unchanged changed folders) done.shown) shown);
      settles = rw is (settles_then folders (folder ∷ []) between new before middle after kept done.settles settles);
    }

-- ---- with the starting folder

pub listed_root : (folders : FolderSet) → folders.has_root ≡ true → listed folders ≡ folders.below ++ [] ∷ []
listed_root folders root = rw root refl

pub listed_below : (folders : FolderSet) → folders.has_root ≡ false → listed folders ≡ folders.below
listed_below folders root = rw root (append-nil folders.below)

module _ (named : Named) (old between new : Waiting)
    (done : AsksAmong (map FileAt named.renamed ++ map FolderAt (those_that_sync old named.changed.below)) old between) where
  pub changed_root : named.changed.has_root ≡ true → AsksFolders ([] ∷ []) between new → AsksChanged named old new
  changed_root root last =
      let files = map FileAt named.renamed in
      let below = map FolderAt (those_that_sync old named.changed.below) in
      let again : AsksAmong (map FolderAt (those_that_sync old ([] ∷ []))) between new =
      subst (λ (some : List (List ℕ)). AsksAmong (map FolderAt some) between new) (same_sync old between done.asks.kept ([] ∷ [])) last in
      let all : files ++ map FolderAt (those_that_sync old (listed named.changed)) ≡ (files ++ below) ++ map FolderAt (those_that_sync old ([] ∷ [])) =
      ap (λ (folders : List (List ℕ)). files ++ map FolderAt (those_that_sync old folders)) (listed_root named.changed root)
      ∙ ap (λ (folders : List (List ℕ)). files ++ map FolderAt folders)
      (filter-append (λ folder. old.opens (FolderAt folder) && old.syncs folder) named.changed.below ([] ∷ []))
      ∙ ap (λ (folders : List Sync). files ++ folders) (map-append FolderAt (those_that_sync old named.changed.below) (those_that_sync old ([] ∷ [])))
      ∙ sym (append_assoc files below (map FolderAt (those_that_sync old ([] ∷ [])))) in
      rw all (among_then (files ++ below) (map FolderAt (those_that_sync old ([] ∷ []))) old between new done again)

  pub changed_below : named.changed.has_root ≡ false → AsksChanged named old between
  changed_below root =
      let all : map FileAt named.renamed ++ map FolderAt (those_that_sync old (listed named.changed))
      ≡ map FileAt named.renamed ++ map FolderAt (those_that_sync old named.changed.below) =
      ap (λ (folders : List (List ℕ)). map FileAt named.renamed ++ map FolderAt (those_that_sync old folders)) (listed_below named.changed root) in
      rw all done

module _ (changed seen : FolderSet) where
  pub seen_none : seen.has_root ≡ false → unchanged changed (listed seen) ≡ unchanged changed seen.below
  seen_none root = ap (unchanged changed) (listed_below seen root)

  pub seen_passed : seen.has_root ≡ true → changed.has_root ≡ true
      → unchanged changed (listed seen) ≡ unchanged changed seen.below
  seen_passed root own = passed changed seen.below (listed seen) [] (listed_root seen root) true own
      ∙ append-nil (unchanged changed seen.below)

  pub seen_root : seen.has_root ≡ true → changed.has_root ≡ false
      → unchanged changed (listed seen) ≡ unchanged changed seen.below ++ [] ∷ []
  seen_root root own = passed changed seen.below (listed seen) [] (listed_root seen root) false own
