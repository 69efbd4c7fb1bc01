-- Which folders are noted, and that nothing else waits.
use Rattle.std.proofs.Common.{◌≡◌, inl, inr, ◌⊎◌, ℕ, Bool, true, false, not, List, [], ◌∷◌, ◌++◌, map, refl, sym, ap, ◌∙◌, subst, bytes_eq, All, if◌then◌else◌, Result, Ok, Err, IfOk}
use Rattle.std.proofs.lemmas.Bool.{cases_Bool, eqb-true}
use Rattle.std.proofs.lemmas.List.Elements.{All-append, All-cons, All-head, All-nil, All-tail, All-weaker}
use Rattle.std.proofs.lemmas.List.Folds.{list_any-append}
use Rattle.std.proofs.lemmas.Slice.Eq.{bytes_eq-Decides}
use Rattle.boot_base.specs.Paths.{is_slash}
use Rattle.name_syncs.specs.Paths.{has_path, paths_without, with_path}
use Rattle.name_syncs.specs.Folders.{FoldersAreAbove, IsAbove, NotedAreListed, folders_above, has_folder, listed, nearest, parent_folder, parts_before_slashes, unsettled, unsettled_above, with_folder, with_folders}
use Rattle.name_syncs.specs.Named.{Covers, IsSynced, NameWaits, NamesAreCovered, NothingWaits, RenameWaits, RenamesAreCovered, SettledAreCovered, owned, renamed_with}
use Rattle.name_syncs.specs.Waiting.{KeepsSynced, NeedsNoSync, ShowsTruth, Waiting}
use Rattle.name_syncs.specs.declared.folders.FolderSet.{FolderSet}
use Rattle.name_syncs.specs.declared.named.Named.{Named}
use Rattle.name_syncs.proofs.Syncing.{either, in_back, in_front, itself, needs_shows, shows_still, unchanged}

unlike : false ≡ true → ⊥
unlike is = cc

split : (front back : List (List ℕ)) (path : List ℕ) → has_path (front ++ back) path ≡ true
    → (has_path front path ≡ true) ⊎ (has_path back path ≡ true)
split front back path there =
    either (has_path front path) (has_path back path) (sym (list_any-append (λ known. bytes_eq known path) front back) ∙ there)

alone : (known path : List ℕ) → has_path (known ∷ []) path ≡ true → known ≡ path
alone known path there = elim (either (bytes_eq known path) false there) [
  | inl same ↦ (bytes_eq-Decides known path).0 same
  | inr none ↦ absurd (unlike none)
]

-- ---- the folders above a path

-- the path without its first byte is among those
pub record HasRest (byte : ℕ) (paths : List (List ℕ)) (path : List ℕ) : Type 0 where
  pub rest : List ℕ
  pub whole : path ≡ byte ∷ rest
  pub there : has_path paths rest ≡ true

in_mapped : (byte : ℕ) (paths : List (List ℕ)) (path : List ℕ) → has_path (map (λ part. byte ∷ part) paths) path ≡ true
    → HasRest byte paths path
in_mapped byte [] path there = absurd (unlike there)
in_mapped byte (known ∷ paths) path there =
    elim (either (bytes_eq (byte ∷ known) path) (has_path (map (λ part. byte ∷ part) paths) path) there) [
      | inl same ↦ record {
        rest = known;
        whole = sym ((bytes_eq-Decides (byte ∷ known) path).0 same);
        there = in_front (known ∷ []) paths known (itself known);
      }
      | inr later ↦
          let r = in_mapped byte paths path later in
          record { rest = r.rest; whole = r.whole; there = in_back (known ∷ []) paths r.rest r.there }
    ]

mapped_in : (byte : ℕ) (paths : List (List ℕ)) (path : List ℕ) → has_path paths path ≡ true
    → has_path (map (λ part. byte ∷ part) paths) (byte ∷ path) ≡ true
mapped_in byte [] path there = absurd (unlike there)
mapped_in byte (known ∷ paths) path there = elim (split (known ∷ []) paths path there) [
  | inl first ↦
      let same = alone known path first in
      in_front ((byte ∷ known) ∷ []) (map (λ part. byte ∷ part) paths) (byte ∷ path)
      (subst (λ (p : List ℕ). has_path ((byte ∷ known) ∷ []) (byte ∷ p) ≡ true) same (itself (byte ∷ known)))
  | inr later ↦
      in_back ((byte ∷ known) ∷ []) (map (λ part. byte ∷ part) paths) (byte ∷ path) (mapped_in byte paths path later)
]

starting : (slash : Bool) (folder : List ℕ) → has_path (if slash then [] ∷ [] else []) folder ≡ true → (slash ≡ true) × ([] ≡ folder)
starting true folder there = (refl, alone [] folder there)
starting false folder there = absurd (unlike there)

part_is_above : (path folder : List ℕ) → has_path (parts_before_slashes path) folder ≡ true → (rest : List ℕ) × (path ≡ folder ++ 47 ∷ rest)
part_is_above [] folder there = absurd (unlike there)
part_is_above (byte ∷ path) folder there =
    elim (split (map (λ part. byte ∷ part) (parts_before_slashes path)) (if is_slash byte then [] ∷ [] else []) folder there) [
      | inl deeper ↦
          let r = in_mapped byte (parts_before_slashes path) folder deeper in
          let below = part_is_above path r.rest r.there in
          (below.0, ap (λ (p : List ℕ). byte ∷ p) below.1 ∙ ap (λ (f : List ℕ). f ++ 47 ∷ below.0) (sym r.whole))
      | inr here ↦
          let start = starting (is_slash byte) folder here in
          (path, ap (λ (b : ℕ). b ∷ path) (eqb-true byte 47 start.0) ∙ ap (λ (f : List ℕ). f ++ 47 ∷ path) start.1)
    ]

above_is_part : (folder rest : List ℕ) → has_path (parts_before_slashes (folder ++ 47 ∷ rest)) folder ≡ true
above_is_part [] rest = in_back (map (λ part. 47 ∷ part) (parts_before_slashes rest)) ([] ∷ []) [] (itself [])
above_is_part (byte ∷ folder) rest =
    in_front (map (λ part. byte ∷ part) (parts_before_slashes (folder ++ 47 ∷ rest))) (if is_slash byte then [] ∷ [] else []) (byte ∷ folder)
    (mapped_in byte (parts_before_slashes (folder ++ 47 ∷ rest)) folder (above_is_part folder rest))

pub above_there : (path folder : List ℕ) → IsAbove folder path → has_path (folders_above path) folder ≡ true
above_there path folder (inl root) = rw root (in_back (parts_before_slashes path) ([] ∷ []) [] (itself []))
above_there path folder (inr below) =
    in_front (parts_before_slashes path) ([] ∷ []) folder
    (subst (λ (p : List ℕ). has_path (parts_before_slashes p) folder ≡ true) (sym below.1) (above_is_part folder below.0))

there_above : (path folder : List ℕ) → has_path (folders_above path) folder ≡ true → IsAbove folder path
there_above path folder there = elim (split (parts_before_slashes path) ([] ∷ []) folder there) [
  | inl part ↦ inr (part_is_above path folder part)
  | inr root ↦ inl (sym (alone [] folder root))
]

pub folders_are_above : FoldersAreAbove
folders_are_above path folder = (there_above path folder, above_there path folder)

-- ---- what is noted is gone through

with_path-kept : (found : Bool) (paths : List (List ℕ)) (path other : List ℕ) → has_path paths other ≡ true
    → has_path (if found then paths else (paths ++ path ∷ [])) other ≡ true
with_path-kept true paths path other there = there
with_path-kept false paths path other there = in_front paths (path ∷ []) other there

with_path-there : (found : Bool) (paths : List (List ℕ)) (path : List ℕ) → has_path paths path ≡ found
    → has_path (if found then paths else (paths ++ path ∷ [])) path ≡ true
with_path-there true paths path is = is
with_path-there false paths path is = in_back paths (path ∷ []) path (itself path)

listed_kept : (folders : FolderSet) (folder other : List ℕ) → has_path (listed folders) other ≡ true
    → has_path (listed (with_folder folders folder)) other ≡ true
listed_kept folders [] other there = elim (split folders.below (if folders.has_root then [] ∷ [] else []) other there) [
  | inl below ↦ in_front folders.below ([] ∷ []) other below
  | inr root ↦ in_back folders.below ([] ∷ []) other
      (subst (λ (f : List ℕ). has_path ([] ∷ []) f ≡ true) (starting folders.has_root other root).1 (itself []))
]
listed_kept folders (byte ∷ folder) other there =
    let root = if folders.has_root then [] ∷ [] else [] in
    let more = with_path folders.below (byte ∷ folder) in
    elim (split folders.below root other there) [
      | inl below ↦ in_front more root other
          (with_path-kept (has_path folders.below (byte ∷ folder)) folders.below (byte ∷ folder) other below)
      | inr same ↦ in_back more root other same
    ]

listed_new : (folders : FolderSet) (folder : List ℕ) → has_path (listed (with_folder folders folder)) folder ≡ true
listed_new folders [] = in_back folders.below ([] ∷ []) [] (itself [])
listed_new folders (byte ∷ folder) =
    in_front (with_path folders.below (byte ∷ folder)) (if folders.has_root then [] ∷ [] else []) (byte ∷ folder)
    (with_path-there (has_path folders.below (byte ∷ folder)) folders.below (byte ∷ folder) refl)

pub noted_are_listed : NotedAreListed
noted_are_listed folders [] folder (inl there) = there
noted_are_listed folders [] folder (inr none) = absurd (unlike none)
noted_are_listed folders (first ∷ more) folder (inl there) =
    noted_are_listed (with_folder folders first) more folder (inl (listed_kept folders first folder there))
noted_are_listed folders (first ∷ more) folder (inr there) = elim (split (first ∷ []) more folder there) [
  | inl here ↦
      let same = alone first folder here in
      noted_are_listed (with_folder folders first) more folder
      (inl (subst (λ (f : List ℕ). has_path (listed (with_folder folders first)) f ≡ true) same (listed_new folders first)))
  | inr later ↦ noted_are_listed (with_folder folders first) more folder (inr later)
]

-- ---- what changes is covered

-- a file that waits at its new name is noted
renamed_there : (named : Named) (old new : Waiting) (to : List ℕ) → Covers named old
    → ((path : List ℕ) → new.files path ≡ true → (old.files path ≡ true) ⊎ (path ≡ to))
    → (path : List ℕ) → new.files path ≡ true → has_path (with_path named.renamed to) path ≡ true
renamed_there named old new to covers waits path waiting = elim (waits path waiting) [
  | inl before ↦ with_path-kept (has_path named.renamed to) named.renamed to path (covers.files path before)
  | inr here ↦ subst (λ (p : List ℕ). has_path (with_path named.renamed to) p ≡ true) (sym here)
      (with_path-there (has_path named.renamed to) named.renamed to refl)
]

-- a folder that is among some is so beside another one
own_kept : (folders : FolderSet) (folder other : List ℕ) → has_folder folders other ≡ true
    → has_folder (with_folder folders folder) other ≡ true
own_kept folders [] [] there = refl
own_kept folders [] (byte ∷ other) there = there
own_kept folders (byte ∷ folder) [] there = there
own_kept folders (byte ∷ folder) (first ∷ other) there =
    with_path-kept (has_path folders.below (byte ∷ folder)) folders.below (byte ∷ folder) (first ∷ other) there

own_there : (folders : FolderSet) (folder : List ℕ) → has_folder (with_folder folders folder) folder ≡ true
own_there folders [] = refl
own_there folders (byte ∷ folder) =
    with_path-there (has_path folders.below (byte ∷ folder)) folders.below (byte ∷ folder) refl

-- the folder that a path is in is the first of those above it
parent_first : (path : List ℕ) → (rest : List (List ℕ)) × (folders_above path ≡ parent_folder path ∷ rest)
parent_first path = by_parts (parts_before_slashes path)
  where
    by_parts : (parts : List (List ℕ)) → (rest : List (List ℕ)) × (parts ++ [] ∷ [] ≡ nearest parts ∷ rest)
    by_parts [] = ([], refl)
    by_parts (folder ∷ higher) = (higher ++ [] ∷ [], refl)

-- so it is among them, and among the unsettled ones
parent_above : (path : List ℕ) → has_path (folders_above path) (parent_folder path) ≡ true
parent_above path =
    let first = parent_first path in
    rw first.1 (in_front (parent_folder path ∷ []) first.0 (parent_folder path) (itself (parent_folder path)))

parent_unsettled : (settled : FolderSet) (path : List ℕ)
    → has_path (unsettled settled (folders_above path)) (parent_folder path) ≡ true
parent_unsettled settled path =
    let first = parent_first path in
    rw first.1 (in_front (parent_folder path ∷ []) (unsettled_above settled (parent_folder path) first.0)
    (parent_folder path) (itself (parent_folder path)))

-- these folders are noted beside those before, and the one of the path is among them
name_covered : (named : Named) (old new : Waiting) (path : List ℕ) (more : List (List ℕ))
    → has_path more (parent_folder path) ≡ true → Covers named old → NameWaits old new path
    → Covers (record (owned named path) { changed = with_folders named.changed more }) new
name_covered named old new path more there covers waits = record {
  files = λ other waiting. covers.files other (waits.files other waiting);
  folders = λ folder waiting. noted_are_listed named.changed more folder (elim (waits.folders folder waiting) [
    | inl before ↦ inl (covers.folders folder before)
    | inr here ↦ inr (ap (has_path more) here ∙ there)
  ]);
  own = λ folder waiting. elim (waits.folders folder waiting) [
    | inl before ↦ own_kept named.own (parent_folder path) folder (covers.own folder before)
    | inr here ↦ ap (has_folder (with_folder named.own (parent_folder path))) here ∙ own_there named.own (parent_folder path)
  ];
}

pub names_are_covered : NamesAreCovered
names_are_covered named old new path covers waits = (
  name_covered named old new path (parent_folder path ∷ []) (itself (parent_folder path)) covers waits,
  name_covered named old new path (unsettled named.settled (folders_above path)) (parent_unsettled named.settled path) covers waits,
)

rename_covered : (named : Named) (old new : Waiting) (from to : List ℕ) (front back : List (List ℕ))
    → has_path front (parent_folder to) ≡ true → has_path back (parent_folder from) ≡ true
    → Covers named old → RenameWaits old new from to → Covers (renamed_with named from to (front ++ back)) new
rename_covered named old new from to front back to_there from_there covers waits =
    let owned_to = with_folder named.own (parent_folder to) in
    record {
      files = renamed_there named old new to covers waits.files;
      folders = λ folder waiting. noted_are_listed named.changed (front ++ back) folder (elim (waits.folders folder waiting) [
        | inl before ↦ inl (covers.folders folder before)
        | inr here ↦ inr (elim here [
          | inl new_one ↦ ap (has_path (front ++ back)) new_one ∙ in_front front back (parent_folder to) to_there
          | inr old_one ↦ ap (has_path (front ++ back)) old_one ∙ in_back front back (parent_folder from) from_there
        ])
      ]);
      own = λ folder waiting. elim (waits.folders folder waiting) [
        | inl before ↦ own_kept owned_to (parent_folder from) folder (own_kept named.own (parent_folder to) folder (covers.own folder before))
        | inr here ↦ elim here [
          | inl new_one ↦ own_kept owned_to (parent_folder from) folder (ap (has_folder owned_to) new_one ∙ own_there named.own (parent_folder to))
          | inr old_one ↦ ap (has_folder (with_folder owned_to (parent_folder from))) old_one ∙ own_there owned_to (parent_folder from)
        ]
      ];
    }

pub renames_are_covered : RenamesAreCovered
renames_are_covered named old new from to covers waits =
    rename_covered named old new from to (unsettled named.settled (folders_above to)) (unsettled named.settled (folders_above from))
    (parent_unsettled named.settled to) (parent_unsettled named.settled from) covers waits

-- a path that is taken away takes no other one with it
without_kept : (paths : List (List ℕ)) (path other : List ℕ) → (path ≡ other → ⊥) → has_path paths other ≡ true
    → has_path (paths_without paths path) other ≡ true
without_kept [] path other unlike_path there = there
without_kept (known ∷ paths) path other unlike_path there =
    by_test (bytes_eq known path) refl (split (known ∷ []) paths other there) (without_kept paths path other unlike_path)
  where
    by_test : (same : Bool) → bytes_eq known path ≡ same → (has_path (known ∷ []) other ≡ true) ⊎ (has_path paths other ≡ true)
        → (has_path paths other ≡ true → has_path (paths_without paths path) other ≡ true)
        → has_path (if not same then known ∷ paths_without paths path else paths_without paths path) other ≡ true
    by_test true same (inl here) later =
        absurd (unlike_path (sym ((bytes_eq-Decides known path).0 same) ∙ alone known other here))
    by_test true same (inr below) later = later below
    by_test false same (inl here) later = in_front (known ∷ []) (paths_without paths path) other here
    by_test false same (inr below) later = in_back (known ∷ []) (paths_without paths path) other (later below)

pub settled_are_covered : SettledAreCovered
settled_are_covered named disk path covers synced = record {
  files = λ other waiting. without_kept named.renamed path other
      (λ same. unlike (sym synced ∙ ap disk.files same ∙ waiting)) (covers.files other waiting);
  folders = covers.folders;
  own = covers.own;
}

-- ---- nothing waits

pub all_there : (P : List ℕ → Type 0) (paths : List (List ℕ)) (path : List ℕ) → All P paths → has_path paths path ≡ true → P path
all_there P [] path all there = absurd (unlike there)
all_there P (known ∷ paths) path all there = elim (split (known ∷ []) paths path there) [
  | inl here ↦ subst P (alone known path here) (All-head P known paths all)
  | inr later ↦ all_there P paths path (All-tail P known paths all) later
]

-- a folder that needs no sync doesn't wait, if the run has changed a name in each that does
done_folder : (own : FolderSet) (old new : Waiting) (folder : List ℕ) → KeepsSynced old new
    → ((other : List ℕ) → old.folders other ≡ true → has_folder own other ≡ true) → old.folders folder ≡ true
    → NeedsNoSync own new folder → new.folders folder ≡ false
done_folder own old new folder kept owns waiting (inl on) = on.names
done_folder own old new folder kept owns waiting (inr unable) = absurd (unlike (sym unable.0 ∙ owns folder waiting))

pub nothing_waits : (named : Named) (old new : Waiting) → KeepsSynced old new → IsSynced named new → Covers named old
    → NothingWaits new
nothing_waits named old new kept synced covers = record {
  files = λ path. elim (cases_Bool (old.files path)) [
    | inl waiting ↦ all_there (λ one. new.files one ≡ false) named.renamed path synced.files (covers.files path waiting)
    | inr done ↦ kept.files path done
  ];
  folders = λ folder. elim (cases_Bool (old.folders folder)) [
    | inl waiting ↦ done_folder named.own old new folder kept covers.own waiting
        (all_there (NeedsNoSync named.own new) (listed named.changed) folder synced.folders (covers.folders folder waiting))
    | inr done ↦ kept.folders folder done
  ];
}

-- if the answer is Ok, and all that waited was noted, nothing waits behind the sync
pub if_nothing_waits : {F : Type 0} (result : Result (Unit {0}) F) (tells : Type 0) (named : Named) (old new : Waiting)
    → (tells → KeepsSynced old new) → IfOk result (λ _. tells → IsSynced named new)
    → IfOk result (λ _. tells → Covers named old → NothingWaits new)
if_nothing_waits (Ok _) tells named old new kept synced = λ told. nothing_waits named old new (kept told) (synced told)
if_nothing_waits (Err _) tells named old new kept synced = synced

-- ---- what the folders show is on the disk

-- a folder that is among some is gone through
has_listed : (folders : FolderSet) (folder : List ℕ) → has_folder folders folder ≡ true → has_path (listed folders) folder ≡ true
has_listed folders [] there = rw there (in_back folders.below ([] ∷ []) [] (itself []))
has_listed folders (byte ∷ folder) there =
    in_front folders.below (if folders.has_root then [] ∷ [] else []) (byte ∷ folder) there

-- those that were changed show the truth, and so do the others of these
seen_show : (changed : FolderSet) (disk : Waiting) (folders : List (List ℕ)) → All (ShowsTruth disk) (listed changed)
    → All (ShowsTruth disk) (unchanged changed folders) → All (ShowsTruth disk) folders
seen_show changed disk [] changes others = All-nil (ShowsTruth disk)
seen_show changed disk (folder ∷ folders) changes others =
    by_test (has_folder changed folder) refl others (seen_show changed disk folders changes)
  where
    by_test : (own : Bool) → has_folder changed folder ≡ own
        → All (ShowsTruth disk) (if not own then (folder ∷ unchanged changed folders) else unchanged changed folders)
        → (All (ShowsTruth disk) (unchanged changed folders) → All (ShowsTruth disk) folders)
        → All (ShowsTruth disk) (folder ∷ folders)
    by_test true own others later = All-cons (ShowsTruth disk) folder folders
        (all_there (ShowsTruth disk) (listed changed) folder changes (has_listed changed folder own)) (later others)
    by_test false own others later = All-cons (ShowsTruth disk) folder folders
        (All-head (ShowsTruth disk) folder (unchanged changed folders) others)
        (later (All-tail (ShowsTruth disk) folder (unchanged changed folders) others))

-- behind the sync of what has changed and that of what was seen
pub all_show : (named : Named) (between new : Waiting) → KeepsSynced between new → IsSynced named between
    → All (ShowsTruth new) (unchanged named.changed (listed named.seen))
    → All (ShowsTruth new) (listed named.changed ++ listed named.seen)
all_show named between new kept synced seen =
    let changed = All-weaker (NeedsNoSync named.own between) (ShowsTruth new)
    (λ folder needs. shows_still between new kept folder (needs_shows named.own between folder needs)) (listed named.changed) synced.folders in
    All-append (ShowsTruth new) (listed named.changed) (listed named.seen) changed
    (seen_show named.changed new (listed named.seen) changed seen)

-- behind both syncs the folders that were changed and those that were seen show the truth, if the answer is Ok
pub if_all_show : {F : Type 0} (result : Result (Unit {0}) F) (tells : Type 0) (named again : Named) (between new : Waiting)
    → again.changed ≡ named.changed → again.seen ≡ named.seen
    → (tells → KeepsSynced between new) → (tells → IsSynced named between)
    → IfOk result (λ _. tells → All (ShowsTruth new) (unchanged again.changed (listed again.seen)))
    → IfOk result (λ _. tells → All (ShowsTruth new) (listed named.changed ++ listed named.seen))
if_all_show (Ok _) tells named again between new changed seen kept synced shown = λ told.
    let others = rw (changed, seen) at (shown told) in
    all_show named between new (kept told) (synced told) others
if_all_show (Err _) tells named again between new changed seen kept synced shown = shown
