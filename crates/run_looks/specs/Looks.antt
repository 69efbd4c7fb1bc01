-- What a run has looked at.
use Rattle.std.specs.Prelude.{◌≡◌, ◌⊎◌, ◌==◌, ◌&&◌, ◌+◌, ◌-◌, ◌^◌, min, ℕ, Bool, true, false, List, [], ◌∷◌, ◌++◌, Option, Some, None, IfSome, is_some, option_and_then, if◌then◌else◌}
use Rattle.std.specs.Option.{option_map_or}
use Rattle.std.specs.Ordering.{nat_cmp}
use Rattle.std.specs.Cmp.Lexicographic.{slice_cmp}
use Rattle.std.specs.FinMap as map
use Rattle.std.specs.FinSet as set
use Rattle.boot_base.specs.Paths.{file_name_of, is_temp}
use Rattle.run_looks.specs.Names.{NameSet}
use Rattle.name_syncs.specs.Folders.{parent_folder}
use Rattle.run_looks.specs.declared.identity.Identity.{Identity}
use Rattle.run_looks.specs.declared.identity.Look.{Look}
use Rattle.run_looks.specs.declared.identity.Listing.{Listing}
use Rattle.run_looks.specs.declared.looks.RunLooks.{RunLooks}

-- the first look at each path that isn't forgotten
abbrev pub FileLooks : Type 0
FileLooks = map.FinMap (slice_cmp nat_cmp) Look

-- the first names of each folder that aren't forgotten
abbrev pub Listings : Type 0
Listings = map.FinMap (slice_cmp nat_cmp) Listing

-- what was found first at a path, or this if there is no look at it
abbrev pub found_first : FileLooks → List ℕ → Option Identity → Option Identity
found_first looks path found = option_map_or (λ look. look.found) (map.get looks path) found

-- a look at a path was made after so many replies
abbrev pub is_after : FileLooks → List ℕ → ℕ → Bool
is_after looks path reply = option_map_or (λ look. look.reply == reply) (map.get looks path) false

-- the looks, of which the one at a path, if there is one, was made once more after so many replies
abbrev pub touched_at : FileLooks → List ℕ → ℕ → FileLooks
touched_at looks path reply =
    option_map_or (λ look. map.insert looks path (record look { reply = reply })) (map.get looks path) looks

-- A path is looked at, and this is found. What was found first stays.
abbrev pub with_look : RunLooks → List ℕ → Option Identity → RunLooks
with_look looks path found = record looks {
  files = map.insert looks.files path (record { found = found_first looks.files path found; reply = looks.reply });
  recent = if is_after looks.files path looks.reply then looks.recent else (looks.recent ++ path ∷ []);
  has_unchecked = if is_after looks.files path looks.reply then looks.has_unchecked else true;
}

-- There was no memory for a look at a path. The list of recent ones may have it, and nothing is said to be checked.
pub record IsStarved (path : List ℕ) (old new : RunLooks) : Type 0 where
  pub recent : (new.recent ≡ old.recent) ⊎ (new.recent ≡ old.recent ++ path ∷ [])
  pub unchecked : new.has_unchecked ≡ true
  pub listings : new.listings ≡ old.listings
  pub reply : new.reply ≡ old.reply

-- a folder is listed, and has these names
abbrev pub with_names : RunLooks → List ℕ → NameSet → RunLooks
with_names looks folder names = record looks {
  listings = map.insert looks.listings folder (record { names = names; reply = looks.reply });
  has_unchecked = true;
}

-- the names that a folder had first are these, if it was listed
abbrev pub HadNames : RunLooks → List ℕ → NameSet → Type 0
HadNames looks folder names = IfSome (map.get looks.listings folder) (λ listing. listing.names ≡ names)

-- without the names of a folder
abbrev pub without_names : RunLooks → List ℕ → RunLooks
without_names looks folder = record looks { listings = map.remove looks.listings folder }

-- Without the look at a path, and without the names of its folder unless it is that of a temporary file.
abbrev pub without_path : RunLooks → List ℕ → RunLooks
without_path looks path = record looks {
  files = map.remove looks.files path;
  listings = if is_temp path then looks.listings else map.remove looks.listings (parent_folder path);
}

-- a regular file was found at a path since the last reply
abbrev pub is_known_file : RunLooks → List ℕ → Bool
is_known_file looks path =
    option_map_or (λ look. look.reply == looks.reply && is_some look.found) (map.get looks.files path) false

-- the look at a path that was made since the last reply
abbrev pub recent_look : RunLooks → List ℕ → Option Look
recent_look looks path =
    option_and_then (λ look. if look.reply == looks.reply then Some look else None) (map.get looks.files path)

-- a folder was listed, and had the name that a path ends in
abbrev pub has_listed : RunLooks → List ℕ → Bool
has_listed looks path =
    option_map_or (λ listing. set.contains listing.names (file_name_of path)) (map.get looks.listings
    (parent_folder path)) false

-- a reply is given: no path was looked at since then
abbrev pub after_reply : RunLooks → RunLooks
after_reply looks = record looks { recent = []; reply = min (looks.reply + 1) (2 ^ 64 - 1) }
