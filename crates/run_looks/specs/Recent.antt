-- The paths that were looked at since the last reply.
use Rattle.std.specs.Prelude.{◌≡◌, ◌<◌, ◌≤◌, ◌-◌, ◌^◌, ℕ, Bool, true, List, Option, IfSome, bytes_eq}
use Rattle.std.specs.List.{list_any}
use Rattle.std.specs.FinMap as map
use Rattle.run_looks.specs.Names.{NameSet}
use Rattle.run_looks.specs.Looks.{after_reply, is_after, with_look, with_names, without_path}
use Rattle.run_looks.specs.Standing.{FileStands, RecentStand, Standing}
use Rattle.run_looks.specs.declared.identity.Identity.{Identity}
use Rattle.run_looks.specs.declared.looks.RunLooks.{RunLooks}

-- the path is on a list
abbrev pub is_on_list : List (List ℕ) → List ℕ → Bool
is_on_list paths path = list_any (λ known. bytes_eq path known) paths

-- Each path at which a look was made since the last reply is on the list of recent ones. No look is of a later reply.
pub record RecentIsWhole (looks : RunLooks) : Type 0 where
  pub on_list : (path : List ℕ) → is_after looks.files path looks.reply ≡ true → is_on_list looks.recent path ≡ true
  pub earlier : (path : List ℕ) → IfSome (map.get looks.files path) (λ look. look.reply ≤ looks.reply)

-- a look keeps the list whole
abbrev pub LooksAreListed : Type 0
LooksAreListed =
    (looks : RunLooks) (path : List ℕ) (found : Option Identity)
    → RecentIsWhole looks → RecentIsWhole (with_look looks path found)

-- a listing keeps it whole
abbrev pub NamesKeepRecent : Type 0
NamesKeepRecent =
    (looks : RunLooks) (folder : List ℕ) (names : NameSet)
    → RecentIsWhole looks → RecentIsWhole (with_names looks folder names)

-- what is forgotten leaves it whole
abbrev pub ForgettingKeepsRecent : Type 0
ForgettingKeepsRecent = (looks : RunLooks) (path : List ℕ) → RecentIsWhole looks → RecentIsWhole (without_path looks path)

-- a reply leaves it whole, but for the one after which no more are counted
abbrev pub RepliesKeepRecent : Type 0
RepliesKeepRecent = (looks : RunLooks) → looks.reply < 2 ^ 64 - 1 → RecentIsWhole looks → RecentIsWhole (after_reply looks)

-- if the list is whole and all that is recent stands, then each path at which a look was made since the last reply does
abbrev pub ListedOnesStand : Type 0
ListedOnesStand =
    (disk : Standing) (looks : RunLooks) → RecentIsWhole looks → RecentStand disk looks
    → (path : List ℕ) → is_after looks.files path looks.reply ≡ true → FileStands disk looks.files path
