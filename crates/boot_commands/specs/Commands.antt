-- What each command of one action and each action of a command of several does to a machine.
use Rattle.std.specs.Prelude.{◌≡◌, ◌≢◌, ℕ, All, Bool, IsTrue, List, Result, MatchResult}
use Rattle.boot_base.specs.Paths.{Path}
use Rattle.boot_machine.specs.Counts.{Counts}
use Rattle.boot_machine.specs.Disk.{Files, State}
use Rattle.tool_words.specs.declared.command.One.{One}
use Rattle.tool_words.specs.declared.command.One.TheVariants as one
use Rattle.tool_words.specs.declared.action.Action.{Action}
use Rattle.tool_words.specs.declared.action.Action.TheVariants as action
use Rattle.command_plans.specs.Deeds.{Deed, deed_of_answer}
use Rattle.command_plans.specs.Performs.{CountsRunError, LeavesNoTemp}
use Rattle.command_plans.specs.Plans.{IsSparedBy}
use Rattle.command_plans.specs.declared.outcome.RunError.{RunError}
use Rattle.command_plans.specs.declared.outcome.RunError.TheVariants as run_errors
use Rattle.command_plans.specs.Folders.{folders_of}
use Rattle.entry_commands.specs.Tidying.{IsTidied, KeepsElsewhere, StandsAt}
use Rattle.type1_install.specs.Placing.{comparing_length}
use Rattle.boot_commands.specs.Replies.{one_reply, action_reply}

-- what a command of one action does to the machine that shows this view
abbrev pub one_deed : Files → One → Deed
one_deed view c = deed_of_answer (one_reply view c)

-- what an action does to it
abbrev pub action_deed : Files → Action → Deed
action_deed view action = deed_of_answer (action_reply view action)

-- how many bytes of files are read to plan an action, at most: those of a file that is put are compared
abbrev pub action_length : Files → Action → ℕ
action_length view (action.Put file target) = comparing_length view file target
action_length view (action.Enter path text) = 0
action_length view (action.Remove path) = 0
action_length view (action.Refuse why) = 0
action_length view (action.Tell text) = 0

-- what of the files a command leaves that the view doesn't show: after a tidying no temporary file is in its folders
abbrev pub LeavesTidied : One → Files → Type 0
LeavesTidied (one.Tidy esp) files = IsTidied esp files
LeavesTidied c files = Unit {0}

-- a command has tidied that is done, or that printed a part of its reply before a pipe failed
abbrev pub run_error_tidies : RunError → One → State → State → Type 0
run_error_tidies run_errors.Disk c old new = Unit {0}
run_error_tidies run_errors.Pipe c old new = new.printed ≢ old.printed → LeavesTidied c new.files
run_error_tidies run_errors.Memory c old new = Unit {0}

-- what of temporary files is gone after a command, by what it returned: after Ok it has tidied, after an error as far
-- as that tells
abbrev pub TidiesTo : {T : Type 0} → Result T RunError → One → State → State → Type 0
TidiesTo result c old new =
    MatchResult result (λ _. LeavesTidied c new.files) (λ error. run_error_tidies error c old new)

-- these temporary files may be those of this command: those of a tidying stand in its two folders
abbrev pub MayOwn : One → List Path → Type 0
MayOwn (one.Tidy esp) temps = All (StandsAt (folders_of esp)) temps
MayOwn c temps = Unit {0}

-- a tidying leaves the temporary files elsewhere than in its two folders as they are
abbrev pub TidiesThere : One → Files → Files → Type 0
TidiesThere c old new = (esp : List ℕ) → c ≡ one.Tidy esp → KeepsElsewhere esp old new

-- The command leaves this temporary file of a machine that shows this view as it is: a tidying each that stands elsewhere
-- than in its two folders, and any other command what its answer spares.
abbrev pub OneSpares : Files → One → Path → Type 0
OneSpares view (one.Tidy esp) q = StandsAt (folders_of esp) q → ⊥
OneSpares view c q = IsSparedBy (one_reply view c) q

-- How a command behaves, however it ends: it takes no input, it leaves no new temporary file unless the disk failed, and a
-- fault has its cause.
pub record Behaves {D T : Type 0} (tells : Bool) (state : D → State) (counts : D → Counts) (old new : D)
    (result : Result T RunError) : Type 0 where
  pub input : IsTrue tells → (state new).input ≡ (state old).input
  pub temps : IsTrue tells → LeavesNoTemp result (state old) (state new)
  pub counted : CountsRunError result (counts old) (counts new)
