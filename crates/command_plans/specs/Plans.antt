-- A plan: the change that a command is going to make, and its whole reply.
use Rattle.std.specs.Prelude.{◌≡◌, ◌≢◌, ◌≤◌, ℕ, true, false, List, [], ◌∷◌, ◌++◌, All, Result, Ok, MatchResult, bytes_eq, length}
use Rattle.std.specs.FinMap.{get, insert, remove}
use Rattle.boot_base.specs.Limits.{file_limit}
use Rattle.boot_base.specs.Paths.{Path, intent, is_temp, temp_end}
use Rattle.boot_base.specs.declared.refusal.Refusal.{Refusal}
use Rattle.boot_machine.specs.Disk.{Files, State, has}
use Rattle.boot_machine.specs.Rows.{contents, move_in}
use Rattle.boot_machine.specs.Sent.{seen}
use Rattle.pe_builder.specs.declared.plan.ImageLayout.{ImageLayout}
use Rattle.image_writer.specs.declared.sources.Sources.{Sources}
use Rattle.image_writer.specs.Sourced.{IsSourced, planned_image}
use Rattle.image_writer.specs.Taken.{writing_length}
use Rattle.install_steps.specs.Steps.{Lacks}
use Rattle.command_plans.specs.ReadErrors.{ReadErrorFor}
use Rattle.command_plans.specs.declared.read_error.ReadError.{ReadError}
use Rattle.command_plans.specs.Answers.{Answer}
use Rattle.command_plans.specs.Makeable.{cleaned_text}
use Rattle.command_plans.specs.declared.outcome.MachineFault.{MachineFault}
use Rattle.command_plans.specs.declared.outcome.MachineFault.TheVariants as faults
use Rattle.command_plans.specs.declared.plan.Change.{Change}
use Rattle.command_plans.specs.declared.plan.Change.TheVariants.{Nothing, Remove, Leftovers, Write, Put, Copy, Move}
use Rattle.command_plans.specs.declared.plan.Plan.{Plan}

-- the view with the finished image by a plan of these sources at a path
abbrev pub view_with_image : ImageLayout → Sources → Path → Files → Files
view_with_image plan sources path view = insert view path (planned_image plan sources view)

-- the view with the bytes of the file at one path at another too
abbrev pub with_copy : Path → Path → Files → Files
with_copy from to view = insert view to (contents view from)

-- the view after a change
abbrev pub effect : Files → Change → Files
effect view Nothing = view
effect view (Remove path gone) = remove view path
effect view (Leftovers temps) = view
effect view (Write image sources target) = view_with_image image sources target.path view
effect view (Put target bytes) = insert view target.path bytes
effect view (Copy from target gone) = with_copy from target.path view
effect view (Move from to intent gone exists) = move_in from to view

-- the file is there, and has no more bytes than are read
abbrev pub CanCopy : State → Path → Type 0
CanCopy s from = (has (seen s) from ≡ true) × (length (contents (seen s) from) ≤ file_limit)

-- what the change takes away, copies or moves is there, a copy has no more bytes than are read, nothing stands where a
-- file is moved, and a plan of an image was made for its sources
abbrev pub CanMake : State → Change → Type 0
CanMake s Nothing = Unit {0}
CanMake s (Remove path gone) = has (seen s) path ≡ true
CanMake s (Leftovers temps) = All (λ temp. has s.files temp ≡ true) temps.items
CanMake s (Write image sources target) = IsSourced image sources (seen s)
CanMake s (Put target bytes) = Unit {0}
CanMake s (Copy from target gone) = CanCopy s from
CanMake s (Move from to intent gone exists) = (has (seen s) from ≡ true) × (has (seen s) to ≡ false)

-- how many bytes of files are read to make a change, at most: those that an image is written of, and those of a file
-- that is copied
abbrev pub making_length : Files → Change → ℕ
making_length view Nothing = 0
making_length view (Remove path gone) = 0
making_length view (Leftovers temps) = 0
making_length view (Write image sources target) = writing_length image sources
making_length view (Put target bytes) = 0
making_length view (Copy from target gone) = length (contents view from)
making_length view (Move from to intent gone exists) = 0

-- the temporary files of a change: those that it drops, and the one in which what it writes stands first
abbrev pub own_temps : Change → List Path
own_temps Nothing = []
own_temps (Remove path gone) = []
own_temps (Leftovers temps) = temps.items
own_temps (Write image sources target) = target.temp ∷ []
own_temps (Put target bytes) = target.temp ∷ []
own_temps (Copy from target gone) = target.temp ∷ []
own_temps (Move from to intent gone exists) = intent.temp ∷ []

-- what of the temporary files is gone after a change: of no change none, and no other file
abbrev pub Drops : Change → Files → Files → Type 0
Drops Nothing old new = new ≡ old
Drops (Remove path gone) old new = Unit {0}
Drops (Leftovers temps) old new = Lacks temps.items old new
Drops (Write image sources target) old new = Unit {0}
Drops (Put target bytes) old new = Unit {0}
Drops (Copy from target gone) old new = Unit {0}
Drops (Move from to intent gone exists) old new = Unit {0}

-- What of the temporary files is gone after a fault: if only the reply couldn't be printed, what the change drops.
-- After one of the disk nothing is said.
abbrev pub fault_drops : MachineFault → Change → Files → Files → Type 0
fault_drops faults.Disk change old new = Unit {0}
fault_drops faults.Pipe change old new = Drops change old new

-- what of the temporary files is gone after a change, by what the machine answered
abbrev pub DropsBy : {T : Type 0} → Result T MachineFault → Change → Files → Files → Type 0
DropsBy result change old new =
    MatchResult result (λ _. Drops change old new) (λ fault. fault_drops fault change old new)

-- what a plan comes to
abbrev pub answer_of_plan : Files → Plan → Answer
answer_of_plan view plan = record { outcome = plan.outcome; after = effect view plan.change; text = plan.text }

-- the plan comes to this answer on the state's view, or this is what it is refused for
abbrev pub PlansAs : State → Result Plan ReadError → Result Answer Refusal → Type 0
PlansAs s result meant = MatchResult result
    (λ plan. (meant ≡ Ok (answer_of_plan (seen s) plan)) × CanMake s plan.change)
    (λ read_error. ReadErrorFor read_error meant)

-- the plan comes to this answer on the state's view, and can be carried out
pub record Plans (s : State) (plan : Plan) (answer : Answer) : Type 0 where
  pub answer_is : answer_of_plan (seen s) plan ≡ answer
  pub can_make : CanMake s plan.change

-- A command that answers so leaves this temporary file as it is: it doesn't say that it cleaned, and the file stands
-- neither beside one that stands after it nor beside the intent.
abbrev pub IsSparedBy : Answer → Path → Type 0
IsSparedBy answer q = (bytes_eq answer.text cleaned_text ≡ false)
    × ((p : Path) → q ≡ p ++ temp_end → (has answer.after p ≡ false) × (p ≢ intent))

-- it leaves each such file
abbrev pub SparesTemps : Answer → Files → Files → Type 0
SparesTemps answer old new = (q : Path) → is_temp q ≡ true → IsSparedBy answer q → get new q ≡ get old q
