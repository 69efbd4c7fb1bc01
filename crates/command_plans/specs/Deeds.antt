-- What one command does to the machine, and how far a stop or a fault may leave it. A state is the list of the views
-- that a stop may leave, the last that of the files.
use Rattle.std.specs.Prelude.{◌≡◌, ◌⊎◌, Bool, true, List, [], ◌∷◌, if◌then◌else◌}
use Rattle.boot_machine.specs.Disk.{Files, IsIn}
use Rattle.boot_machine.specs.Rows.{on_channel}
use Rattle.boot_machine.specs.Sent.{Sent, IsPrefix, latest_view}
use Rattle.command_plans.specs.declared.outcome.Outcome.{Outcome}
use Rattle.command_plans.specs.Answers.{Answer, channel_of}

-- whether the machine is settled and so has one view after it, the outcome, the view after it, and what is printed
pub record Deed : Type 0 where
  pub settles : Bool
  pub outcome : Outcome
  pub after : Files
  pub sent : Sent

-- each command settles the machine, and prints its reply on the channel of its outcome
abbrev pub deed_of_answer : Answer → Deed
deed_of_answer answer = record {
  settles = true;
  outcome = answer.outcome;
  after = answer.after;
  sent = on_channel (channel_of answer.outcome) answer.text;
}

-- how a run ends, or that it is stopped
pub data End : Type 0 where
  Stopped : End
  Finished : End
  NoMemory : End
  DiskFails : End
  PipeFails : End

-- the state that a deed leaves
abbrev pub left_by : Deed → List Files → List Files
left_by deed state = if deed.settles then deed.after ∷ [] else state

-- nothing has happened: the state is the same, or a stop leaves one of its views
abbrev pub Stays : List Files → List Files → End → Type 0
Stays old new Stopped = (view : Files) × (new ≡ view ∷ []) × IsIn view old
Stays old new NoMemory = new ≡ old
Stays old new DiskFails = new ≡ old
Stays old new PipeFails = new ≡ old
Stays old new Finished = ⊥

-- The change was made, or may have been, and this is printed of the reply. No byte of the reply is printed before the
-- change can't be undone, and memory is never wanting from the change on.
abbrev pub Acts : Deed → List Files → List Files → Sent → End → Type 0
Acts deed old new part Stopped =
    IsPrefix part deed.sent × ((view : Files) × (new ≡ view ∷ []) × IsIn view (left_by deed old))
Acts deed old new part PipeFails = IsPrefix part deed.sent × (new ≡ left_by deed old)
Acts deed old new part DiskFails =
    (part ≡ []) × ((view : Files) → IsIn view new → (view ≡ latest_view old) ⊎ (view ≡ deed.after))
Acts deed old new part NoMemory = ⊥
Acts deed old new part Finished = ⊥

-- from the state old it came no further than into this deed
abbrev pub Breaks : Deed → List Files → List Files → Sent → End → Type 0
Breaks deed old new part end = ((part ≡ []) × Stays old new end) ⊎ Acts deed old new part end
