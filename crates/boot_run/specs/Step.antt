-- A run in the words of the reference: its replies, the views between them, and how many of them are acknowledged.
use Rattle.std.specs.Prelude.{◌≡◌, ◌≢◌, ◌⊎◌, ℕ, ◌+◌, ◌≤◌, ◌<◌, ◌||◌, Bool, true, false, List, [], ◌∷◌, ◌++◌, length, take, Result, Ok, Err}
use Rattle.boot_machine.specs.Disk.{Files, IsIn}
use Rattle.boot_machine.specs.Rows.{on_channel}
use Rattle.boot_machine.specs.Sent.{Sent, IsPrefix, latest_view}
use Rattle.boot_machine.specs.declared.machine.Channel.TheVariants.{Err as ErrChannel}
use Rattle.command_plans.specs.Answers.{is_refusal}
use Rattle.command_plans.specs.Deeds.{End, Stopped, Finished, NoMemory, DiskFails, PipeFails, Stays}
use Rattle.tool_words.specs.declared.fault.UsageReason.{UsageReason}
use Rattle.boot_run.specs.AskedLines.{usage_line}
use Rattle.boot_run.specs.Lines.{line_deed, is_unread}
use Rattle.boot_run.specs.declared.line.Line.{Line}

-- the replies of the lines, from a view on
abbrev pub replies : Files → List Line → List Sent
replies view [] = []
replies view (line ∷ lines) = (line_deed view line).sent ∷ replies (line_deed view line).after lines

-- the view after some lines. Below, S(k) is that after the first k of n lines
abbrev pub view_after : Files → List Line → Files
view_after view [] = view
view_after view (line ∷ lines) = view_after (line_deed view line).after lines

-- joined end to end
abbrev pub join_replies : List Sent → Sent
join_replies [] = []
join_replies (reply ∷ rest) = reply ++ join_replies rest

-- k is the greatest number for which the first k replies joined are a prefix of what was printed
pub record Acknowledges (all : List Sent) (sent : Sent) (k : ℕ) : Type 0 where
  pub within : k ≤ length all
  pub whole : IsPrefix (join_replies (take k all)) sent
  pub most : (j : ℕ) → j ≤ length all → IsPrefix (join_replies (take j all)) sent → j ≤ k

-- none of these lines is a command
abbrev pub AllUnread : List Line → Type 0
AllUnread [] = Unit {0}
AllUnread (line ∷ lines) = (is_unread line ≡ true) × AllUnread lines

-- no more is printed than the replies to leading lines that are no command
pub record PrintsUnread (view : Files) (lines : List Line) (sent : Sent) : Type 0 where
  pub leading : ℕ
  pub unread : AllUnread (take leading lines)
  pub front : IsPrefix sent (join_replies (replies view (take leading lines)))

-- the state is the same, also where the run came to its end, or a stop left one of its views
abbrev pub KeepsViews : List Files → List Files → End → Type 0
KeepsViews old new Finished = new ≡ old
KeepsViews old new Stopped = Stays old new Stopped
KeepsViews old new NoMemory = Stays old new NoMemory
KeepsViews old new DiskFails = Stays old new DiskFails
KeepsViews old new PipeFails = Stays old new PipeFails

-- Early: no more is printed than replies to leading lines that are no command, and the state is that of the start.
pub record IsEarly (old : List Files) (lines : List Line) (new : List Files) (sent : Sent) (end : End)
    (k : ℕ) : Type 0 where
  pub leading : ℕ
  pub unread : AllUnread (take leading lines)
  pub enough : k ≤ leading
  pub front : IsPrefix sent (join_replies (take leading (replies (latest_view old) lines)))
  pub kept : KeepsViews old new end

-- Late: each view is S(k) or S(k+1), and S(k) where k = n. After a status other than 3 they are equal, after 5 they are
-- S(k).
pub record IsLate (old : List Files) (lines : List Line) (new : List Files) (end : End) (k : ℕ) : Type 0 where
  pub views : (v : Files) → IsIn v new → (v ≡ view_after (latest_view old) (take k lines))
      ⊎ ((k < length lines) × (v ≡ view_after (latest_view old) (take (k + 1) lines)))
  pub equal : end ≢ DiskFails → (v w : Files) → IsIn v new → IsIn w new → v ≡ w
  pub no_memory : end ≡ NoMemory → (v : Files) → IsIn v new → v ≡ view_after (latest_view old) (take k lines)

-- From the state old a run over these lines may print this and leave the state new, at a status, an error or a stop. A
-- fault of the disk comes at a line: not all are acknowledged then.
pub record Step (old : List Files) (lines : List Line) (new : List Files) (sent : Sent) (end : End) : Type 0 where
  pub acked : ℕ
  pub is_acked : Acknowledges (replies (latest_view old) lines) sent acked
  pub front : IsPrefix sent (join_replies (replies (latest_view old) lines))
  pub finished : end ≡ Finished → sent ≡ join_replies (replies (latest_view old) lines)
  pub no_memory : end ≡ NoMemory → sent ≡ join_replies (take acked (replies (latest_view old) lines))
  pub disk : end ≡ DiskFails → sent ≡ join_replies (take acked (replies (latest_view old) lines))
  pub not_all : end ≡ DiskFails → acked < length lines
  pub case : IsEarly old lines new sent end acked ⊎ IsLate old lines new end acked

-- Words that are no command: a part of this line is printed, and the state stays.
pub record UsageStep (old : List Files) (line : Sent) (new : List Files) (sent : Sent) (end : End) : Type 0 where
  pub front : IsPrefix sent line
  pub finished : end ≡ Finished → sent ≡ line
  pub no_memory : end ≡ NoMemory → sent ≡ []
  pub kept : KeepsViews old new end

-- a step by what the words ask for
abbrev pub StepBy : List Files → Result (List Line) UsageReason → List Files → Sent → End → Type 0
StepBy old (Ok lines) new sent end = Step old lines new sent end
StepBy old (Err reason) new sent end = UsageStep old (on_channel ErrChannel (usage_line reason)) new sent end

-- A run whose words ask for this leads from one state to the next, in which some view is left.
pub record Leads (old : List Files) (asks : Result (List Line) UsageReason) (new : List Files) (sent : Sent)
    (end : End) : Type 0 where
  pub some : new ≢ []
  pub step : StepBy old asks new sent end

-- no reply is empty
abbrev pub NoneEmpty : Files → List Line → Type 0
NoneEmpty view [] = Unit {0}
NoneEmpty view (line ∷ lines) = ((line_deed view line).sent ≢ []) × NoneEmpty (line_deed view line).after lines

-- a byte of the reply behind the first i is printed, and none of the next
pub record HasBegun (all : List Sent) (sent : Sent) (i : ℕ) : Type 0 where
  pub some : length (join_replies (take i all)) < length sent
  pub no_more : length sent ≤ length (join_replies (take (i + 1) all))

-- Where a byte of a reply and none of the next one's is printed, boot sees the view after its line, or where the reply
-- is whole and another follows, maybe the view after the next.
abbrev pub SeesBegun : Files → List Line → Files → Sent → Type 0
SeesBegun first lines seen_after sent =
    (i : ℕ) → i < length lines → HasBegun (replies first lines) sent i
    → (seen_after ≡ view_after first (take (i + 1) lines))
    ⊎ ((sent ≡ join_replies (take (i + 1) (replies first lines))) × (i + 1 < length lines)
    × (seen_after ≡ view_after first (take (i + 2) lines)))

-- all views of the state are one
abbrev pub IsOneView : List Files → Type 0
IsOneView state = (v : Files) → IsIn v state → v ≡ latest_view state

-- A stop leaves printed a prefix of the replies, and boot sees the view after the acknowledged commands or one more.
pub record Leaves (first : Files) (lines : List Line) (seen_after : Files) (sent : Sent) : Type 0 where
  pub acked : ℕ
  pub is_acked : Acknowledges (replies first lines) sent acked
  pub front : IsPrefix sent (join_replies (replies first lines))
  pub view : (seen_after ≡ view_after first (take acked lines))
      ⊎ ((acked < length lines) × (seen_after ≡ view_after first (take (acked + 1) lines)))
  pub begun : SeesBegun first lines seen_after sent

-- A stop inside a run: a step of the reference, and where all views at the start are one, what the headline says.
abbrev pub StopsIn : List Files → List Line → Files → Sent → Type 0
StopsIn old lines seen_after sent =
    Step old lines (seen_after ∷ []) sent Stopped × (IsOneView old → Leaves (latest_view old) lines seen_after sent)

-- some line is refused
abbrev pub some_refused : Files → List Line → Bool
some_refused view [] = false
some_refused view (line ∷ lines) =
    is_refusal (line_deed view line).outcome || some_refused (line_deed view line).after lines
