-- What each run of a history keeps stays.
use Rattle.std.specs.Prelude.{◌≡◌, ℕ, Bool, true, List, [], ◌∷◌, ◌++◌, take, Result, Ok, Err}
use Rattle.tool_words.specs.declared.fault.UsageReason.{UsageReason}
use Rattle.boot_machine.specs.Disk.{Files}
use Rattle.boot_machine.specs.Sent.{latest_view}
use Rattle.boot_run.specs.Step.{view_after}
use Rattle.boot_run.specs.declared.line.Line.{Line}
use Rattle.boot_history.specs.Histories.{Run, IsHistory, IsStart, AllAlong, AllViews, asked_at, state_after}

-- the view meets a test
abbrev pub Meets : (Files → Bool) → Files → Type 0
Meets test view = test view ≡ true

-- it is so after each number of the lines that are asked for
abbrev pub KeptBy : (Files → Type 0) → Files → Result (List Line) UsageReason → Type 0
KeptBy P view (Ok lines) = (n : ℕ) → P (view_after view (take n lines))
KeptBy P view (Err reason) = Unit {0}

-- each run keeps what is so of the last view at its start
abbrev pub KeptFrom : (Files → Type 0) → List Files → List Run → Type 0
KeptFrom P state [] = Unit {0}
KeptFrom P state (run ∷ runs) =
    (P (latest_view state) → KeptBy P (latest_view state) (asked_at (latest_view state) run)) × KeptFrom P run.left runs

-- Where each view at the start of some run of a history meets a test, and each run from there on keeps it, each later
-- view meets it.
abbrev pub KeptLaw : Type 0
KeptLaw =
    (test : Files → Bool) (first : List Files) (before later : List Run)
    → IsStart first → IsHistory first (before ++ later)
    → AllViews (Meets test) (state_after first before) → KeptFrom (Meets test) (state_after first before) later
    → AllAlong (Meets test) (state_after first before) later
