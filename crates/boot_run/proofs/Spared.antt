-- What lines leave of temporary files.
use Rattle.std.proofs.Common.{◌≡◌, ◌∙◌, ℕ, zero, suc, ◌+◌, ◌<◌, true, List, [], ◌∷◌, ◌++◌, length, take, get_or, refl, sym, ap, subst}
use Rattle.std.proofs.lemmas.List.{take_more}
use Rattle.std.specs.FinMap.{get}
use Rattle.boot_base.specs.Paths.{Path, is_temp}
use Rattle.boot_machine.specs.Prelude.{Files, IsRested, State, latest_view, recovered_now, recovered_views, seen}
use Rattle.boot_machine.proofs.Recovering.{recovered_view-calm}
use Rattle.boot_machine.proofs.Seeing.{latest_view-recovered_views}
use Rattle.install_steps.specs.Steps.{KeepsTempsBut}
use Rattle.command_plans.specs.Prelude.{SparesTemps}
use Rattle.tool_words.specs.declared.command.One.{One}
use Rattle.tool_words.specs.declared.command.One.TheVariants as one
use Rattle.boot_commands.specs.Commands.{OneSpares, TidiesThere}
use Rattle.boot_commands.specs.Replies.{one_reply}
use Rattle.boot_run.specs.History.{states}
use Rattle.boot_run.specs.Lines.{line_deed}
use Rattle.boot_run.specs.Spared.{AllKeep, AllSpare, LineKeeps, LineSpares}
use Rattle.boot_run.specs.Step.{view_after}
use Rattle.boot_run.specs.declared.line.Line.{Line}
use Rattle.boot_run.proofs.Stepping.{states-is}

-- a command leaves what it spares, and a tidying what stands elsewhere
pub one_keeps : (c : One) (view old new : Files) → SparesTemps (one_reply view c) old new → TidiesThere c old new
    → (q : Path) → is_temp q ≡ true → OneSpares view c q → get new q ≡ get old q
one_keeps (one.Tidy esp) view old new spares there q temp off = there esp refl q temp off
one_keeps (one.Build words) view old new spares there q temp spared = spares q temp spared
one_keeps (one.Calculate words) view old new spares there q temp spared = spares q temp spared
one_keeps (one.Inspect file json) view old new spares there q temp spared = spares q temp spared
one_keeps (one.Image file banks phases json) view old new spares there q temp spared = spares q temp spared
one_keeps (one.Identify file) view old new spares there q temp spared = spares q temp spared
one_keeps (one.Unlink name esp) view old new spares there q temp spared = spares q temp spared
one_keeps (one.List esp json) view old new spares there q temp spared = spares q temp spared
one_keeps (one.Boot esp) view old new spares there q temp spared = spares q temp spared
one_keeps (one.Install file name tries esp) view old new spares there q temp spared = spares q temp spared
one_keeps (one.Bless verb path esp) view old new spares there q temp spared = spares q temp spared
one_keeps (one.LoaderShow esp) view old new spares there q temp spared = spares q temp spared
one_keeps (one.LoaderDefault pattern esp) view old new spares there q temp spared = spares q temp spared
one_keeps (one.LoaderTimeout value esp) view old new spares there q temp spared = spares q temp spared

-- on a machine that is rested a line finds what boot sees once a recovery has run
pub rested_keeps : (old new : State) (line : Line) → IsRested old → LineKeeps (seen old) line old.files new.files
    → LineKeeps (recovered_now old) line old.files new.files
rested_keeps old new line rested keeps = subst (λ (v : Files). LineKeeps v line old.files new.files) (sym (recovered_view-calm old.files rested)) keeps

-- the files are the same
pub same_keeps : (view : Files) (line : Line) (old new : Files) → new ≡ old → LineKeeps view line old new
same_keeps view line old new same q temp spared = ap (λ (files : Files). get files q) same

-- a recovery came before the line
pub behind_keeps : (view : Files) (line : Line) (old mid new : Files) → KeepsTempsBut [] old mid → LineKeeps view line mid new → LineKeeps view line old new
behind_keeps view line old mid new first keeps q temp spared = keeps q temp spared ∙ first q temp refl

-- ---- lists of lines

spare_append : (view : Files) (xs ys : List Line) (q : Path) → AllSpare view (xs ++ ys) q → AllSpare view xs q × AllSpare (view_after view xs) ys q
spare_append view [] ys q all = (tt, all)
spare_append view (x ∷ xs) ys q all = let more = spare_append (line_deed view x).after xs ys q all.1 in ((all.0, more.0), more.1)

spare_take : (view : Files) (lines : List Line) (k : ℕ) (q : Path) → AllSpare view lines q → AllSpare view (take k lines) q
spare_take view lines zero q all = tt
spare_take view [] (suc k) q all = tt
spare_take view (line ∷ lines) (suc k) q all = (all.0, spare_take (line_deed view line).after lines k q all.1)

-- some lines at the front were done
pub keeps_front : (view : Files) (lines : List Line) (k : ℕ) (old new : Files) → AllKeep view (take k lines) old new → AllKeep view lines old new
keeps_front view lines k old new keeps q temp all = keeps q temp (spare_take view lines k q all)

-- one line more was done
pub keeps_more : (s mid new : State) (lines : List Line) (i : ℕ) (line : Line) → i < length lines → get_or lines i line ≡ line
    → recovered_views mid ≡ states (recovered_views s) (take i lines) → AllKeep (recovered_now s) (take i lines) s.files mid.files
    → LineKeeps (recovered_now mid) line mid.files new.files → AllKeep (recovered_now s) (take (i + 1) lines) s.files new.files
keeps_more s mid new lines i line within line_is state before keeps q temp all =
    let done = take i lines in
    let one_more : take (i + 1) lines ≡ done ++ line ∷ [] = take_more lines i line within ∙ ap (λ (x : Line). done ++ x ∷ []) line_is in
    let view_is : view_after (recovered_now s) done ≡ recovered_now mid =
    ap (λ (v : Files). view_after v done) (sym (latest_view-recovered_views s)) ∙ sym (states-is (recovered_views s) done)
    ∙ ap latest_view (sym state) ∙ latest_view-recovered_views mid in
    let parts = spare_append (recovered_now s) done (line ∷ []) q (subst (λ (l : List Line). AllSpare (recovered_now s) l q) one_more all) in
    keeps q temp (subst (λ (v : Files). LineSpares v line q) view_is parts.1.0) ∙ before q temp parts.0
