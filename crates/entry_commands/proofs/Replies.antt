-- No reply of the commands on boot entries is empty.
use Rattle.std.proofs.Common.{ℕ, ◌<◌, ◌∷◌, [], codes, Bool, true, false, cond, List, length, arith, Option, Some, None, Result, Ok, Err, flat_map, ◌++◌, find}
use Rattle.boot_base.specs.Paths.{Path, file_name_of}
use Rattle.boot_base.specs.Refusals.{line_of}
use Rattle.boot_base.specs.declared.refusal.Refusal.{Refusal}
use Rattle.boot_base.specs.declared.refusal.Refusal.TheVariants as refusals
use Rattle.menu_order.specs.Renames.{booted_name_of}
use Rattle.menu_order.specs.declared.bless.BlessVerb.{BlessVerb}
use Rattle.menu_order.specs.declared.bless.BlessVerb.TheVariants as verbs
use Rattle.menu_order.specs.declared.bless.BlessChoice.{BlessChoice}
use Rattle.menu_order.specs.declared.bless.BlessChoice.TheVariants as choices
use Rattle.menu_order.specs.declared.bless.Present.{Present}
use Rattle.boot_entries.specs.Entries.{folder_of}
use Rattle.boot_entries.specs.Listing.{behind_newline, boot_lines, counter_lines, file_lines, item_text, key_lines, title_lines}
use Rattle.boot_machine.specs.Prelude.{Files, has, move_in}
use Rattle.command_plans.specs.Prelude.{Answer, answer_of_read, answer_or_refusal, done_answer, ◌>>=◌, path_under, printed_path, folders_of, menu_at}
use Rattle.entry_commands.specs.Blessing.{bless_answer, bless_entry, bless_result, blessed_by, blessed_text, present_at, reported_paths, status_by, status_result, verb_text}
use Rattle.entry_commands.specs.Booting.{boot_answer, boot_entry, boot_result, booted_entry, booted_text, first_of, renamed_entry}
use Rattle.entry_commands.specs.Installing.{install_answer, install_result, installation_of, installed_image}
use Rattle.entry_commands.specs.Listing.{list_result, menu_result, unless_untold}
use Rattle.list_json.specs.Menus.{is_untold, menu_data}
use Rattle.list_json.proofs.Some.{some_json}
use Rattle.entry_commands.specs.declared.bless.EntryPaths.{EntryPaths}
use Rattle.menu_order.specs.declared.item.MenuItem.{MenuItem}
use Rattle.tool_words.specs.declared.command.BlessWord.{BlessWord}
use Rattle.tool_words.specs.declared.command.BlessWord.TheVariants as words

pub some_line : (why : Refusal) → 0 < length (line_of why)
some_line why = omega arith

-- what is said has a text
abbrev pub HasText : Result (List ℕ) Refusal → Type 0
HasText (Ok text) = 0 < length text
HasText (Err why) = Unit {0}

pub text_next : {X : Type 0} (first : Result X Refusal) (next : X → Result (List ℕ) Refusal) → ((x : X) → HasText (next x)) → HasText (first >>= next)
text_next (Ok x) next some = some x
text_next (Err why) next some = tt

pub some_said : (view : Files) (found : Result (List ℕ) Refusal) → HasText found → 0 < length (answer_of_read view found).text
some_said view (Ok text) some = some
some_said view (Err why) some = some_line why

pub some_before : (text later : List ℕ) → 0 < length text → 0 < length (text ++ later)
some_before [] later some = absurd (omega (arith, some))
some_before (byte ∷ text) later some = omega arith

some_behind : (before text : List ℕ) → 0 < length text → 0 < length (before ++ text)
some_behind [] text some = some
some_behind (byte ∷ before) text some = omega arith

some_file : (item : MenuItem) → 0 < length (file_lines item)
unfolding file_lines
some_file item = omega arith

some_told : (untold : Option MenuItem) (menu : List MenuItem) → HasText (unless_untold untold menu)
some_told None menu = some_json (menu_data menu)
some_told (Some entry) menu = tt

-- a menu with entries has lines, or a line
some_menu : (json : Bool) (menu : List MenuItem) → HasText (menu_result json menu)
some_menu json [] = tt
some_menu true (item ∷ items) = some_told (find is_untold (item ∷ items)) (item ∷ items)
some_menu false (item ∷ items) =
    some_before (item_text item) (flat_map behind_newline items)
    (some_before (title_lines item ++ file_lines item) ((key_lines item ++ counter_lines item.counter) ++ boot_lines item)
    (some_behind (title_lines item) (file_lines item) (some_file item)))

-- what is answered has a text
abbrev Answers : Result Answer Refusal → Type 0
Answers (Ok answer) = 0 < length answer.text
Answers (Err why) = Unit {0}

answers_next : {X : Type 0} (first : Result X Refusal) (next : X → Result Answer Refusal) → ((x : X) → Answers (next x)) → Answers (first >>= next)
answers_next (Ok x) next some = some x
answers_next (Err why) next some = tt

some_answer : (view : Files) (meant : Result Answer Refusal) → Answers meant → 0 < length (answer_or_refusal view meant).text
some_answer view (Ok answer) some = some
some_answer view (Err why) some = some_line why

some_renamed : (view : Files) (from to : Path) → Answers (renamed_entry view from to)
some_renamed view from to = by_target (has view to)
  where
    by_target : (there : Bool) → Answers (cond there (Err (refusals.TargetExists (printed_path to))) (Ok (done_answer (move_in from to view) (booted_text to))))
    by_target true = tt
    by_target false = omega arith

some_booted : (view : Files) (folder path : Path) (name : Option (List ℕ)) → Answers (booted_entry view folder path name)
some_booted view folder path None = omega arith
some_booted view folder path (Some name) = answers_next (path_under folder name) (renamed_entry view path) (some_renamed view path)

some_verb : (verb : BlessVerb) (later : List ℕ) → 0 < length (verb_text verb ++ later)
some_verb verbs.Good later = omega arith
some_verb verbs.Bad later = omega arith
some_verb verbs.Indeterminate later = omega arith

some_blessed : (view : Files) (verb : BlessVerb) (paths : EntryPaths) (target : Path) (choice : BlessChoice) → Answers (blessed_by view verb paths target choice)
some_blessed view verb paths target choices.Nothing = some_before (blessed_text verb target) _ (some_verb verb _)
some_blessed view verb paths target choices.FromGood = some_before (blessed_text verb target) _ (some_verb verb _)
some_blessed view verb paths target choices.FromCounted = some_before (blessed_text verb target) _ (some_verb verb _)
some_blessed view verb paths target choices.FromBad = some_before (blessed_text verb target) _ (some_verb verb _)
some_blessed view verb paths target choices.NoSource = tt

some_blessing : (view : Files) (verb : BlessVerb) (word esp : List ℕ) → 0 < length (answer_or_refusal view (bless_result view verb word esp)).text
some_blessing view verb word esp =
    some_answer view (bless_result view verb word esp) (answers_next (reported_paths word esp) (bless_entry view verb) (λ paths. some_blessed view verb paths _ _))

some_status : (paths : EntryPaths) (present : Present) → HasText (status_by paths present)
some_status paths present = by_counted present.counted
  where
    by_bad : (bad : Bool) → HasText (cond bad (Ok (codes "bad\n")) (Err (refusals.NoSource (printed_path paths.counted))))
    by_bad true = omega arith
    by_bad false = tt

    by_good : (good : Bool) → HasText (cond good (Ok (codes "good\n")) (cond present.bad (Ok (codes "bad\n")) (Err (refusals.NoSource (printed_path paths.counted)))))
    by_good true = omega arith
    by_good false = by_bad present.bad

    by_counted : (counted : Bool) → HasText (cond counted (Ok (codes "indeterminate\n"))
        (cond present.good (Ok (codes "good\n")) (cond present.bad (Ok (codes "bad\n")) (Err (refusals.NoSource (printed_path paths.counted))))))
    by_counted true = omega arith
    by_counted false = by_good present.good

pub some_marked : (view : Files) (verb : BlessWord) (word esp : List ℕ) → 0 < length (bless_answer view verb word esp).text
some_marked view (words.Mark verb) word esp = some_blessing view verb word esp
some_marked view words.Status word esp =
    some_said view (status_result view word esp) (text_next (reported_paths word esp) _ (λ paths. some_status paths (present_at view paths)))

pub some_list : (view : Files) (esp : List ℕ) (json : Bool) → 0 < length (answer_of_read view (list_result view esp json)).text
some_list view esp json =
    some_said view (list_result view esp json) (text_next (folders_of esp) _ (λ folders. text_next (menu_at view folders) (menu_result json) (some_menu json)))

pub some_boot : (view : Files) (esp : List ℕ) → 0 < length (boot_answer view esp).text
some_boot view esp =
    some_answer view (boot_result view esp)
    (answers_next (folders_of esp) _ (λ folders. answers_next (menu_at view folders) _
    (λ menu. answers_next (first_of menu) (boot_entry view folders) (λ item. some_booted view (folder_of folders item.suffix) item.path (booted_name_of (file_name_of item.path))))))

pub some_install : (view : Files) (file name : List ℕ) (tries : Option (List ℕ)) (esp : List ℕ) → 0 < length (install_answer view file name tries esp).text
some_install view file name tries esp =
    some_answer view (install_result view file name tries esp) (answers_next (installation_of file name tries esp) _ (λ words. answers_next (installed_image view words) _ (λ bytes. omega arith)))
