-- No command's reply is empty.
use Rattle.std.proofs.Common.{ℕ, ◌<◌, ◌&&◌, ◌∷◌, [], codes, Bool, true, false, cond, List, length, map, arith, Option, Some, None, Result, Ok, Err}
use Rattle.std.specs.FinMap.{get, insert}
use Rattle.boot_base.specs.Paths.{Path}
use Rattle.boot_base.specs.declared.refusal.Refusal.{Refusal}
use Rattle.boot_base.specs.declared.refusal.Refusal.TheVariants as refusals
use Rattle.boot_machine.specs.Prelude.{Files}
use Rattle.pcr_values.specs.Prelude.{heading_of, value_lines}
use Rattle.tool_words.specs.declared.command.One.{One}
use Rattle.tool_words.specs.declared.command.One.TheVariants as one
use Rattle.tool_words.specs.declared.action.Action.{Action}
use Rattle.tool_words.specs.declared.action.Action.TheVariants as action
use Rattle.command_plans.specs.Prelude.{Answer, answer_or_refusal, done_answer, bytes_at, each, image_at, banks_of, without_repeats, paths_of, folders_of, ◌>>=◌, path_in, printed_path, unless_refused, removal, unlink_answer, menu_at}
use Rattle.pcr_values.specs.declared.bank.Bank.{Bank}
use Rattle.pe_reader.specs.declared.fault.FailedCheck.{FailedCheck}
use Rattle.pe_reader.specs.Prelude.{Headers, pe_of}
use Rattle.image_build.specs.Building.{BuiltImage, build_of, built_answer}
use Rattle.image_commands.specs.Calculating.{calculate_result, part_words, under_name}
use Rattle.stub_replay.specs.Ordered.{present_parts}
use Rattle.image_commands.specs.Said.{has_loaded, identify_result, measure_result, inspect_result, inspection_at, kind_at, kind_of, section_facts, values_at}
use Rattle.image_commands.specs.Told.{told_sections, told_values}
use Rattle.list_json.specs.Registers.{values_data}
use Rattle.list_json.specs.Sections.{SectionFacts, sections_data}
use Rattle.list_json.proofs.Some.{some_json}
use Rattle.boot_commands.specs.Replies.{one_reply, action_reply, told_text}
use Rattle.type1_install.specs.Placing.{payload_text}
use Rattle.entry_commands.proofs.Replies.{HasText, some_boot, some_install, some_line, some_list, some_marked, some_said, text_next}
use Rattle.entry_commands.specs.Tidying.{tidy_answer}
use Rattle.entry_commands.specs.Unlinking.{entry_path}
use Rattle.loader_commands.specs.Places.{conf_bytes, loader_paths}
use Rattle.loader_commands.specs.Setting.{changed_conf, conf_update}
use Rattle.loader_commands.specs.Showing.{default_item, menu_shown, show_result, shown_or_empty}
use Rattle.boot_texts.specs.Conf.{conf_default, conf_timeout}
use Rattle.boot_texts.specs.declared.conf_change.ConfKey.{ConfKey}
use Rattle.boot_texts.specs.declared.conf_change.ConfKey.TheVariants.{Default, Timeout}
use Rattle.menu_order.specs.declared.item.MenuItem.{MenuItem}

-- refused for the words, or what comes next has a text
some_unless : {X : Type 0} (view : Files) (read : Result X Refusal) (next : X → Answer) → ((x : X) → 0 < length (next x).text) → 0 < length (unless_refused view read next).text
some_unless view (Err why) next some = some_line why
some_unless view (Ok x) next some = some x

some_heading : (value : Bank → List (List ℕ) → List ℕ) (banks : List Bank) (path : List (List ℕ)) (paths : List (List (List ℕ))) → 0 < length (value_lines value banks (path ∷ paths))
unfolding heading_of
some_heading value banks path paths = omega arith

some_lines : (value : Bank → List (List ℕ) → List ℕ) (banks : List Bank) (paths : List (List (List ℕ))) → 0 < length paths → 0 < length (value_lines value banks paths)
some_lines value banks [] some = absurd (omega (arith, some))
some_lines value banks (path ∷ paths) some = some_heading value banks path paths

-- the lines of values aren't empty, since some path is always predicted for
some_values : (value : Bank → List (List ℕ) → List ℕ) (banks : List Bank) (texts : List (List ℕ)) → 0 < length (value_lines value banks (paths_of texts))
unfolding without_repeats
some_values value banks [] = some_lines value banks (paths_of []) (omega arith)
some_values value banks (first ∷ more) = some_lines value banks (paths_of (first ∷ more)) (omega arith)

-- sections are told in lines or in a line, and neither is empty
some_sections : (json : Bool) (path : Path) (sections : List SectionFacts) → 0 < length (told_sections json path sections)
some_sections false path sections = omega arith
some_sections true path sections = some_json (sections_data sections)

-- and so are values
some_told : (json : Bool) (value : Bank → List (List ℕ) → List ℕ) (banks : List Bank) (texts : List (List ℕ)) → 0 < length (told_values json value banks (paths_of texts))
some_told false value banks texts = some_values value banks texts
some_told true value banks texts = some_json (values_data value banks (paths_of texts))

some_kind : (bytes : List ℕ) (read : Result Headers FailedCheck) → 0 < length (kind_of bytes read)
some_kind bytes (Ok headers) = by_sections (has_loaded bytes (codes ".linux") && has_loaded bytes (codes ".osrel"))
  where
    by_sections : (unified : Bool) → 0 < length (cond unified (codes "uki\n") (codes "pe\n"))
    by_sections true = omega arith
    by_sections false = omega arith
some_kind bytes (Err check) = omega arith

some_removal : (view : Files) (path : Path) (found : Option (List ℕ)) → 0 < length (removal view path found).text
some_removal view path None = some_line (refusals.NotFound (printed_path path))
some_removal view path (Some bytes) = omega arith

some_built : (view : Files) (measure : Bool) (built : Result BuiltImage Refusal) → 0 < length (built_answer view measure built).text
some_built view measure (Err why) = some_line why
some_built view measure (Ok built) = omega arith

some_shown : (timeout : Option (List ℕ)) (item : Option MenuItem) → HasText (shown_or_empty timeout item)
some_shown timeout None = tt
some_shown timeout (Some item) = omega arith

some_changed : (view : Files) (key : ConfKey) (value : List ℕ) (change : Result (Path × List ℕ) Refusal)
    → 0 < length (answer_or_refusal view (change >>= λ change. Ok (changed_conf view key value change))).text
some_changed view Default value (Ok change) = omega arith
some_changed view Timeout value (Ok change) = omega arith
some_changed view key value (Err why) = some_line why

some_put : (view : Files) (target : Path) (bytes : Result (List ℕ) Refusal)
    → 0 < length (answer_or_refusal view (bytes >>= λ bytes. Ok (done_answer (insert view target bytes) (payload_text target)))).text
some_put view target (Ok bytes) = omega arith
some_put view target (Err why) = some_line why

-- no command's reply is empty: a case for each command
pub some_text : (view : Files) (c : One) → 0 < length (one_reply view c).text
unfolding one_reply
some_text view (one.Build words) = some_built view words.measure (build_of view words)
some_text view (one.Calculate words) =
    some_said view (calculate_result view words)
    (text_next (each (under_name path_in) (present_parts (part_words words))) _
    (λ paths. text_next (each (under_name (bytes_at view)) paths) _ (λ parts. some_told words.json _ (banks_of words.banks) words.phases)))
some_text view (one.Inspect file json) =
    some_said view (inspect_result view file json)
    (text_next (path_in file) (inspection_at view json) (λ path. text_next (image_at view path) _ (λ image. some_sections json path (map (section_facts image.0) image.1.sections))))
some_text view (one.Image file banks phases json) =
    some_said view (measure_result view file banks phases json)
    (text_next (path_in file) (values_at view banks phases json) (λ path. text_next (image_at view path) _ (λ image. some_told json _ (banks_of banks) phases)))
some_text view (one.Identify file) =
    some_said view (identify_result view file) (text_next (path_in file) (kind_at view) (λ path. text_next (bytes_at view path) _ (λ bytes. some_kind bytes (pe_of bytes))))
some_text view (one.List esp json) = some_list view esp json
some_text view (one.Tidy esp) = some_unless view (folders_of esp) (tidy_answer view) (λ folders. omega arith)
some_text view (one.Boot esp) = some_boot view esp
some_text view (one.Unlink name esp) = some_unless view (entry_path name esp) (unlink_answer view) (λ path. some_removal view path (get view path))
some_text view (one.Install file name tries esp) = some_install view file name tries esp
some_text view (one.Bless verb path esp) = some_marked view verb path esp
some_text view (one.LoaderShow esp) = some_said view (show_result view esp)
    (text_next (loader_paths esp) _ (λ paths. text_next (conf_bytes view paths.conf) _
    (λ bytes. text_next (menu_at view paths.folders) (menu_shown bytes) (λ menu. some_shown (conf_timeout bytes) (default_item (conf_default bytes) menu)))))
some_text view (one.LoaderDefault pattern esp) = some_changed view Default pattern (conf_update view Default pattern esp)
some_text view (one.LoaderTimeout value esp) = some_changed view Timeout value (conf_update view Timeout value esp)

some_told_text : (text : List ℕ) → 0 < length (told_text text)
some_told_text [] = omega arith
some_told_text (byte ∷ bytes) = omega arith

-- nor is an action's
pub some_action : (view : Files) (c : Action) → 0 < length (action_reply view c).text
unfolding action_reply
some_action view (action.Put file target) = some_put view target (bytes_at view file)
some_action view (action.Enter path text) = omega arith
some_action view (action.Remove path) = some_removal view path (get view path)
some_action view (action.Refuse why) = some_line why
some_action view (action.Tell text) = some_told_text text
