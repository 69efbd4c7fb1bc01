-- A good entry stays that a command spares.
use Rattle.std.proofs.Common.{◌≡◌, ◌≢◌, ℕ, Bool, true, false, List, [], ◌∷◌, refl, ap, ◌∙◌, Result, Ok, Err, IfOk}
use Rattle.boot_base.specs.Paths.{Path}
use Rattle.boot_base.specs.declared.refusal.Refusal.{Refusal}
use Rattle.boot_entries.specs.declared.folders.Folders.{Folders}
use Rattle.boot_machine.specs.Prelude.{Files}
use Rattle.command_plans.specs.Prelude.{Answer, answer_of_read, answer_or_refusal, done_answer, unless_refused, ◌>>=◌, path_in, folders_of, unlink_answer, bytes_at}
use Rattle.tool_words.specs.declared.command.One.{One}
use Rattle.tool_words.specs.declared.command.One.TheVariants as one
use Rattle.tool_words.specs.declared.action.Action.{Action}
use Rattle.tool_words.specs.declared.action.Action.TheVariants as action
use Rattle.image_build.specs.Building.{BuiltImage, build_of, built_answer}
use Rattle.image_commands.specs.Calculating.{calculate_result}
use Rattle.image_commands.specs.Said.{identify_result, measure_result, inspect_result}
use Rattle.entry_commands.specs.GoodEntries.{HasGoodEntry}
use Rattle.entry_commands.specs.Listing.{list_result}
use Rattle.entry_commands.specs.Tidying.{tidy_answer}
use Rattle.entry_commands.specs.Unlinking.{entry_path}
use Rattle.entry_commands.proofs.GoodEntries.{kept_bless, kept_boot, kept_install, kept_unlink, put_apart}
use Rattle.loader_commands.specs.Places.{conf_path}
use Rattle.loader_commands.specs.Setting.{changed_conf, conf_update, changed_text, value_in}
use Rattle.loader_commands.specs.Showing.{show_result}
use Rattle.boot_texts.specs.declared.conf_change.ConfKey.{ConfKey}
use Rattle.boot_texts.specs.declared.conf_change.ConfKey.TheVariants.{Default, Timeout}
use Rattle.boot_commands.specs.Replies.{one_reply, action_reply}
use Rattle.std.specs.FinMap.{insert}
use Rattle.type1_install.specs.Placing.{payload_text}
use Rattle.boot_commands.specs.Sparing.{Spares, ActionSpares}
use Rattle.image_build.proofs.Outputs.{build_output}
use Rattle.boot_commands.proofs.ConfPlaces.{conf_apart}

abbrev write_at : Path → Result (List ℕ) Refusal → Result (Path × List ℕ) Refusal
write_at place text = text >>= λ text. Ok (place, text)

abbrev write_next : (List ℕ → Path → Result (List ℕ) Refusal) → Result (List ℕ) Refusal → Result Path Refusal → Result (Path × List ℕ) Refusal
write_next set valued at = valued >>= λ value. at >>= λ place. write_at place (set value place)

-- what is written at a path isn't at another
apart_at : (place path : Path) (text : Result (List ℕ) Refusal) → place ≢ path → IfOk (write_at place text) (λ change. change.0 ≢ path)
apart_at place path (Ok text) apart = apart
apart_at place path (Err why) apart = tt

apart_next : (set : List ℕ → Path → Result (List ℕ) Refusal) (valued : Result (List ℕ) Refusal) (at : Result Path Refusal) (path : Path) → at ≢ Ok path
    → IfOk (write_next set valued at) (λ change. change.0 ≢ path)
apart_next set (Err why) at path spares = tt
apart_next set (Ok value) (Err why) path spares = tt
apart_next set (Ok value) (Ok place) path spares = apart_at place path (set value place) (λ same. spares (ap Ok same))

-- a change of loader.conf writes at no other path
set_apart : (view : Files) (key : ConfKey) (value esp : List ℕ) (path : Path) → conf_path esp ≢ Ok path → IfOk (conf_update view key value esp) (λ change. change.0 ≢ path)
set_apart view key value esp path spares = apart_next (changed_text view key) (value_in key value) (conf_path esp) path spares

module _ (word : List ℕ) (folders : Folders) (read : folders_of word ≡ Ok folders) (path : Path) (view : Files) (entry : HasGoodEntry folders path view) where
  kept_said : (text : Result (List ℕ) Refusal) → HasGoodEntry folders path (answer_of_read view text).after
  kept_said (Ok text) = entry
  kept_said (Err why) = entry

  kept_built : (measure : Bool) (output : Result Path Refusal) (built : Result BuiltImage Refusal)
      → IfOk built (λ built. output ≡ Ok built.output)
      → output ≢ Ok path → HasGoodEntry folders path (built_answer view measure built).after
  kept_built measure output (Ok built) is spares =
      put_apart folders path view entry built.output built.image (λ same. spares (is ∙ ap Ok same))
  kept_built measure output (Err why) is spares = entry

  kept_unless : {X : Type 0} (read : Result X Refusal) (next : X → Answer)
      → ((x : X) → read ≡ Ok x → HasGoodEntry folders path (next x).after)
      → HasGoodEntry folders path (unless_refused view read next).after
  kept_unless (Ok x) next each = each x refl
  kept_unless (Err why) next each = entry

  kept_changed : (key : ConfKey) (value : List ℕ) (change : Result (Path × List ℕ) Refusal)
      → IfOk change (λ change. change.0 ≢ path)
      → HasGoodEntry folders path (answer_or_refusal view (change >>= λ change. Ok (changed_conf view key value change))).after
  kept_changed key value (Ok change) apart = put_apart folders path view entry change.0 change.1 apart
  kept_changed key value (Err why) apart = entry

  kept_put : (target : Path) (bytes : Result (List ℕ) Refusal) → target ≢ path
      → HasGoodEntry folders path (answer_or_refusal view (bytes >>= λ bytes. Ok (done_answer (insert view target bytes) (payload_text target)))).after
  kept_put target (Ok bytes) apart = put_apart folders path view entry target bytes apart
  kept_put target (Err why) apart = entry

  -- a case for each command
  pub kept : (c : One) → Spares path c → HasGoodEntry folders path (one_reply view c).after
  unfolding one_reply
  kept (one.Build words) spares =
      kept_built words.measure (path_in words.output) (build_of view words) (build_output view words) spares
  kept (one.Calculate words) spares = kept_said (calculate_result view words)
  kept (one.Inspect file json) spares = kept_said (inspect_result view file json)
  kept (one.Image file banks phases json) spares = kept_said (measure_result view file banks phases json)
  kept (one.Identify file) spares = kept_said (identify_result view file)
  kept (one.List esp json) spares = kept_said (list_result view esp json)
  kept (one.Tidy esp) spares = kept_unless (folders_of esp) (tidy_answer view) (λ folders is. entry)
  kept (one.Boot esp) spares = kept_boot folders path view entry esp
  kept (one.Unlink name esp) spares = kept_unless (entry_path name esp) (unlink_answer view) (λ at is.
      kept_unlink folders path view entry at (λ same. spares (is ∙ ap Ok same)))
  kept (one.Install file name tries esp) spares = kept_install folders path view entry file name tries esp
  kept (one.Bless verb word esp) spares = kept_bless folders path view entry verb word esp spares
  kept (one.LoaderShow esp) spares = kept_said (show_result view esp)
  kept (one.LoaderDefault pattern esp) spares = kept_changed Default pattern (conf_update view Default pattern esp)
      (set_apart view Default pattern esp path (conf_apart word esp folders path view read entry))
  kept (one.LoaderTimeout value esp) spares = kept_changed Timeout value (conf_update view Timeout value esp) (set_apart view Timeout value esp path (conf_apart word esp folders path view read entry))

  -- and for each action
  pub action_kept : (c : Action) → ActionSpares path c → HasGoodEntry folders path (action_reply view c).after
  unfolding action_reply
  action_kept (action.Put file target) spares = kept_put target (bytes_at view file) spares
  action_kept (action.Enter at text) spares = put_apart folders path view entry at text spares
  action_kept (action.Remove at) spares = kept_unlink folders path view entry at spares
  action_kept (action.Refuse why) spares = entry
  action_kept (action.Tell text) spares = entry
