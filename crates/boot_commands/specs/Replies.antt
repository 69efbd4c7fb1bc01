-- What each command of one action comes to on a view, and each action of a command of several: the first refusal that holds,
-- in the order of its row, or what it does.
use Rattle.std.specs.Prelude.{ℕ, List, [], ◌∷◌, codes}
use Rattle.boot_machine.specs.Disk.{Files}
use Rattle.tool_words.specs.declared.command.One.{One}
use Rattle.tool_words.specs.declared.command.One.TheVariants as one
use Rattle.tool_words.specs.declared.action.Action.{Action}
use Rattle.tool_words.specs.declared.action.Action.TheVariants as action
use Rattle.command_plans.specs.Answers.{Answer, answer_of_read, done_answer, refusal}
use Rattle.command_plans.specs.Refusing.{unless_refused}
use Rattle.image_build.specs.Building.{build_answer}
use Rattle.image_commands.specs.Calculating.{calculate_result}
use Rattle.image_commands.specs.Said.{identify_result, measure_result, inspect_result}
use Rattle.entry_commands.specs.Blessing.{bless_answer}
use Rattle.entry_commands.specs.Booting.{boot_answer}
use Rattle.entry_commands.specs.Installing.{install_answer}
use Rattle.command_plans.specs.Changes.{unlink_answer}
use Rattle.entry_commands.specs.Unlinking.{entry_path}
use Rattle.command_plans.specs.Folders.{folders_of}
use Rattle.entry_commands.specs.Listing.{list_result}
use Rattle.entry_commands.specs.Tidying.{tidy_answer}
use Rattle.loader_commands.specs.Setting.{set_answer}
use Rattle.loader_commands.specs.Showing.{show_answer}
use Rattle.type1_install.specs.Placing.{enter_answer, put_answer}
use Rattle.boot_texts.specs.declared.conf_change.ConfKey.TheVariants.{Default, Timeout}

-- what a command of one action comes to
unfoldable pub one_reply : Files → One → Answer
one_reply view (one.Build words) = build_answer view words
one_reply view (one.Calculate words) = answer_of_read view (calculate_result view words)
one_reply view (one.Inspect file json) = answer_of_read view (inspect_result view file json)
one_reply view (one.Image file banks phases json) =
    answer_of_read view (measure_result view file banks phases json)
one_reply view (one.Identify file) = answer_of_read view (identify_result view file)
one_reply view (one.List esp json) = answer_of_read view (list_result view esp json)
one_reply view (one.Tidy esp) = unless_refused view (folders_of esp) (tidy_answer view)
one_reply view (one.Boot esp) = boot_answer view esp
one_reply view (one.Unlink name esp) = unless_refused view (entry_path name esp) (unlink_answer view)
one_reply view (one.Install file name tries esp) = install_answer view file name tries esp
one_reply view (one.Bless verb path esp) = bless_answer view verb path esp
one_reply view (one.LoaderShow esp) = show_answer view esp
one_reply view (one.LoaderDefault pattern esp) = set_answer view Default pattern esp
one_reply view (one.LoaderTimeout value esp) = set_answer view Timeout value esp

-- a text as it is told: an empty one as an empty line
abbrev pub told_text : List ℕ → List ℕ
told_text [] = codes "\n"
told_text (byte ∷ bytes) = byte ∷ bytes

-- what an action of a command of several comes to
unfoldable pub action_reply : Files → Action → Answer
action_reply view (action.Put file target) = put_answer view file target
action_reply view (action.Enter path text) = enter_answer view path text
action_reply view (action.Remove path) = unlink_answer view path
action_reply view (action.Refuse why) = refusal view why
action_reply view (action.Tell text) = done_answer view (told_text text)
