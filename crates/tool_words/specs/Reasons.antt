-- The printed texts of the reasons, as they stand after `usage: `.
use Rattle.std.specs.Prelude.{ℕ, List, ◌++◌, codes}
use Rattle.tool_words.specs.declared.fault.UsageReason.{UsageReason}
use Rattle.tool_words.specs.declared.fault.UsageReason.TheVariants.{TooLong, NoCommand, UnknownCommand, NoVerb, UnknownVerb, UnknownOption, NeedsValue, TakesNoValue, UnknownBank, TooFew, TooMany, Required}

-- the text of a reason, as the usage line prints it
unfoldable pub usage_reason_text : UsageReason → List ℕ
usage_reason_text TooLong = codes "too long"
usage_reason_text NoCommand = codes "no command"
usage_reason_text (UnknownCommand word) = codes "unknown command " ++ word
usage_reason_text NoVerb = codes "no verb"
usage_reason_text (UnknownVerb word) = codes "unknown verb " ++ word
usage_reason_text (UnknownOption word) = codes "unknown option " ++ word
usage_reason_text (NeedsValue word) = word ++ codes " needs a value"
usage_reason_text (TakesNoValue word) = word ++ codes " takes no value"
usage_reason_text (UnknownBank word) = codes "unknown bank " ++ word
usage_reason_text TooFew = codes "too few operands"
usage_reason_text TooMany = codes "too many operands"
usage_reason_text (Required word) = word ++ codes " is required"
