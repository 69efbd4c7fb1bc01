-- What the words of a run mean: the command with all its fields, or the first reason why there is none.
use Rattle.std.specs.Prelude.{ℕ, ◌==◌, Bool, true, false, ◌||◌, ◌&&◌, List, [], ◌∷◌, length, Option, Some, None, Result, Ok, Err, is_some, is_none, unwrap_or, option_map, nat_lt, find, codes, slice_index_or, if◌then◌else◌}
use Rattle.std.specs.List.{list_any}
use Rattle.word_grammar.specs.declared.grammar.CommandName.{CommandName}
use Rattle.word_grammar.specs.declared.grammar.CommandName.TheVariants as name
use Rattle.word_grammar.specs.declared.grammar.Takes.{Takes}
use Rattle.word_grammar.specs.declared.grammar.Takes.TheVariants.{Required, Once, Repeated, Flag}
use Rattle.tool_words.specs.declared.command.Command.{Command}
use Rattle.tool_words.specs.declared.command.Command.TheVariants as command
use Rattle.tool_words.specs.declared.command.One.TheVariants as one
use Rattle.tool_words.specs.declared.command.Several.TheVariants as several
use Rattle.tool_words.specs.declared.command.BuildWords.{BuildWords}
use Rattle.tool_words.specs.declared.command.CalculateWords.{CalculateWords}
use Rattle.tool_words.specs.declared.command.PartWords.{PartWords}
use Rattle.tool_words.specs.declared.command.Type1Words.{Type1Words}
use Rattle.tool_words.specs.declared.command.EntryTexts.{EntryTexts}
use Rattle.tool_words.specs.declared.command.KeepWords.{KeepWords}
use Rattle.tool_words.specs.declared.command.Given.{Given}
use Rattle.tool_words.specs.declared.command.Given.TheVariants.{Inline, File}
use Rattle.menu_order.specs.declared.bless.BlessVerb.TheVariants as mark
use Rattle.tool_words.specs.declared.command.BlessWord.TheVariants as bless
use Rattle.tool_words.specs.declared.fault.UsageReason.{UsageReason}
use Rattle.tool_words.specs.declared.fault.UsageReason.TheVariants as reason
use Rattle.word_grammar.specs.Grammar.{Word, OptionRule, row, commands, is_name_of, is_verbed, is_text_of}
use Rattle.tool_words.specs.Items.{Item, items, all_values, last_option_value, operands, ◌>>=◌}

-- the most words of a run
abbrev pub word_limit : ℕ
word_limit = 16777216

-- a word is longer than 1,048,576 bytes
abbrev pub is_long : Word → Bool
is_long word = nat_lt 1048576 (length word)

-- there are more words than a run may have, or one of them is too long
abbrev pub are_too_long : List Word → Bool
are_too_long words = nat_lt word_limit (length words) || list_any is_long words

-- the command that the first words name, and the words after them
abbrev pub found_verb : Option CommandName → Word → List Word → Result (CommandName × List Word) UsageReason
found_verb None verb words = Err (reason.UnknownVerb verb)
found_verb (Some c) verb words = Ok (c, words)

-- the command of a first word and the verb behind it, with the words after these
abbrev pub with_verb : Word → List Word → Result (CommandName × List Word) UsageReason
with_verb word [] = Err reason.NoVerb
with_verb word (verb ∷ words) = found_verb (find (is_verbed word verb) commands) verb words

-- the command of a first word, which has to be one, with its verb where its kind has verbs
abbrev pub found_name : Option CommandName → Word → List Word → Result (CommandName × List Word) UsageReason
found_name None word words = Err (reason.UnknownCommand word)
found_name (Some c) word words = if is_some (row c).verb then with_verb word words else Ok (c, words)

-- the command that the first words name, with the words after these, or why they name none
abbrev pub command_of : List Word → Result (CommandName × List Word) UsageReason
command_of [] = Err reason.NoCommand
command_of (word ∷ words) = found_name (find (is_name_of word) commands) word words

-- as many operands as the command takes
abbrev pub check_count : ℕ → ℕ → Result (Unit {0}) UsageReason
check_count wanted count =
    if nat_lt count wanted then Err reason.TooFew else (if nat_lt wanted count then Err reason.TooMany else Ok tt)

-- whether an option may be given several times
abbrev pub is_repeated : Takes → Bool
is_repeated Repeated = true
is_repeated Required = false
is_repeated Once = false
is_repeated Flag = false

-- the command takes the option as a repeatable one
abbrev pub repeats : CommandName → Word → Bool
repeats c text = list_any (λ option. is_text_of text option && is_repeated option.takes) (row c).options

-- what the items of a command give: of each option, by its text, the last value, of a repeatable one all values in
-- order; and the operands
pub record GatheredItems : Type 0 where
  pub last : Word → Option Word
  pub all : Word → List Word
  pub operand : ℕ → Word

-- what is asked of the items: the last value of an option, all of them, and the operands by number
abbrev pub gather_items : CommandName → List Item → GatheredItems
gather_items c items = record {
  last = λ option. last_option_value option items;
  all = λ option. if repeats c option then all_values option items else [];
  operand = λ n. slice_index_or (operands items) n [];
}

-- whether an option has to be given
abbrev pub is_required : Takes → Bool
is_required Required = true
is_required Once = false
is_required Repeated = false
is_required Flag = false

-- the option is required and isn't given
abbrev pub is_missing : (Word → Option Word) → OptionRule → Bool
is_missing last option = is_required option.takes && is_none (last option.text)

-- no option is missing, or it is told which one
abbrev pub nothing_missing : Option OptionRule → Result (Unit {0}) UsageReason
nothing_missing None = Ok tt
nothing_missing (Some option) = Err (reason.Required option.text)

-- all required options of a command are given, or the first that isn't is told
abbrev pub all_required : CommandName → (Word → Option Word) → Result (Unit {0}) UsageReason
all_required c last = nothing_missing (find (is_missing last) (row c).options)

-- a text, or after a leading `@` the path of the file that holds it
abbrev pub inline_or_file : Word → Given
inline_or_file [] = Inline []
inline_or_file (first ∷ bytes) = if first == 64 then File bytes else Inline (first ∷ bytes)

-- a required value, which is there
abbrev pub required_value : Option Word → Word
required_value value = unwrap_or value []

-- the folder of the boot files
abbrev pub esp : (Word → Option Word) → Word
esp last = unwrap_or (last (codes "--esp-path")) (codes "efi")

-- the parts of a build by its options: three are texts or files, the release is a text, the others are files (ukify(1))
abbrev pub build_parts : (Word → Option Word) → PartWords Given
build_parts last = record {
  osrel = option_map inline_or_file (last (codes "--os-release"));
  cmdline = option_map inline_or_file (last (codes "--cmdline"));
  sbat = option_map inline_or_file (last (codes "--sbat"));
  dtb = option_map File (last (codes "--devicetree"));
  uname = option_map Inline (last (codes "--uname"));
  splash = option_map File (last (codes "--splash"));
  pcrpkey = option_map File (last (codes "--pcrpkey"));
  ucode = option_map File (last (codes "--microcode"));
}

-- the words of a build by its options
abbrev pub build_words : GatheredItems → BuildWords
build_words g = record {
  stub = required_value (g.last (codes "--stub"));
  linux = required_value (g.last (codes "--linux"));
  output = required_value (g.last (codes "--output"));
  parts = build_parts g.last;
  initrds = g.all (codes "--initrd");
  sections = g.all (codes "--section");
  measure = is_some (g.last (codes "--measure"));
}

-- the parts of a calculation by its options: all are paths of files (systemd-measure(1))
abbrev pub calculate_parts : (Word → Option Word) → PartWords Word
calculate_parts last = record {
  osrel = last (codes "--osrel");
  cmdline = last (codes "--cmdline");
  sbat = last (codes "--sbat");
  dtb = last (codes "--dtb");
  uname = last (codes "--uname");
  splash = last (codes "--splash");
  pcrpkey = last (codes "--pcrpkey");
  ucode = last (codes "--ucode");
}

-- the words of a calculation by its options
abbrev pub calculate_words : GatheredItems → CalculateWords
calculate_words g = record {
  linux = required_value (g.last (codes "--linux"));
  initrd = g.last (codes "--initrd");
  parts = calculate_parts g.last;
  banks = g.all (codes "--bank");
  phases = g.all (codes "--phase");
  json = is_some (g.last (codes "--json"));
}

-- the texts of an entry that names payloads, by the options
abbrev pub entry_texts : (Word → Option Word) → EntryTexts
entry_texts last = record {
  title = last (codes "--title");
  version = last (codes "--version");
  machine_id = last (codes "--machine-id");
  sort_key = last (codes "--sort-key");
  options = last (codes "--options");
}

-- the words of an installation with payloads, by its operand and options
abbrev pub type1_words : GatheredItems → Type1Words
type1_words g = record {
  name = g.operand 0;
  linux = required_value (g.last (codes "--linux"));
  initrds = g.all (codes "--initrd");
  texts = entry_texts g.last;
  esp = esp g.last;
}

-- the words of a removal of all but the first entries, by its operand and options
abbrev pub keep_words : GatheredItems → KeepWords
keep_words g = record {
  number = g.operand 0;
  per_key = is_some (g.last (codes "--per-key"));
  dry_run = is_some (g.last (codes "--dry-run"));
  esp = esp g.last;
}

-- the command with all its fields
abbrev pub command_from : CommandName → GatheredItems → Command
command_from name.Build g = command.One (one.Build (build_words g))
command_from name.Inspect g = command.One (one.Inspect (g.operand 0) (is_some (g.last (codes "--json"))))
command_from name.Calculate g = command.One (one.Calculate (calculate_words g))
command_from name.Image g =
    command.One
    (one.Image (g.operand 0) (g.all (codes "--bank")) (g.all (codes "--phase")) (is_some (g.last (codes "--json"))))
command_from name.ListEntries g = command.One (one.List (esp g.last) (is_some (g.last (codes "--json"))))
command_from name.Unlink g = command.One (one.Unlink (g.operand 0) (esp g.last))
command_from name.Identify g = command.One (one.Identify (g.operand 0))
command_from name.Tidy g = command.One (one.Tidy (esp g.last))
command_from name.Install g = command.One (one.Install (g.operand 0) (g.operand 1) (g.last (codes "--tries")) (esp g.last))
command_from name.Boot g = command.One (one.Boot (esp g.last))
command_from name.BlessGood g = command.One (one.Bless (bless.Mark mark.Good) (g.operand 0) (esp g.last))
command_from name.BlessBad g = command.One (one.Bless (bless.Mark mark.Bad) (g.operand 0) (esp g.last))
command_from name.BlessIndeterminate g = command.One (one.Bless (bless.Mark mark.Indeterminate) (g.operand 0) (esp g.last))
command_from name.BlessStatus g = command.One (one.Bless bless.Status (g.operand 0) (esp g.last))
command_from name.LoaderShow g = command.One (one.LoaderShow (esp g.last))
command_from name.LoaderDefault g = command.One (one.LoaderDefault (g.operand 0) (esp g.last))
command_from name.LoaderTimeout g = command.One (one.LoaderTimeout (g.operand 0) (esp g.last))
command_from name.Type1Install g = command.Several (several.Type1Install (type1_words g))
command_from name.Type1Cleanup g = command.Several (several.Type1Cleanup (esp g.last))
command_from name.Keep g = command.Several (several.Keep (keep_words g))
command_from name.Script g = command.Script
command_from name.Demo g = command.Several (several.Demo (g.operand 0) (g.operand 1))

-- the command of the items, where they are as many and as required
abbrev pub command_with : CommandName → List Item → Result Command UsageReason
command_with c items =
    check_count (row c).operands (length (operands items)) >>= λ _.
    all_required c (gather_items c items).last >>= λ _.
    Ok (command_from c (gather_items c items))

-- the command of the words after it
abbrev pub command_by_name : CommandName → List Word → Result Command UsageReason
command_by_name c words = items c words >>= λ items. command_with c items

-- the command that words name, where they aren't too long, or the first reason why they name none
abbrev pub read_words : List Word → Result Command UsageReason
read_words words = command_of words >>= λ chosen. command_by_name chosen.0 chosen.1

-- the command that the words name, or the first reason why they name none
abbrev pub meaning : List Word → Result Command UsageReason
meaning words = if are_too_long words then Err reason.TooLong else read_words words
