-- The commands of the program and their options, as data: a line for each.
use Rattle.std.specs.Prelude.{ℕ, Bool, false, ◌&&◌, List, [], ◌∷◌, Option, Some, None, codes}
use Rattle.std.specs.Str.{bytes_eq}
use Rattle.word_grammar.specs.declared.grammar.CommandName.{CommandName}
use Rattle.word_grammar.specs.declared.grammar.CommandName.TheVariants as command
use Rattle.word_grammar.specs.declared.grammar.Takes.{Takes}
use Rattle.word_grammar.specs.declared.grammar.Takes.TheVariants.{Required, Once, Repeated, Flag}
use Rattle.word_grammar.specs.declared.grammar.ValueKind.{ValueKind}
use Rattle.word_grammar.specs.declared.grammar.ValueKind.TheVariants.{Any, Bank}

-- a text is the list of its bytes
abbrev pub Word : Type 0
Word = List ℕ

-- an option of a command: how it is written, how the command takes it, and what its values are
pub record OptionRule : Type 0 where
  pub text : Word
  pub takes : Takes
  pub value : ValueKind

-- an option by how it is written, how it is taken and what its values are
abbrev pub option : Word → Takes → ValueKind → OptionRule
option text takes value = record { text = text; takes = takes; value = value }

-- the options of `ukify build`; required ones are looked for in this order
abbrev pub build_options : List OptionRule
build_options =
    option (codes "--stub") Required Any
    ∷ option (codes "--linux") Required Any
    ∷ option (codes "--output") Required Any
    ∷ option (codes "--os-release") Once Any
    ∷ option (codes "--cmdline") Once Any
    ∷ option (codes "--devicetree") Once Any
    ∷ option (codes "--uname") Once Any
    ∷ option (codes "--splash") Once Any
    ∷ option (codes "--pcrpkey") Once Any
    ∷ option (codes "--initrd") Repeated Any
    ∷ option (codes "--microcode") Once Any
    ∷ option (codes "--section") Repeated Any
    ∷ option (codes "--sbat") Once Any
    ∷ option (codes "--measure") Flag Any
    ∷ []

-- the options of `measure calculate`
abbrev pub calculate_options : List OptionRule
calculate_options =
    option (codes "--linux") Required Any
    ∷ option (codes "--osrel") Once Any
    ∷ option (codes "--cmdline") Once Any
    ∷ option (codes "--initrd") Once Any
    ∷ option (codes "--ucode") Once Any
    ∷ option (codes "--splash") Once Any
    ∷ option (codes "--dtb") Once Any
    ∷ option (codes "--uname") Once Any
    ∷ option (codes "--sbat") Once Any
    ∷ option (codes "--pcrpkey") Once Any
    ∷ option (codes "--bank") Repeated Bank
    ∷ option (codes "--phase") Repeated Any
    ∷ option (codes "--json") Flag Any
    ∷ []

-- the options of `measure image`
abbrev pub image_options : List OptionRule
image_options =
    option (codes "--bank") Repeated Bank
    ∷ option (codes "--phase") Repeated Any
    ∷ option (codes "--json") Flag Any
    ∷ []

-- the option of `ukify inspect`
abbrev pub inspect_options : List OptionRule
inspect_options = option (codes "--json") Flag Any ∷ []

-- the options of `bootctl list`
abbrev pub list_options : List OptionRule
list_options = option (codes "--esp-path") Once Any ∷ option (codes "--json") Flag Any ∷ []

-- the option of the commands on an ESP that have no other
abbrev pub esp_options : List OptionRule
esp_options = option (codes "--esp-path") Once Any ∷ []

-- the options of `install`
abbrev pub install_options : List OptionRule
install_options = option (codes "--tries") Once Any ∷ option (codes "--esp-path") Once Any ∷ []

-- the options of `type1 install`
abbrev pub type1_install_options : List OptionRule
type1_install_options =
    option (codes "--linux") Required Any
    ∷ option (codes "--initrd") Repeated Any
    ∷ option (codes "--title") Once Any
    ∷ option (codes "--version") Once Any
    ∷ option (codes "--machine-id") Once Any
    ∷ option (codes "--sort-key") Once Any
    ∷ option (codes "--options") Once Any
    ∷ option (codes "--esp-path") Once Any
    ∷ []

-- the options of `keep`
abbrev pub keep_options : List OptionRule
keep_options =
    option (codes "--per-key") Flag Any
    ∷ option (codes "--dry-run") Flag Any
    ∷ option (codes "--esp-path") Once Any
    ∷ []

-- a command: its first word, its verb where it has one, how many operands it takes, and its options
pub record Row : Type 0 where
  pub name : Word
  pub verb : Option Word
  pub operands : ℕ
  pub options : List OptionRule

-- a command with a verb
abbrev pub row_with_verb : Word → Word → ℕ → List OptionRule → Row
row_with_verb name verb operands options =
    record { name = name; verb = Some verb; operands = operands; options = options }

-- a command without a verb
abbrev pub row_without_verb : Word → ℕ → List OptionRule → Row
row_without_verb name operands options = record { name = name; verb = None; operands = operands; options = options }

-- the table of the commands
abbrev pub row : CommandName → Row
row command.Build = row_with_verb (codes "ukify") (codes "build") 0 build_options
row command.Inspect = row_with_verb (codes "ukify") (codes "inspect") 1 inspect_options
row command.Calculate = row_with_verb (codes "measure") (codes "calculate") 0 calculate_options
row command.Image = row_with_verb (codes "measure") (codes "image") 1 image_options
row command.ListEntries = row_with_verb (codes "bootctl") (codes "list") 0 list_options
row command.Unlink = row_with_verb (codes "bootctl") (codes "unlink") 1 esp_options
row command.Identify = row_with_verb (codes "bootctl") (codes "kernel-identify") 1 []
row command.Tidy = row_without_verb (codes "tidy") 0 esp_options
row command.Install = row_without_verb (codes "install") 2 install_options
row command.Boot = row_without_verb (codes "boot") 0 esp_options
row command.BlessGood = row_with_verb (codes "bless") (codes "good") 1 esp_options
row command.BlessBad = row_with_verb (codes "bless") (codes "bad") 1 esp_options
row command.BlessIndeterminate = row_with_verb (codes "bless") (codes "indeterminate") 1 esp_options
row command.BlessStatus = row_with_verb (codes "bless") (codes "status") 1 esp_options
row command.LoaderShow = row_with_verb (codes "loader") (codes "show") 0 esp_options
row command.LoaderDefault = row_with_verb (codes "loader") (codes "set-default") 1 esp_options
row command.LoaderTimeout = row_with_verb (codes "loader") (codes "set-timeout") 1 esp_options
row command.Type1Install = row_with_verb (codes "type1") (codes "install") 1 type1_install_options
row command.Type1Cleanup = row_with_verb (codes "type1") (codes "cleanup") 0 esp_options
row command.Keep = row_without_verb (codes "keep") 1 keep_options
row command.Script = row_without_verb (codes "script") 0 []
row command.Demo = row_without_verb (codes "demo") 2 []

-- every command
abbrev pub commands : List CommandName
commands =
    command.Build
    ∷ command.Inspect
    ∷ command.Calculate
    ∷ command.Image
    ∷ command.ListEntries
    ∷ command.Unlink
    ∷ command.Identify
    ∷ command.Tidy
    ∷ command.Install
    ∷ command.Boot
    ∷ command.BlessGood
    ∷ command.BlessBad
    ∷ command.BlessIndeterminate
    ∷ command.BlessStatus
    ∷ command.LoaderShow
    ∷ command.LoaderDefault
    ∷ command.LoaderTimeout
    ∷ command.Type1Install
    ∷ command.Type1Cleanup
    ∷ command.Keep
    ∷ command.Script
    ∷ command.Demo
    ∷ []

-- the command is called so
abbrev pub is_name_of : Word → CommandName → Bool
is_name_of word c = bytes_eq (row c).name word

-- whether the verb is there and is this word
abbrev pub is_verb : Option Word → Word → Bool
is_verb None word = false
is_verb (Some verb) word = bytes_eq verb word

-- the command is called so, and has this verb
abbrev pub is_verbed : Word → Word → CommandName → Bool
is_verbed name verb c = bytes_eq (row c).name name && is_verb (row c).verb verb

-- the option is written so
abbrev pub is_text_of : Word → OptionRule → Bool
is_text_of text option = bytes_eq option.text text
