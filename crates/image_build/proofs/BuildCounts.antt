-- The parts that words of a build name can be counted.
use Rattle.std.proofs.Common.{◌≡◌, ◌≤◌, ◌+◌, ℕ, List, [], ◌∷◌, length, refl, sym, ap, ◌∙◌, subst, true, false, arith, Result, Ok, Err, Bool, Option, Some, None, map, sum_by, option_map, codes, is_some, if◌then◌else◌, ◌||◌, ◌==◌, nat_lt, ltb-false}
use Rattle.std.specs.List.{AllByRecursion, last_or, list_any}
use Rattle.command_plans.specs.Prelude.{each, if_given, path_in}
use Rattle.command_plans.proofs.Each.{bind_ok, each_length}
use Rattle.tool_words.specs.declared.command.BuildWords.{BuildWords}
use Rattle.tool_words.specs.declared.command.Command.{Command}
use Rattle.tool_words.specs.declared.command.Command.TheVariants as command
use Rattle.tool_words.specs.declared.command.One.TheVariants as one
use Rattle.tool_words.specs.declared.command.Given.{Given}
use Rattle.tool_words.specs.declared.command.Given.TheVariants.{Inline, File}
use Rattle.tool_words.specs.declared.fault.UsageReason.{UsageReason}
use Rattle.tool_words.specs.declared.fault.UsageReason.TheVariants as reason
use Rattle.tool_words.specs.Items.{Item, all_values, items, last_option_value, operands}
use Rattle.tool_words.specs.Meaning.{GatheredItems, all_required, are_too_long, build_words, command_of, command_with, check_count, command_from, found_name, found_verb, gather_items, inline_or_file, is_long, meaning, read_words, repeats, with_verb}
use Rattle.uki_parts.specs.declared.kind.PartKind.TheVariants as kinds
use Rattle.uki_parts.specs.declared.name.SectionName.{SectionName}
use Rattle.word_grammar.specs.declared.grammar.CommandName.{CommandName}
use Rattle.word_grammar.specs.declared.grammar.CommandName.TheVariants as name
use Rattle.word_grammar.specs.Grammar.{Word, row}
use Rattle.image_build.specs.declared.source.Source.{Source}
use Rattle.image_build.specs.declared.source.Source.TheVariants as sources
use Rattle.image_build.specs.Building.{NamedFiles, clean, extra_part, given_list, named_files, section_of, source_of, sources_of, wanted_parts}
use Rattle.image_build.proofs.Countable.{AreBounded, AreLight, bounded, light_more, light_sections, light_wanted, sections_short}
use Rattle.image_build.proofs.OptionCounts.{AreApart, AreShort, IsShortGiven, given_of, given_short, once_short, short_map, values_count, values_few, values_short}
use Rattle.image_build.proofs.Lines.{cleaned_short}
use Rattle.image_build.proofs.WordCounts.{GivesShort, IsShort, bound, few_items}

-- words within their limits are short
long_cases : (word : Word) → is_long word ≡ false → IsShort word
long_cases word is = ltb-false 1048576 (length word) is

short_by : (b : Bool) (word : Word) (words : List Word) → is_long word ≡ b → (b || list_any is_long words) ≡ false → (list_any is_long words ≡ false → AllByRecursion IsShort words)
    → AllByRecursion IsShort (word ∷ words)
short_by true word words long is rest = cc
short_by false word words long is rest = (long_cases word long, rest is)

short_words : (words : List Word) → list_any is_long words ≡ false → AllByRecursion IsShort words
short_words [] is = tt
short_words (word ∷ words) is = short_by (is_long word) word words refl is (short_words words)

-- the words are within their limits
pub record AreWithin (words : List Word) : Type 0 where
  pub few : length words ≤ 16777216
  pub short : AllByRecursion IsShort words

within_by : (a b : Bool) (words : List Word) → nat_lt 16777216 (length words) ≡ a → list_any is_long words ≡ b → (a || b) ≡ false → AreWithin words
within_by true b words many long is = cc
within_by false true words many long is = cc
within_by false false words many long is = record { few = ltb-false 16777216 (length words) many; short = short_words words long }

-- what the words after the command and its verb are
pub record AreBehind (words rest : List Word) : Type 0 where
  pub fewer : length rest + 2 ≤ length words
  pub short : AllByRecursion IsShort words → AllByRecursion IsShort rest

chosen_words : (c d : CommandName) (words rest : List Word) → (let r : Result (CommandName × List Word) UsageReason = Ok (c, words) in r) ≡ Ok (d, rest) → (c ≡ d) × (words ≡ rest)
chosen_words c d words rest is = let same : (c, words) ≡ (d, rest) = cc is in (ap (λ (p : CommandName × List Word). p.0) same, ap (λ (p : CommandName × List Word). p.1) same)

behind_verb : (found : Option CommandName) (first verb : Word) (words : List Word) (c : CommandName) (rest : List Word)
    → found_verb found verb words ≡ Ok (c, rest) → AreBehind (first ∷ verb ∷ words) rest
behind_verb None first verb words c rest is = cc
behind_verb (Some d) first verb words c rest is =
    subst (AreBehind (first ∷ verb ∷ words)) (chosen_words d c words rest is).1 (record { fewer = omega arith; short = λ short. short.1.1 })

behind_name : (first : Word) (words : List Word) (c : CommandName) (rest : List Word) → with_verb first words ≡ Ok (c, rest) → AreBehind (first ∷ words) rest
behind_name first [] c rest is = cc
behind_name first (verb ∷ words) c rest is = behind_verb _ first verb words c rest is

behind_by : (b : Bool) (d : CommandName) (first : Word) (words : List Word) (c : CommandName) (rest : List Word) → is_some (row d).verb ≡ b → is_some (row c).verb ≡ true
    → (if b then with_verb first words else Ok (d, words)) ≡ Ok (c, rest) → AreBehind (first ∷ words) rest
behind_by true d first words c rest has verbs is = behind_name first words c rest is
behind_by false d first words c rest has verbs is =
    let same = (chosen_words d c words rest is).0 in
    absurd (let no : true ≡ false = sym verbs ∙ ap (λ (e : CommandName). is_some (row e).verb) (sym same) ∙ has in cc no)

behind_found : (found : Option CommandName) (first : Word) (words : List Word) (c : CommandName) (rest : List Word) → is_some (row c).verb ≡ true
    → found_name found first words ≡ Ok (c, rest) → AreBehind (first ∷ words) rest
behind_found None first words c rest verbs is = cc
behind_found (Some d) first words c rest verbs is = behind_by (is_some (row d).verb) d first words c rest refl verbs is

behind : (words : List Word) (c : CommandName) (rest : List Word) → is_some (row c).verb ≡ true → command_of words ≡ Ok (c, rest) → AreBehind words rest
behind [] c rest verbs is = cc
behind (first ∷ words) c rest verbs is = behind_found _ first words c rest verbs is

-- only one command is a build
filled_build : (c : CommandName) (g : GatheredItems) (build : BuildWords) → command_from c g ≡ command.One (one.Build build) → (c ≡ name.Build) × (build_words g ≡ build)
filled_build name.Build g build is = (refl, cc is)
filled_build c g build is = cc

-- what is inline_or_file once
once_of : (f : Word → Given) (value : Option Word) → given_list (option_map f value) ≡ given_of f value
once_of f None = refl
once_of f (Some value) = refl

cleaned_of : (value : Option Word) → given_list (option_map clean (option_map inline_or_file value)) ≡ given_of (λ w. clean (inline_or_file w)) value
cleaned_of None = refl
cleaned_of (Some value) = refl

clean_by : (b : Bool) (bytes word : Word) → IsShort word → IsShortGiven (clean (if b then File bytes else Inline word))
clean_by true bytes word short = tt
clean_by false bytes word short = omega (arith, short, cleaned_short word)

clean_short : (word : Word) → IsShort word → IsShortGiven (clean (inline_or_file word))
clean_short [] short = omega (arith, short, cleaned_short [])
clean_short (first ∷ bytes) short = clean_by (first == 64) bytes (first ∷ bytes) short

repeated_short : (b : Bool) (values : List Word) → AllByRecursion IsShort values → AllByRecursion IsShort (if b then values else [])
repeated_short true values short = short
repeated_short false values short = tt

repeated_few : (b : Bool) (values : List Word) → length (if b then values else []) ≤ length values
repeated_few true values = omega arith
repeated_few false values = omega arith

at_least : (a b : ℕ) (givens : List Given) → a ≤ b → AreShort a givens → AreShort b givens
at_least a b givens le short = record { few = omega (arith, short.few, le); short = short.short }

-- the options that name parts
abbrev part_options : List Word
part_options =
    codes "--os-release" ∷ codes "--cmdline" ∷ codes "--devicetree" ∷ codes "--uname" ∷ codes "--splash" ∷ codes "--pcrpkey" ∷ codes "--initrd" ∷ codes "--microcode" ∷ codes "--section" ∷ []

options_apart : AreApart part_options
options_apart = (refl, (refl, (refl, (refl, (refl, (refl, (refl, (refl, (refl, tt)))))))))

nine : (f : Word → ℕ) (a b c d e g h i j : Word) → sum_by f (a ∷ b ∷ c ∷ d ∷ e ∷ g ∷ h ∷ i ∷ j ∷ []) ≡ f a + f b + f c + f d + f e + f g + f h + f i + f j
nine f a b c d e g h i j = omega arith

said_short : (value : Word) → IsShort value → IsShortGiven (inline_or_file value)
said_short value short = given_short value (omega (arith, short))

-- the parts that are wanted are as few as the items
wanted_light : (found : List Item) (sections : List (SectionName × Given)) → AllByRecursion GivesShort found → each section_of (build_words (gather_items name.Build found)).sections ≡ Ok sections
    → AreLight (values_count part_options found) (wanted_parts (build_words (gather_items name.Build found)) sections)
wanted_light found sections short is =
    let f = λ (o : Word). length (all_values o found) in
    let values = λ (o : Word). values_short o found short in
    let once = λ (o : Word) (g : Word → Given) (fits : (w : Word) → IsShort w → IsShortGiven (g w)).
    subst (AreShort (f o)) (sym (once_of g (last_option_value o found))) (once_short g (all_values o found) fits (values o)) in
    let text = λ (w : Word) (le : IsShort w). said_short w le in
    let file = λ (w : Word) (le : IsShort w). (let t : IsShortGiven (File w) = tt in t) in
    let bare = λ (w : Word) (le : IsShort w). (let t : IsShortGiven (Inline w) = omega (arith, le) in t) in
    let line : AreShort (f (codes "--cmdline")) (given_list (option_map clean (option_map inline_or_file (last_option_value (codes "--cmdline") found)))) =
    subst (AreShort (f (codes "--cmdline"))) (sym (cleaned_of (last_option_value (codes "--cmdline") found)))
    (once_short (λ (w : Word). clean (inline_or_file w)) (all_values (codes "--cmdline") found) clean_short (values (codes "--cmdline"))) in
    let initrds = if repeats name.Build (codes "--initrd") then all_values (codes "--initrd") found else [] in
    let several : AreShort (f (codes "--initrd")) (map File initrds) =
    at_least (length initrds) (f (codes "--initrd")) (map File initrds) (repeated_few (repeats name.Build (codes "--initrd")) (all_values (codes "--initrd") found))
    (short_map File initrds file (repeated_short (repeats name.Build (codes "--initrd")) (all_values (codes "--initrd") found) (values (codes "--initrd")))) in
    let extras = if repeats name.Build (codes "--section") then all_values (codes "--section") found else [] in
    let more : AreLight (f (codes "--section")) (map extra_part sections) =
    light_sections (f (codes "--section")) sections
    (omega (arith, each_length section_of extras sections is, repeated_few (repeats name.Build (codes "--section")) (all_values (codes "--section") found)))
    (sections_short extras sections (repeated_short (repeats name.Build (codes "--section")) (all_values (codes "--section") found) (values (codes "--section"))) is) in
    subst (λ (n : ℕ). AreLight n (wanted_parts (build_words (gather_items name.Build found)) sections))
    (sym
    (nine f (codes "--os-release") (codes "--cmdline") (codes "--devicetree") (codes "--uname") (codes "--splash") (codes "--pcrpkey")
    (codes "--initrd") (codes "--microcode") (codes "--section")))
    (light_more _ _ _ _
    (light_more _ _ _ _
    (light_more _ _ _ _
    (light_more _ _ _ _
    (light_more _ _ _ _
    (light_more _ _ _ _
    (light_more _ _ _ _
    (light_more _ _ _ _
    (light_wanted kinds.Osrel (codes ".osrel") _ _ (once (codes "--os-release") inline_or_file text))
    (light_wanted kinds.Cmdline (codes ".cmdline") _ _ line))
    (light_wanted kinds.Dtb (codes ".dtb") _ _ (once (codes "--devicetree") File file)))
    (light_wanted kinds.Uname (codes ".uname") _ _ (once (codes "--uname") Inline bare)))
    (light_wanted kinds.Splash (codes ".splash") _ _ (once (codes "--splash") File file)))
    (light_wanted kinds.Pcrpkey (codes ".pcrpkey") _ _ (once (codes "--pcrpkey") File file)))
    (light_wanted kinds.Initrd (codes ".initrd") _ _ several))
    (light_wanted kinds.Ucode (codes ".ucode") _ _ (once (codes "--microcode") File file)))
    more)

-- what a command of these words has found
record IsBuiltOf (words : List Word) (build : BuildWords) : Type 0 where
  rest : List Word
  found : List Item
  behind_is : AreBehind words rest
  items_are : items name.Build rest ≡ Ok found
  words_are : build_words (gather_items name.Build found) ≡ build

built_with : (c : CommandName) (words rest : List Word) (build : BuildWords) (found : List Item) → command_of words ≡ Ok (c, rest)
    → items c rest ≡ Ok found → command_with c found ≡ Ok (command.One (one.Build build)) → IsBuiltOf words build
built_with c words rest build found chosen read is =
    let count = bound (check_count (row c).operands (length (operands found))) _ (command.One (one.Build build)) is in
    let required = bound (all_required c (gather_items c found).last) _ (command.One (one.Build build)) count.2 in
    let same = filled_build c (gather_items c found) build (cc required.2) in
    let items_are : items name.Build rest ≡ Ok found = subst (λ (d : CommandName). items d rest ≡ Ok found) same.0 read in
    let chosen_is : command_of words ≡ Ok (name.Build, rest) = subst (λ (d : CommandName). command_of words ≡ Ok (d, rest)) same.0 chosen in
    record {
      rest = rest;
      found = found;
      behind_is = behind words name.Build rest refl chosen_is;
      items_are = items_are;
      words_are = subst (λ (d : CommandName). build_words (gather_items d found) ≡ build) same.0 same.1;
    }

built_of : (words : List Word) (build : BuildWords) → read_words words ≡ Ok (command.One (one.Build build)) → IsBuiltOf words build
built_of words build is =
    let chosen = bound (command_of words) _ (command.One (one.Build build)) is in
    let found = bound (items chosen.0.0 chosen.0.1) _ (command.One (one.Build build)) chosen.2 in
    built_with chosen.0.0 words chosen.0.1 build found.0 chosen.1 found.1 found.2

read_within : (b : Bool) (words : List Word) (c : Command) → (if b then Err reason.TooLong else read_words words) ≡ Ok c → (b ≡ false) × (read_words words ≡ Ok c)
read_within true words c is = cc
read_within false words c is = (refl, is)

-- what the words name
named_parts : (build : BuildWords) (named : NamedFiles) → named_files build ≡ Ok named
    → (sections : List (SectionName × Given)) × (each section_of build.sections ≡ Ok sections) × (each sources_of (wanted_parts build sections) ≡ Ok named.parts)
    × (if_given source_of build.parts.sbat ≡ Ok named.sbat)
named_parts build named is =
    let sections = bind_ok (each section_of build.sections) _ named is in
    let stub = bind_ok (path_in build.stub) _ named sections.2 in
    let linux = bind_ok (path_in build.linux) _ named stub.2 in
    let parts = bind_ok (each sources_of (wanted_parts build sections.0)) _ named linux.2 in
    let sbat = bind_ok (if_given source_of build.parts.sbat) _ named parts.2 in
    let output = bind_ok (path_in build.output) _ named sbat.2 in
    let same : record { stub = stub.0; linux = linux.0; parts = parts.0; sbat = sbat.0; output = output.0 } ≡ named = cc output.2 in
    (sections.0, sections.1, parts.1 ∙ ap (λ (n : NamedFiles). Ok n.parts) same, sbat.1 ∙ ap (λ (n : NamedFiles). Ok n.sbat) same)

-- the text of `--sbat` is short
abbrev pub SourceIsShort : Option Source → Type 0
SourceIsShort None = Unit {0}
SourceIsShort (Some (sources.Said text)) = length text ≤ 268435456
SourceIsShort (Some (sources.At path)) = Unit {0}

given_source : (from : Given) (source : Source) → IsShortGiven from → source_of from ≡ Ok source → SourceIsShort (Some source)
given_source (Inline text) source short is = let same : sources.Said text ≡ source = cc is in subst (λ (s : Source). SourceIsShort (Some s)) same short
given_source (File word) source short is =
    let path = bind_ok (path_in word) _ source is in
    let same : sources.At path.0 ≡ source = cc path.2 in
    subst (λ (s : Source). SourceIsShort (Some s)) same tt

abbrev OptionIsShort : Option Word → Type 0
OptionIsShort None = Unit {0}
OptionIsShort (Some word) = IsShort word

last_is_short : (first : Option Word) (values : List Word) → OptionIsShort first → AllByRecursion IsShort values → OptionIsShort (last_or first values)
last_is_short first [] short more = short
last_is_short first (value ∷ values) short more = last_is_short (Some value) values more.0 more.1

sbat_short : (value : Option Word) (source : Option Source) → OptionIsShort value → if_given source_of (option_map inline_or_file value) ≡ Ok source → SourceIsShort source
sbat_short None source short is = let same : None ≡ source = cc is in subst SourceIsShort same tt
sbat_short (Some word) source short is =
    let found = bind_ok (source_of (inline_or_file word)) _ source is in
    let same : Some found.0 ≡ source = cc found.2 in
    subst SourceIsShort same (given_source (inline_or_file word) found.0 (said_short word short) found.1)

-- The words of a build name at most 16,777,214 parts, and no long text of `--sbat`.
pub record IsBounded (named : NamedFiles) : Type 0 where
  pub parts : AreBounded 16777214 named.parts
  pub sbat : SourceIsShort named.sbat

pub build_bounded : (words : List Word) (build : BuildWords) (named : NamedFiles) → meaning words ≡ Ok (command.One (one.Build build)) → named_files build ≡ Ok named → IsBounded named
build_bounded words build named is names =
    let read = read_within (are_too_long words) words (command.One (one.Build build)) is in
    let within = within_by (nat_lt 16777216 (length words)) (list_any is_long words) words refl refl read.0 in
    let built = built_of words build read.1 in
    let short = built.behind_is.short within.short in
    let few = few_items name.Build built.rest built.found short built.items_are in
    let parts = named_parts build named names in
    let sections : each section_of (build_words (gather_items name.Build built.found)).sections ≡ Ok parts.0 =
    subst (λ (w : BuildWords). each section_of w.sections ≡ Ok parts.0) (sym built.words_are) parts.1 in
    let sourced : each sources_of (wanted_parts (build_words (gather_items name.Build built.found)) parts.0) ≡ Ok named.parts =
    subst (λ (w : BuildWords). each sources_of (wanted_parts w parts.0) ≡ Ok named.parts) (sym built.words_are) parts.2 in
    let bounds = bounded (values_count part_options built.found) _ named.parts (wanted_light built.found parts.0 few.short sections) sourced in
    let fewer = built.behind_is.fewer in
    let most : values_count part_options built.found ≤ 16777214 =
    omega (arith, values_few part_options built.found options_apart, few.few, fewer, within.few) in
    let said : if_given source_of (build_words (gather_items name.Build built.found)).parts.sbat ≡ Ok named.sbat =
    subst (λ (w : BuildWords). if_given source_of w.parts.sbat ≡ Ok named.sbat) (sym built.words_are) parts.3 in
    record {
      parts = record { few = omega (arith, bounds.few, most); light = omega (arith, bounds.light, most) };
      sbat =
          sbat_short (last_option_value (codes "--sbat") built.found) named.sbat
          (last_is_short None (all_values (codes "--sbat") built.found) tt (values_short (codes "--sbat") built.found few.short)) said;
    }
