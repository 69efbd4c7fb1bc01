use Rattle.std.proofs.Common.{find, option_map, ap, sym, ◌∙◌, rules, tests}
use Rattle.std.proofs.lemmas.Iterator.{YieldsList-from_slice}
use Rattle.std.proofs.lemmas.Iterator.Adapters.{option_map_id}
use Rattle.std.proofs.lemmas.Iterator.Consumers.{YieldsList-from_copied}
use Rattle.std.proofs.lemmas.Iterator.Search.{find_from_yields_List}
use Rattle.word_grammar.specs.Grammar.{Row}
use Rattle.word_grammar.specs.declared.grammar.OptionRow.{OptionRow}
use Rattle.word_grammar.specs.Shown.{option_shown}
use Rattle.word_grammar.proofs.Finding.{find-map}
use Rattle.tool_words.specs.Meaning.{is_missing, gather_items}
use Rattle.tool_words.specs.Shown.{items_shown}
use Rattle.tool_words.proofs.read.first_missing.Goals as goal

pub returns : goal.returns
returns c =
    let missing = is_missing (gather_items c.args.command (items_shown c.args.items.now)).last in
    let options = c.row-row.result.options.now in
    let found = find_from_yields_List (λ (o : OptionRow). missing (option_shown o)) _ _ c.find.result c.find.ensures.ran (YieldsList-from_copied (YieldsList-from_slice options (search rules))) (λ x b q k. search (rules, tests)) in
    ap (option_map option_shown) (sym (option_map_id c.find.result) ∙ found)
    ∙ find-map missing option_shown options
    ∙ ap (λ (row : Row). find missing row.options) c.row-row.ensures
