use Rattle.std.proofs.Common.{find, option_map, ap, sym, ◌∙◌, rules, tests}
use Rattle.std.proofs.lemmas.Iterator.{YieldsList-from_slice}
use Rattle.std.proofs.lemmas.Iterator.Adapters.{option_map_id}
use Rattle.std.proofs.lemmas.Iterator.Consumers.{YieldsList-from_copied}
use Rattle.std.proofs.lemmas.Iterator.Search.{find_from_yields_List}
use Rattle.word_grammar.specs.Grammar.{Row, is_text_of}
use Rattle.word_grammar.specs.declared.grammar.OptionRow.{OptionRow}
use Rattle.word_grammar.specs.Shown.{option_shown}
use Rattle.word_grammar.proofs.Finding.{find-map}
use Rattle.word_grammar.proofs.grammar.CommandName.option.Goals as goal

pub returns : goal.returns
returns c =
    let text = c.args.text.now in
    let options = c.row.result.options.now in
    let found = find_from_yields_List (λ (o : OptionRow). is_text_of text (option_shown o)) _ _ c.find.result c.find.ensures.ran (YieldsList-from_copied (YieldsList-from_slice options (search rules))) (λ x b q k. search (rules, tests)) in
    ap (option_map option_shown) (sym (option_map_id c.find.result) ∙ found)
    ∙ find-map (is_text_of text) option_shown options
    ∙ ap (λ (row : Row). find (is_text_of text) row.options) c.row.ensures
