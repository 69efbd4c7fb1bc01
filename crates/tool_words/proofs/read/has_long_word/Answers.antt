use Rattle.std.proofs.Common.{string_bytes, String, rules, tests, ◌∙◌, sym}
use Rattle.std.proofs.lemmas.Iterator.{YieldsList-from_slice}
use Rattle.std.proofs.lemmas.Iterator.Search.{any_from_yields_List}
use Rattle.std.specs.declared.alloc.Global.{Global}
use Rattle.tool_words.specs.Meaning.{is_long}
use Rattle.tool_words.proofs.Scans.{list_any-map}
use Rattle.tool_words.proofs.read.has_long_word.Goals as goal

pub returns : goal.returns
returns c =
    any_from_yields_List (λ (word : String Global). is_long (string_bytes word)) _ _ c.any.result c.any.ensures.ran (YieldsList-from_slice c.args.words.now (search rules)) (λ x b q k. search (rules, tests))
    ∙ sym (list_any-map is_long string_bytes c.args.words.now)
