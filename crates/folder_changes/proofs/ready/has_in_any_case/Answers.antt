use Rattle.std.proofs.Common.{◌∙◌, ℕ, List, rules, tests, String, Global, string_bytes}
use Rattle.std.proofs.lemmas.Iterator.{YieldsList-from_slice}
use Rattle.std.proofs.lemmas.Iterator.Search.{any_from_yields_List}
use Rattle.fat_rules.specs.Twins.{same_letters}
use Rattle.folder_changes.proofs.Listing.{any_of_texts}
use Rattle.folder_changes.proofs.ready.has_in_any_case.Goals as goal

pub returns : goal.returns
returns c =
    any_from_yields_List (λ (other : String Global). same_letters (string_bytes other) c.args.name.now) _ _ c.any.result
    c.any.ensures.ran (YieldsList-from_slice c.args.names.now (search rules)) (λ x b q k. search (rules, tests))
    ∙ any_of_texts (λ (other : List ℕ). same_letters other c.args.name.now) c.args.names.now
