use Rattle.std.proofs.Common.{◌∙◌, rules, tests, String, Global, string_bytes, bytes_eq}
use Rattle.std.proofs.lemmas.Iterator.{YieldsList-from_slice}
use Rattle.std.proofs.lemmas.Iterator.Search.{any_from_yields_List}
use Rattle.folder_changes.proofs.Listing.{has_path_of_texts}
use Rattle.folder_changes.proofs.twins.has_name.Goals as goal

pub returns : goal.returns
returns c =
    any_from_yields_List (λ (known : String Global). bytes_eq (string_bytes known) c.args.name.now) _ _ c.any.result
    c.any.ensures.ran (YieldsList-from_slice c.args.names.now (search rules)) (λ x b q k. search (rules, tests))
    ∙ has_path_of_texts c.args.names.now c.args.name.now
