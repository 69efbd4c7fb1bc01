use Rattle.std.proofs.Common.{◌∙◌, ℕ, List, ap, not, rules, bytes_eq}
use Rattle.std.proofs.lemmas.Fn.{filter_same}
use Rattle.name_syncs.specs.Paths.{paths_without}
use Rattle.name_syncs.proofs.paths.Paths.remove.Goals as goal

pub returns : goal.returns
returns c =
    filter_same _ (λ (known : List ℕ). not (bytes_eq known c.args.path.now)) _ (λ x b f' k. search rules) _ _ c.retain.ensures.filtered
    ∙ ap (λ (known : List (List ℕ)). paths_without known c.args.path.now) c.self.view_is
