use Rattle.std.proofs.Common.{sym, ap, ◌∙◌}
use Rattle.std.specs.FinSet as set
use Rattle.run_looks.proofs.NameSets.{contains_name}
use Rattle.run_looks.proofs.names.LastingNames.has.Goals as goal

pub returns : goal.returns
returns c =
    c.contains.ensures ∙ sym (contains_name c.self.inside.names.keys c.args.name.now)
    ∙ ap (λ s. set.contains s c.args.name.now) c.self.view_is
