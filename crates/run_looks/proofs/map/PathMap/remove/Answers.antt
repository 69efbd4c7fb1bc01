use Rattle.std.proofs.Common.{ap, ◌∙◌}
use Rattle.std.specs.FinMap as map
use Rattle.run_looks.proofs.Maps.{removed}
use Rattle.run_looks.proofs.map.PathMap.remove.Goals as goal

pub returns : goal.returns
returns g c =
    removed c.args.path.now c.self.inside.entries c.remove.new.self c.remove.ensures.updates
    ∙ ap (λ m. map.remove m c.args.path.now) c.self.view_is
