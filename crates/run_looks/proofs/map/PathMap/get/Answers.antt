use Rattle.std.proofs.Common.{sym, ap, ◌∙◌}
use Rattle.std.specs.FinMap as map
use Rattle.run_looks.proofs.Maps.{get_by_text}
use Rattle.run_looks.proofs.map.PathMap.get.Goals as goal

pub returns : goal.returns
returns g c =
    c.get.ensures.value ∙ sym (get_by_text c.self.inside.entries.entries c.args.path.now)
    ∙ ap (λ m. map.get m c.args.path.now) c.self.view_is
