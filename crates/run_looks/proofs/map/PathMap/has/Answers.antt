use Rattle.std.proofs.Common.{is_some, sym, ap, ◌∙◌}
use Rattle.std.specs.FinMap as map
use Rattle.run_looks.proofs.Maps.{get_by_text}
use Rattle.run_looks.proofs.map.PathMap.has.Goals as goal

pub returns : goal.returns
returns g c =
    c.contains_key.ensures ∙ ap is_some (sym (get_by_text c.self.inside.entries.entries c.args.path.now))
    ∙ ap (λ m. map.contains_key m c.args.path.now) c.self.view_is
