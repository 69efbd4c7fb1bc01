use Rattle.std.proofs.Common.{ap, ◌∙◌, string_bytes}
use Rattle.std.specs.FinMap as map
use Rattle.run_looks.proofs.Maps.{inserted}
use Rattle.run_looks.proofs.map.PathMap.insert.Goals as goal

pub returns-clause-ok : goal.returns-clause-ok
returns-clause-ok g c =
    inserted (string_bytes c.in_ok-path.path) c.self.inside.entries c.insert.new.self c.args.value c.in_ok-insert.ensures.updates
    ∙ ap (λ m. map.insert m (string_bytes c.in_ok-path.path) c.args.value) c.self.view_is
    ∙ ap (λ path. map.insert c.args.self.now path c.args.value) c.in_ok-path.ensures.ok
