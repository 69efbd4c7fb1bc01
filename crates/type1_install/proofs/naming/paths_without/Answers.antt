use Rattle.std.proofs.Common.{not, rules, bytes_eq}
use Rattle.std.specs.List.{list_any}
use Rattle.std.proofs.lemmas.Fn.{filter_same}
use Rattle.boot_base.specs.Paths.{Path}
use Rattle.type1_install.proofs.naming.paths_without.Goals as goal

pub returns : goal.returns
returns c = filter_same _ (λ (path : Path). not (list_any (λ other. bytes_eq other path) c.args.named.now)) _ (λ x b f' k. search rules) _ _ c.retain.ensures.filtered
