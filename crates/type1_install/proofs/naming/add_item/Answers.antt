use Rattle.std.proofs.Common.{◌∙◌, ◌++◌, List, ap, filter_map}
use Rattle.std.proofs.lemmas.Result.{on_ok_weaker}
use Rattle.boot_base.specs.Paths.{Path}
use Rattle.type1_install.specs.Payloads.{path_of_value}
use Rattle.type1_install.proofs.Unnamed.{item_paths}
use Rattle.type1_install.proofs.naming.add_item.Goals as goal

pub returns : goal.returns
returns c =
    let f = filter_map (path_of_value c.args.esp.now) in
    on_ok_weaker c.add_values.result
    (λ is. item_paths c.args.esp.now c.args.item.now c.args.named.now.items c.add_given.new.named.items c.add_given-2.new.named.items c.add_values.new.named.items
    c.in_ok-add_given.ensures c.in_ok-add_given-2.ensures (is ∙ ap (λ (l : List Path). c.add_given-2.new.named.items ++ f l) c.as_slice.ensures))
    c.add_values.ensures
