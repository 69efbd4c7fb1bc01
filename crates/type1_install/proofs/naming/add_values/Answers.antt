use Rattle.std.proofs.Common.{◌∙◌, ◌++◌, List, ap, filter_map}
use Rattle.std.proofs.lemmas.List.Elements.{filter_map-append}
use Rattle.boot_base.specs.Paths.{Path}
use Rattle.type1_install.specs.Payloads.{path_of_value}
use Rattle.type1_install.proofs.Appending.{all_made, one_more}
use Rattle.type1_install.proofs.Unnamed.{one_option}
use Rattle.type1_install.proofs.naming.add_values.Goals as goal

pub loop-value-preserved : goal.loop-value-preserved
loop-value-preserved c =
    let f = path_of_value c.args.esp.now in
    let before = c.loop-value.named.items in
    one_more (filter_map f) (filter_map-append f) c.args.values.now c.loop-value.value-index c.value-item.result c.value-item.result c.args.named.now.items before c.add_value.new.named.items
    c.loop-value-test.true c.value-item.is c.loop-value.invariant
    (c.in_ok-add_value.ensures ∙ ap (λ (l : List Path). before ++ l) (one_option (f c.value-item.result)))

pub returns : goal.returns
returns c =
    let f = path_of_value c.args.esp.now in
    all_made (filter_map f) (filter_map-append f) c.args.values.now c.args.values.now c.loop-value.value-index c.args.named.now.items c.loop-value.named.items (λ i. c.args.values.now) c.loop-value-test.false c.loop-value.invariant
