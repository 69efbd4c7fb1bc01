use Rattle.std.proofs.Common.{◌∙◌, ◌++◌, List, [], ap, append-nil, sym, flat_map}
use Rattle.std.proofs.lemmas.Grind.{flat_map-append}
use Rattle.boot_base.specs.Paths.{Path}
use Rattle.type1_install.specs.Unnamed.{paths_named_by}
use Rattle.type1_install.proofs.Appending.{all_made, one_more}
use Rattle.type1_install.proofs.naming.named_paths.Goals as goal

pub loop-item-init : goal.loop-item-init
loop-item-init c = c.new-named.ensures.items

pub loop-item-preserved : goal.loop-item-preserved
loop-item-preserved c =
    let f = paths_named_by c.args.esp.now in
    let before = c.loop-item.named.items in
    one_more (flat_map f) (flat_map-append f) c.args.items.now c.loop-item.item-index c.item-item.result c.item-item.result [] before c.add_item.new.named.items
    c.loop-item-test.true c.item-item.is c.loop-item.invariant
    (c.in_ok-add_item.ensures ∙ ap (λ (l : List Path). before ++ l) (sym (append-nil (f c.item-item.result))))

pub returns : goal.returns
returns c =
    let f = paths_named_by c.args.esp.now in
    all_made (flat_map f) (flat_map-append f) c.args.items.now c.args.items.now c.loop-item.item-index [] c.loop-item.named.items (λ i. c.args.items.now) c.loop-item-test.false c.loop-item.invariant
