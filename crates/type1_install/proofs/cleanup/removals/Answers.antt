use Rattle.std.proofs.Common.{◌∙◌, ◌++◌, ◌∷◌, [], ap, map}
use Rattle.std.proofs.lemmas.List.{map-append}
use Rattle.boot_base.specs.Paths.{Path}
use Rattle.tool_words.specs.declared.action.Action.TheVariants as action
use Rattle.type1_install.proofs.Appending.{all_made, one_more}
use Rattle.type1_install.proofs.cleanup.removals.Goals as goal

pub loop-path-init : goal.loop-path-init
loop-path-init c = record { made = c.new-commands.ensures.items }

pub loop-path-preserved : goal.loop-path-preserved
loop-path-preserved c =
    let before = c.loop-path.commands.items in
    record {
      made =
          one_more (map action.Remove) (map-append action.Remove) c.args.paths.now c.loop-path.path-index c.path-item.result c.path-item.result [] before c.push.new.items.items
          c.loop-path-test.true c.path-item.is c.loop-path.invariant.made
          (c.in_ok-push.ensures ∙ ap (λ (p : Path). before ++ action.Remove p ∷ []) c.in_ok-path.ensures);
    }

pub returns : goal.returns
returns c =
    all_made (map action.Remove) (map-append action.Remove) c.args.paths.now c.args.paths.now c.loop-path.path-index [] c.loop-path.commands.items (λ i. c.args.paths.now) c.loop-path-test.false
    c.loop-path.invariant.made
