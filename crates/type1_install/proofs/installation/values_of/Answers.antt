use Rattle.std.proofs.Common.{◌∙◌, ◌++◌, ◌∷◌, [], List, ℕ, ap, map}
use Rattle.std.proofs.lemmas.List.{map-append}
use Rattle.type1_install.specs.Shown.{value_of_payload}
use Rattle.type1_install.proofs.Appending.{all_made, one_more}
use Rattle.type1_install.proofs.installation.values_of.Goals as goal

pub loop-payload-preserved : goal.loop-payload-preserved
loop-payload-preserved c =
    one_more (map value_of_payload) (map-append value_of_payload) c.args.payloads.now c.loop-payload.payload-index c.payload-item.result c.payload-item.result [] c.loop-payload.values c.push.new.self
    c.loop-payload-test.true c.payload-item.is c.loop-payload.invariant
    (c.in_ok-push.ensures.ok ∙ ap (λ (x : List ℕ). c.loop-payload.values ++ x ∷ []) c.in_ok-value_of_payload.ensures)

pub returns : goal.returns
returns c =
    all_made (map value_of_payload) (map-append value_of_payload) c.args.payloads.now c.args.payloads.now c.loop-payload.payload-index [] c.loop-payload.values (λ i. c.args.payloads.now) c.loop-payload-test.false c.loop-payload.invariant
