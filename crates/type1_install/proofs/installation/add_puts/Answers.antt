use Rattle.std.proofs.Common.{◌∙◌, ◌++◌, ◌∷◌, [], append-nil, ap, map, sym}
use Rattle.std.proofs.lemmas.List.{map-append}
use Rattle.std.proofs.lemmas.List.Elements.{All-contains}
use Rattle.tool_words.specs.declared.action.Action.{Action}
use Rattle.type1_install.specs.Shown.{HasPayloadName, put_in}
use Rattle.type1_install.proofs.Appending.{all_made, one_more}
use Rattle.type1_install.proofs.installation.add_puts.Goals as goal

pub loop-payload-init : goal.loop-payload-init
loop-payload-init c = record { made = sym (append-nil c.args.commands.now.items) }

pub put_in-requires-clause-name : goal.put_in-requires-clause-name
put_in-requires-clause-name c =
    All-contains HasPayloadName c.args.payloads.now c.payload-item.result c.requires.names (c.loop-payload.payload-index, c.loop-payload-test.true, sym c.payload-item.is)

pub loop-payload-preserved : goal.loop-payload-preserved
loop-payload-preserved c =
    let before = c.loop-payload.commands.items in
    let put = put_in c.args.folder.now in
    record {
      made =
          one_more (map put) (map-append put) c.args.payloads.now c.loop-payload.payload-index c.payload-item.result c.payload-item.result c.args.commands.now.items before c.push.new.items.items
          c.loop-payload-test.true c.payload-item.is c.loop-payload.invariant.made
          (c.in_ok-push.ensures ∙ ap (λ (x : Action). before ++ x ∷ []) c.in_ok-command.ensures);
    }

pub returns : goal.returns
returns c =
    all_made (map (put_in c.args.folder.now)) (map-append (put_in c.args.folder.now)) c.args.payloads.now c.args.payloads.now c.loop-payload.payload-index c.args.commands.now.items c.loop-payload.commands.items (λ i. c.args.payloads.now) c.loop-payload-test.false
    c.loop-payload.invariant.made
