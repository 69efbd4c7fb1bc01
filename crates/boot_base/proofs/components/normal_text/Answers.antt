use Rattle.std.proofs.Common.{◌≡◌, true, map, ap, sym, ◌∙◌, rules, lit<}
use Rattle.std.proofs.lemmas.List.{map-append}
use Rattle.std.proofs.lemmas.Iterator.Consumers.{YieldsList-end}
use Rattle.std.proofs.lemmas.Iterator.Splits.{YieldsList-from_str_split}
use Rattle.boot_base.specs.Paths.{is_kept}
use Rattle.boot_base.proofs.Joined.{add_piece, is_kept-long, join_filtered, join_filtered-kept}
use Rattle.boot_base.proofs.components.normal_text.Goals as goal

pub loop-component-preserved-in-Continue-1 : goal.loop-component-preserved-in-Continue-1
loop-component-preserved-in-Continue-1 c =
    let component = c.in-Some.component.now in
    let kept : is_kept component ≡ true = sym c.counts.ensures ∙ c.if-counts.true in
    c.in_ok-add.ensures
    ∙ ap (λ text. add_piece 47 text component) c.loop-component.invariant
    ∙ sym (join_filtered-kept 47 is_kept is_kept-long (map (λ x. x.now) c.loop-component.yielded) component kept)
    ∙ ap (join_filtered 47 is_kept) (sym (map-append (λ x. x.now) c.loop-component.yielded _))

pub returns : goal.returns
returns c =
    let cut = YieldsList-from_str_split 47 c.args.text.now (lit< tt) (search rules) (search rules) (search rules) in
    c.loop-component.invariant
    ∙ ap (join_filtered 47 is_kept) (YieldsList-end cut c.loop-component.yielded _ c.loop-component.yielded_by _ c.next.new.self c.in-None.is c.next.ensures.steps).0
