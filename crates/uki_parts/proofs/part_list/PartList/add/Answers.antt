use Rattle.std.proofs.Common.{◌≡◌, ℕ, false, ap, subst, sym, ◌∙◌, arith, ◌==◌}
use Rattle.std.specs.List.{insert, position_or_len}
use Rattle.std.proofs.lemmas.Bool.Decides.{nat_tests}
use Rattle.uki_parts.specs.Parts.{with_part, is_after}
use Rattle.uki_parts.proofs.Adding.{InOrder, place_of, with_part-insert, in_order-insert}
use Rattle.uki_parts.proofs.part_list.PartList.add.Goals as goal

-- the list with the part at the place that was found
placed : (c : goal.In_ok-insert) → c.insert.new.self.items ≡ insert c.self.inside.items.items (place_of c.args.part c.self.inside.items.items) c.args.part
placed c =
    c.in_ok-insert.ensures.items
    ∙ ap (λ i. insert c.self.inside.items.items i c.args.part)
    (c.place_for-place.ensures.place ∙ ap (position_or_len (is_after c.args.part.kind)) c.as_slice.ensures.value)

filled_test : (n : ℕ) → (n ≡ 0 → ⊥) → (n == 0) ≡ false
filled_test n h = grind (arith, nat_tests)

pub returns-clause-ok : goal.returns-clause-ok
returns-clause-ok c =
    placed c
    ∙ with_part-insert c.args.part c.self.inside.items.items c.self.invariant.0 (filled_test _ c.if-part-eq0.false)
    ∙ ap (with_part c.args.part) c.self.view_is

pub invariant_of-self : goal.invariant_of-self
invariant_of-self c = subst InOrder (sym c.in_err-insert.ensures.items) c.self.invariant

pub invariant_of-self-2 : goal.invariant_of-self-2
invariant_of-self-2 c =
    subst InOrder (sym (placed c))
    (in_order-insert c.args.part c.self.inside.items.items c.self.invariant (filled_test _ c.if-part-eq0.false))
