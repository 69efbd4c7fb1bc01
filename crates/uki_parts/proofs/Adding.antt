-- A part that is put at its place.
use Rattle.std.proofs.Common.{◌≡◌, ℕ, false, cond, List, ◌∷◌, ◌++◌, filter, drop, sym, ◌∙◌, ap, subst, arith, ◌==◌}
use Rattle.std.specs.List.{All, position_or_len, insert}
use Rattle.std.specs.List.Sorted.{IsNonDecreasingBy}
use Rattle.std.proofs.lemmas.Bool.Decides.{nat_tests}
use Rattle.std.proofs.lemmas.List.Elements.{All-append, All-cons, All-filter}
use Rattle.uki_parts.specs.declared.part.Part.{Part}
use Rattle.uki_parts.specs.Kinds.{append_place}
use Rattle.uki_parts.specs.Parts.{part_place, HasBytes, is_up_to, is_after, with_part}
use Rattle.uki_parts.proofs.Ordered.{within-take, past-drop, ordered-insert}

abbrev pub InOrder : List Part → Type 0
InOrder parts = IsNonDecreasingBy part_place parts × All HasBytes parts

-- where the parts that stay behind begin
abbrev pub place_of : Part → List Part → ℕ
place_of part parts = position_or_len (is_after part.kind) parts

pub with_part-insert : (part : Part) (parts : List Part) → IsNonDecreasingBy part_place parts → (part.length == 0) ≡ false →
    insert parts (place_of part parts) part ≡ with_part part parts
with_part-insert part parts ordered filled =
    ap (λ front. front ++ part ∷ drop (place_of part parts) parts) (sym (within-take part_place (append_place part.kind) parts ordered))
    ∙ ap (λ back. filter (is_up_to part.kind) parts ++ part ∷ back) (sym (past-drop part_place (append_place part.kind) parts ordered))
    ∙ sym (ap (λ b. cond b parts (filter (is_up_to part.kind) parts ++ part ∷ filter (is_after part.kind) parts)) filled)

filled-with_part : (part : Part) (parts : List Part) → HasBytes part → All HasBytes parts →
    All HasBytes (filter (is_up_to part.kind) parts ++ part ∷ filter (is_after part.kind) parts)
filled-with_part part parts filled all =
    All-append HasBytes _ _ (All-filter (is_up_to part.kind) HasBytes parts all)
    (All-cons HasBytes part _ filled (All-filter (is_after part.kind) HasBytes parts all))

pub in_order-insert : (part : Part) (parts : List Part) → InOrder parts → (part.length == 0) ≡ false →
    InOrder (insert parts (place_of part parts) part)
in_order-insert part parts order filled =
    let has : HasBytes part = grind (arith, nat_tests) in (
      ordered-insert part_place parts part order.0,
      subst (All HasBytes)
          (ap (λ b. cond b parts (filter (is_up_to part.kind) parts ++ part ∷ filter (is_after part.kind) parts)) (sym filled)
          ∙ sym (with_part-insert part parts order.0 filled))
          (filled-with_part part parts has order.1),
    )
