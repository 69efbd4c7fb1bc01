-- The parts of one kind, as a part is added.
use Rattle.std.proofs.Common.{◌≡◌, ◌<◌, inl, inr, Bool, true, false, cond, List, [], ◌∷◌, ◌++◌, filter, refl, sym, ◌∙◌, ap, arith, append-nil, ◌==◌}
use Rattle.std.proofs.lemmas.Bool.Decides.{nat_tests}
use Rattle.std.proofs.lemmas.Grind.{common_steps}
use Rattle.std.proofs.lemmas.List.Elements.{filter-append}
use Rattle.uki_parts.specs.declared.kind.PartKind.{PartKind}
use Rattle.uki_parts.specs.declared.part.Part.{Part}
use Rattle.uki_parts.specs.Kinds.{append_place}
use Rattle.std.proofs.Math.Nat.{eq-or-lt_of_le}
use Rattle.uki_parts.proofs.Cases.{lt_or_le}
use Rattle.uki_parts.specs.Parts.{part_place, is_up_to, is_after, with_part, parts_of_kind}

-- where all that pass the one test pass the other, and where none does
filter-kept : {X : Type 0} (p q : X → Bool) → ((x : X) → p x ≡ true → q x ≡ true) → (xs : List X) → filter p (filter q xs) ≡ filter p xs
filter-kept p q both [] = refl
filter-kept p q both (x ∷ xs) = let here = both x in grind (arith, common_steps, filter-kept p q both xs)

filter-dropped : {X : Type 0} (p q : X → Bool) → ((x : X) → p x ≡ true → q x ≡ false) → (xs : List X) → filter p (filter q xs) ≡ []
filter-dropped p q never [] = refl
filter-dropped p q never (x ∷ xs) = let here = never x in grind (arith, common_steps, filter-dropped p q never xs)

-- the test of the parts of a kind
abbrev is_of : PartKind → Part → Bool
is_of kind part = part_place part == append_place kind

of_kind : (kind : PartKind) (part : Part) → is_of kind part ≡ true → part_place part ≡ append_place kind
of_kind kind part h = grind (arith, nat_tests)

-- the parts of a kind in a list with a part put in, by the kind's place
kept_before : (kind : PartKind) (part : Part) (parts : List Part) → append_place kind < part_place part →
    parts_of_kind kind (filter (is_up_to part.kind) parts ++ part ∷ filter (is_after part.kind) parts) ≡ parts_of_kind kind parts ++ parts_of_kind kind (part ∷ [])
kept_before kind part parts before =
    let up = filter-kept (is_of kind) (is_up_to part.kind) (λ x h. let at = of_kind kind x h in grind (arith, nat_tests)) parts in
    let after = filter-dropped (is_of kind) (is_after part.kind) (λ x h. let at = of_kind kind x h in grind (arith, nat_tests)) parts in
    let other : is_of kind part ≡ false = grind (arith, nat_tests) in
    filter-append (is_of kind) (filter (is_up_to part.kind) parts) (part ∷ filter (is_after part.kind) parts)
    ∙ ap (λ l. l ++ filter (is_of kind) (part ∷ filter (is_after part.kind) parts)) up
    ∙ ap (λ b. filter (is_of kind) parts ++ cond b (part ∷ filter (is_of kind) (filter (is_after part.kind) parts)) (filter (is_of kind) (filter (is_after part.kind) parts))) other
    ∙ ap (λ l. filter (is_of kind) parts ++ l) after
    ∙ ap (λ b. filter (is_of kind) parts ++ cond b (part ∷ []) []) (sym other)

kept_at : (kind : PartKind) (part : Part) (parts : List Part) → append_place kind ≡ part_place part →
    parts_of_kind kind (filter (is_up_to part.kind) parts ++ part ∷ filter (is_after part.kind) parts) ≡ parts_of_kind kind parts ++ parts_of_kind kind (part ∷ [])
kept_at kind part parts same =
    let up = filter-kept (is_of kind) (is_up_to part.kind) (λ x h. let at = of_kind kind x h in grind (arith, nat_tests)) parts in
    let after = filter-dropped (is_of kind) (is_after part.kind) (λ x h. let at = of_kind kind x h in grind (arith, nat_tests)) parts in
    filter-append (is_of kind) (filter (is_up_to part.kind) parts) (part ∷ filter (is_after part.kind) parts)
    ∙ ap (λ l. l ++ filter (is_of kind) (part ∷ filter (is_after part.kind) parts)) up
    ∙ ap (λ l. filter (is_of kind) parts ++ cond (is_of kind part) (part ∷ l) l) after

kept_after : (kind : PartKind) (part : Part) (parts : List Part) → part_place part < append_place kind →
    parts_of_kind kind (filter (is_up_to part.kind) parts ++ part ∷ filter (is_after part.kind) parts) ≡ parts_of_kind kind parts ++ parts_of_kind kind (part ∷ [])
kept_after kind part parts behind =
    let up = filter-dropped (is_of kind) (is_up_to part.kind) (λ x h. let at = of_kind kind x h in grind (arith, nat_tests)) parts in
    let after = filter-kept (is_of kind) (is_after part.kind) (λ x h. let at = of_kind kind x h in grind (arith, nat_tests)) parts in
    let other : is_of kind part ≡ false = grind (arith, nat_tests) in
    filter-append (is_of kind) (filter (is_up_to part.kind) parts) (part ∷ filter (is_after part.kind) parts)
    ∙ ap (λ l. l ++ filter (is_of kind) (part ∷ filter (is_after part.kind) parts)) up
    ∙ ap (λ b. cond b (part ∷ filter (is_of kind) (filter (is_after part.kind) parts)) (filter (is_of kind) (filter (is_after part.kind) parts))) other
    ∙ after
    ∙ sym (append-nil (filter (is_of kind) parts))
    ∙ ap (λ b. filter (is_of kind) parts ++ cond b (part ∷ []) []) (sym other)

kept : (kind : PartKind) (part : Part) (parts : List Part) →
    parts_of_kind kind (filter (is_up_to part.kind) parts ++ part ∷ filter (is_after part.kind) parts) ≡ parts_of_kind kind parts ++ parts_of_kind kind (part ∷ [])
kept kind part parts =
    elim (lt_or_le (append_place kind) (part_place part)) [
      | inl before ↦ kept_before kind part parts before
      | inr le ↦ elim (eq-or-lt_of_le le) [
        | inl same ↦ kept_at kind part parts (sym same)
        | inr behind ↦ kept_after kind part parts behind
      ]
    ]

pub parts_of_kind-with_part : (kind : PartKind) (part : Part) (parts : List Part) →
    parts_of_kind kind (with_part part parts) ≡ parts_of_kind kind parts ++ parts_of_kind kind (with_part part [])
parts_of_kind-with_part kind part parts =
    elim (part.length == 0) as (λ b. parts_of_kind kind (cond b parts (filter (is_up_to part.kind) parts ++ part ∷ filter (is_after part.kind) parts)) ≡ parts_of_kind kind parts ++ parts_of_kind kind (cond b [] (part ∷ []))) [
      | true ↦ sym (append-nil (parts_of_kind kind parts))
      | false ↦ kept kind part parts
    ]
