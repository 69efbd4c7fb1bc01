-- Parts that are added in their order.
use Rattle.std.proofs.Common.{◌≡◌, ℕ, ◌+◌, ◌≤◌, ◌^◌, Bool, true, false, cond, not, List, [], ◌∷◌, ◌++◌, filter, length, get_or, refl, sym, ap, subst, ◌∙◌, arith, append-nil, length-append, ◌==◌, All, count_by, sum_by}
use Rattle.std.specs.List.Sorted.{IsNonDecreasingBy}
use Rattle.std.proofs.Math.Seq.{get_or-append_seam}
use Rattle.std.proofs.lemmas.Bool.Decides.{nat_tests}
use Rattle.std.proofs.lemmas.Grind.{common_steps}
use Rattle.std.proofs.lemmas.List.{get_or_append_left}
use Rattle.std.proofs.lemmas.List.Elements.{All-filter, All-head, All-push, All-tail, All-weaker, filter-append}
use Rattle.std.proofs.lemmas.List.Filters.{sum_by-filter_both}
use Rattle.std.proofs.lemmas.List.Sums.{count_by-le-length, length-filter, sum_by-append, sum_by-cons}
use Rattle.uki_parts.specs.Kinds.{append_place}
use Rattle.uki_parts.specs.declared.kind.PartKind.TheVariants as kinds
use Rattle.uki_parts.specs.declared.part.Part.{Part}
use Rattle.uki_parts.specs.Parts.{part_place, is_up_to, is_after, with_part}
use Rattle.image_build.specs.Imaged.{AreOrdered, IsCountable, IsSbatPart, is_filled}

-- these parts stand before that one
abbrev pub AreBefore : Part → List Part → Type 0
AreBefore part parts = All (λ other. part_place other ≤ part_place part) parts

all_up_to : (part : Part) (parts : List Part) → AreBefore part parts → filter (is_up_to part.kind) parts ≡ parts
all_up_to part [] before = refl
all_up_to part (first ∷ parts) before =
    let here : part_place first ≤ part_place part = All-head (λ other. part_place other ≤ part_place part) first parts before in
    let rest = All-tail (λ other. part_place other ≤ part_place part) first parts before in
    grind (arith, common_steps, nat_tests, all_up_to part parts rest)

none_after : (part : Part) (parts : List Part) → AreBefore part parts → filter (is_after part.kind) parts ≡ []
none_after part [] before = refl
none_after part (first ∷ parts) before =
    let here : part_place first ≤ part_place part = All-head (λ other. part_place other ≤ part_place part) first parts before in
    let rest = All-tail (λ other. part_place other ≤ part_place part) first parts before in
    grind (arith, common_steps, nat_tests, none_after part parts rest)

-- a part that is added to those before it stands behind them
pub with_part-last : (part : Part) (parts : List Part) → AreBefore part parts → with_part part (filter is_filled parts) ≡ filter is_filled (parts ++ part ∷ [])
with_part-last part parts before =
    let kept = filter is_filled parts in
    let all = All-filter is_filled (λ other. part_place other ≤ part_place part) parts before in
    elim (part.length == 0) as (λ b. cond b kept (filter (is_up_to part.kind) kept ++ part ∷ filter (is_after part.kind) kept) ≡ kept ++ cond (not b) (part ∷ []) []) [
      | true ↦ sym (append-nil kept)
      | false ↦ ap (λ l. l ++ part ∷ filter (is_after part.kind) kept) (all_up_to part kept all) ∙ ap (λ l. kept ++ part ∷ l) (none_after part kept all)
    ]
    ∙ sym (filter-append is_filled parts (part ∷ []))

-- in a list in order the parts before one stand before it
pub earlier : (seen : List Part) (part : Part) (rest : List Part) → IsNonDecreasingBy part_place (seen ++ part ∷ rest) → AreBefore part seen
earlier seen part rest ordered k d inside =
    let all = seen ++ part ∷ rest in
    let h = ordered k (length seen) d (omega (arith, inside)) (omega (arith, length-append seen (part ∷ rest))) in
    subst (λ (p : Part). part_place p ≤ part_place part) (get_or_append_left seen (part ∷ rest) d k inside)
    (subst (λ (p : Part). part_place (get_or all k d) ≤ part_place p) (get_or-append_seam seen part rest d) h)

pub added : (seen : List Part) (part : Part) (rest all list more : List Part) → all ≡ seen ++ part ∷ rest → IsNonDecreasingBy part_place all
    → list ≡ filter is_filled seen → more ≡ with_part part list → more ≡ filter is_filled (seen ++ part ∷ [])
added seen part rest all list more left ordered before is =
    is ∙ ap (with_part part) before ∙ with_part-last part seen (earlier seen part rest (subst (IsNonDecreasingBy part_place) left ordered))

-- the user's own sections, the SBAT text and the kernel come last, in this order
extra_first : append_place kinds.Extra ≤ append_place kinds.Sbat
unfolding append_place
extra_first = omega arith

sbat_first : append_place kinds.Sbat ≤ append_place kinds.Linux
unfolding append_place
sbat_first = omega arith

-- the kernel stands behind the parts
pub linux_added : (parts list more : List Part) (linux : Part) → AreOrdered parts linux → list ≡ filter is_filled parts → more ≡ with_part linux list
    → more ≡ filter is_filled (parts ++ linux ∷ [])
linux_added parts list more linux are before is =
    let last : part_place linux ≡ append_place kinds.Linux = ap append_place are.kind in
    let all =
    All-weaker (λ part. part_place part ≤ append_place kinds.Extra) (λ part. part_place part ≤ part_place linux)
    (λ part early. omega (arith, early, last, extra_first, sbat_first)) parts are.early in
    is ∙ ap (with_part linux) before ∙ with_part-last linux parts all

-- and an SBAT text between them
pub text_added : (parts list more most : List Part) (linux part : Part) (text : List ℕ) → AreOrdered parts linux → IsSbatPart part text → list ≡ filter is_filled parts
    → more ≡ with_part part list → most ≡ with_part linux more → most ≡ filter is_filled ((parts ++ part ∷ []) ++ linux ∷ [])
text_added parts list more most linux part text are holds before one two =
    let last : part_place linux ≡ append_place kinds.Linux = ap append_place are.kind in
    let next : part_place part ≡ append_place kinds.Sbat = ap append_place holds.kind in
    let first =
    All-weaker (λ other. part_place other ≤ append_place kinds.Extra) (λ other. part_place other ≤ part_place part)
    (λ other early. omega (arith, early, next, extra_first)) parts are.early in
    let all =
    All-weaker (λ other. part_place other ≤ append_place kinds.Extra) (λ other. part_place other ≤ part_place linux)
    (λ other early. omega (arith, early, last, extra_first, sbat_first)) parts are.early in
    let both = All-push (λ other. part_place other ≤ part_place linux) parts part all (omega (arith, next, last, sbat_first)) in
    let seen : more ≡ filter is_filled (parts ++ part ∷ []) = one ∙ ap (with_part part) before ∙ with_part-last part parts first in
    two ∙ ap (with_part linux) seen ∙ with_part-last linux (parts ++ part ∷ []) both

-- how many parts there are, and how many bytes they have
pub record FitsCounts (list : List Part) : Type 0 where
  pub few : length list ≤ 16777216
  pub total : sum_by (λ part. part.length) list ≤ 2 ^ 62

abbrev is_empty : Part → Bool
is_empty part = part.length == 0

counted : (all list : List Part) → list ≡ filter is_filled all → count_by is_filled all ≤ 16777216 → sum_by (λ part. part.length) all ≤ 2 ^ 62 → FitsCounts list
counted all list is few total =
    let count = length-filter is_filled all in
    let sum = sum_by-filter_both is_empty is_filled (λ part. refl) (λ part. part.length) all in
    subst FitsCounts (sym is) (record { few = omega (arith, count); total = omega (arith, sum) })

one_more : (parts : List Part) (part : Part) → count_by is_filled (parts ++ part ∷ []) ≤ count_by is_filled parts + 1
one_more parts part =
    let whole = length-filter is_filled (parts ++ part ∷ []) in
    let front = length-filter is_filled parts in
    let last = length-filter is_filled (part ∷ []) in
    let both = ap length (filter-append is_filled parts (part ∷ [])) in
    omega (arith, whole, front, last, both, length-append (filter is_filled parts) (filter is_filled (part ∷ [])), count_by-le-length is_filled (part ∷ []))

pub linux_counted : (parts list more : List Part) (linux : Part) (sbat : List ℕ) → AreOrdered parts linux → IsCountable parts sbat
    → list ≡ filter is_filled parts → more ≡ with_part linux list → FitsCounts more
linux_counted parts list more linux sbat are few before is =
    let small = are.small in
    let filled = few.few in
    let total = few.total in
    counted (parts ++ linux ∷ []) more (linux_added parts list more linux are before is)
    (omega (arith, one_more parts linux))
    (omega (arith, sum_by-append (λ (part : Part). part.length) parts (linux ∷ []), sum_by-cons (λ (part : Part). part.length) linux []))

pub text_counted : (parts list more most : List Part) (linux part : Part) (text : List ℕ) → AreOrdered parts linux → IsSbatPart part text → IsCountable parts text → list ≡ filter is_filled parts
    → more ≡ with_part part list → most ≡ with_part linux more → FitsCounts most
text_counted parts list more most linux part text are holds few before one two =
    let filled = few.few in
    let total = few.total in
    let short = few.text in
    let small = are.small in
    let long = holds.length_is in
    let sum = λ (part : Part). part.length in
    counted ((parts ++ part ∷ []) ++ linux ∷ []) most (text_added parts list more most linux part text are holds before one two)
    (omega (arith, one_more (parts ++ part ∷ []) linux, one_more parts part))
    (omega (arith, sum_by-append sum (parts ++ part ∷ []) (linux ∷ []), sum_by-append sum parts (part ∷ []), sum_by-cons sum linux [], sum_by-cons sum part []))
