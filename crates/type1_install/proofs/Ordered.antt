-- Paths in order, each once, are told by which they are.
use Rattle.std.proofs.Common.{◌≡◌, inl, inr, Bool, true, false, ◌||◌, List, [], ◌∷◌, refl, sym, ap, ◌∙◌, subst, Ordering, Less, Equal, Greater}
use Rattle.std.specs.List.{AllByRecursion, list_any}
use Rattle.std.specs.List.Sorted.{IsStrictlySortedBy}
use Rattle.std.specs.Ordering.{is_eq, ordering_reverse}
use Rattle.std.specs.Cmp.Lexicographic.{nat_list_cmp_total}
use Rattle.std.proofs.lemmas.Map.Keys.{sorted_head, sorted_tail}
use Rattle.boot_base.specs.Paths.{Path}
use Rattle.boot_machine.specs.Prelude.{is_same_path, path_cmp}
use Rattle.boot_machine.specs.proofs.Maps.{cases_same, same_self}

-- it is one of them
abbrev pub is_member : Path → List Path → Bool
is_member path paths = list_any (is_same_path path) paths

less_apart : (r : Ordering) → r ≡ Less → is_eq r ≡ false
less_apart Less is = refl
less_apart Equal is = cc
less_apart Greater is = cc

below_none : (path : Path) (paths : List Path) → AllByRecursion (λ other. path_cmp path other ≡ Less) paths → is_member path paths ≡ false
below_none path [] below = refl
below_none path (other ∷ paths) below = rw (less_apart (path_cmp path other) below.0) (below_none path paths below.1)

member_has : (P : Path → Type 0) (path : Path) (paths : List Path) → AllByRecursion P paths → is_member path paths ≡ true → P path
member_has P path [] all is = cc
member_has P path (other ∷ paths) all is = elim (cases_same path other) [
  | inl one ↦ subst P (sym one) all.0
  | inr two ↦ member_has P path paths all.1 (sym (ap (λ b. b || is_member path paths) two) ∙ is)
]

not_both : (x y : Path) → path_cmp x y ≡ Less → path_cmp y x ≡ Less → ⊥
not_both x y one two = greater (path_cmp y x) (sym one ∙ nat_list_cmp_total.antisymm x y) two
  where
    greater : (r : Ordering) → Less ≡ ordering_reverse r → r ≡ Less → ⊥
    greater Less is two = cc
    greater Equal is two = cc
    greater Greater is two = cc

module _ (x : Path) (xs : List Path) (y : Path) (ys : List Path) (same : (path : Path) → is_member path (x ∷ xs) ≡ is_member path (y ∷ ys)) where
  -- the head is one of the others too
  head_among : is_same_path x y ≡ false → is_member x ys ≡ true
  head_among apart =
      let here : is_member x (x ∷ xs) ≡ true = rw (same_self x) refl in
      sym (ap (λ b. b || is_member x ys) apart) ∙ sym (same x) ∙ here

false_true : false ≡ true → ⊥
false_true is = cc

-- the heads are one
heads : (x : Path) (xs : List Path) (y : Path) (ys : List Path) → IsStrictlySortedBy path_cmp (x ∷ xs) → IsStrictlySortedBy path_cmp (y ∷ ys)
    → ((path : Path) → is_member path (x ∷ xs) ≡ is_member path (y ∷ ys)) → x ≡ y
heads x xs y ys one two same = elim (cases_same x y) [
  | inl is ↦ is
  | inr apart ↦
      let x_later = head_among x xs y ys same apart in
      let flipped : is_same_path y x ≡ false = elim (cases_same y x) [
        | inl is ↦ absurd (false_true (sym apart ∙ ap (is_same_path x) is ∙ same_self x))
        | inr other ↦ other
      ] in
      let y_later = head_among y ys x xs (λ path. sym (same path)) flipped in
      let above : path_cmp y x ≡ Less = member_has (λ p. path_cmp y p ≡ Less) x ys (sorted_head path_cmp y ys two) x_later in
      let below : path_cmp x y ≡ Less = member_has (λ p. path_cmp x p ≡ Less) y xs (sorted_head path_cmp x xs one) y_later in
      absurd (not_both x y below above)
]

-- what is one of the others isn't the head
tails : (x : Path) (xs ys : List Path) → IsStrictlySortedBy path_cmp (x ∷ xs) → IsStrictlySortedBy path_cmp (x ∷ ys)
    → ((path : Path) → is_member path (x ∷ xs) ≡ is_member path (x ∷ ys)) → (path : Path) → is_member path xs ≡ is_member path ys
tails x xs ys one two same path = elim (cases_same path x) [
  | inl is ↦
      ap (λ (p : Path). is_member p xs) is ∙ below_none x xs (sorted_head path_cmp x xs one)
      ∙ sym (ap (λ (p : Path). is_member p ys) is ∙ below_none x ys (sorted_head path_cmp x ys two))
  | inr apart ↦
      sym (ap (λ b. b || is_member path xs) apart) ∙ same path ∙ ap (λ b. b || is_member path ys) apart
]

pub same_paths : (xs ys : List Path) → IsStrictlySortedBy path_cmp xs → IsStrictlySortedBy path_cmp ys
    → ((path : Path) → is_member path xs ≡ is_member path ys) → xs ≡ ys
same_paths [] [] one two same = refl
same_paths [] (y ∷ ys) one two same = absurd (false_true (same y ∙ ap (λ b. b || is_member y ys) (same_self y)))
same_paths (x ∷ xs) [] one two same = absurd (false_true (sym (same x) ∙ ap (λ b. b || is_member x xs) (same_self x)))
same_paths (x ∷ xs) (y ∷ ys) one two same =
    let head = heads x xs y ys one two same in
    let two' : IsStrictlySortedBy path_cmp (x ∷ ys) = subst (λ (p : Path). IsStrictlySortedBy path_cmp (p ∷ ys)) (sym head) two in
    let same' : (path : Path) → is_member path (x ∷ xs) ≡ is_member path (x ∷ ys) =
    λ path. same path ∙ ap (λ (p : Path). is_member path (p ∷ ys)) (sym head) in
    ap (λ (p : Path). p ∷ xs) head
    ∙ ap (λ (l : List Path). y ∷ l) (same_paths xs ys (sorted_tail path_cmp x xs one) (sorted_tail path_cmp y ys two) (tails x xs ys one two' same'))
