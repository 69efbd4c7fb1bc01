-- What is equal in the order of entries, and what decides it.
use Rattle.std.proofs.Common.{◌≡◌, ◌≢◌, ℕ, List, [], ◌∷◌, ◌++◌, Option, Some, None, is_some, refl, sym, ap, ◌∙◌, All, Ordering, Less, Equal, Greater}
use Rattle.std.specs.FinMap.{IsAntisymmetric, nat_cmp-IsAntisymmetric, slice_cmp-IsAntisymmetric}
use Rattle.std.specs.Option.{option_cmp}
use Rattle.std.specs.Ordering.{nat_cmp, bool_cmp, ordering_then}
use Rattle.std.proofs.lemmas.Cmp.{tied_itself}
use Rattle.std.proofs.lemmas.List.Elements.{All-head, All-tail}
use Rattle.menu_order.specs.VersionOrder.{tokens_cmp}
use Rattle.menu_order.specs.VersionTokens.{Token}
use Rattle.menu_order.proofs.VersionTies.{tokens_cmp-Equal}
use Rattle.menu_order.specs.declared.item.Counter.{Counter}
use Rattle.menu_order.specs.Parts.{MenuParts, parts_of, left_of, done_of}
use Rattle.menu_order.specs.Rules.{Rule, menu_rules, by_rules, parts_cmp, bytes_cmp, bad_last, sort_key_first, sort_key_up, machine_id_up, version_down, base_down, uncounted_first, left_down, done_up, path_up}
use Rattle.menu_order.specs.MenuLaws.{EqualParts, FirstRule}
use Rattle.menu_order.specs.proofs.Orders.{parts_cmp_total}

-- each of the rules finds the two equal
abbrev AllTie : List Rule → MenuParts → MenuParts → Type 0
AllTie [] p q = Unit {0}
AllTie (rule ∷ later) p q = (rule p q ≡ Equal) × (AllTie later p q)

both_equal : (o r : Ordering) → ordering_then o r ≡ Equal → (o ≡ Equal) × (r ≡ Equal)
both_equal Equal r e = (refl, e)
both_equal Less r e = cc
both_equal Greater r e = cc

by_rules-Equal : (some : List Rule) (p q : MenuParts) → by_rules some p q ≡ Equal → AllTie some p q
by_rules-Equal [] p q e = tt
by_rules-Equal (rule ∷ later) p q e =
    let both = both_equal (rule p q) (by_rules later p q) e in
    (both.0, by_rules-Equal later p q both.1)

option_cmp-Equal : {A : Type 0} (R : A → A → Ordering) → IsAntisymmetric R → (a b : Option A) → option_cmp R a b ≡ Equal → a ≡ b
option_cmp-Equal R same None None e = refl
option_cmp-Equal R same None (Some y) e = cc
option_cmp-Equal R same (Some x) None e = cc
option_cmp-Equal R same (Some x) (Some y) e = ap Some (same x y e)

bytes_cmp-Equal : IsAntisymmetric bytes_cmp
bytes_cmp-Equal = slice_cmp-IsAntisymmetric nat_cmp-IsAntisymmetric

tokens-Equal : IsAntisymmetric tokens_cmp
tokens-Equal a b e = (tokens_cmp-Equal a b).0 e

-- a counter from its two numbers
abbrev counter_from : ℕ → ℕ → Counter
counter_from left done = record { left = left; done = done }

counter_same : (c d : Counter) → nat_cmp d.left c.left ≡ Equal → nat_cmp c.done d.done ≡ Equal → c ≡ d
counter_same c d left done =
    ap (λ n. counter_from n c.done) (sym (nat_cmp-IsAntisymmetric d.left c.left left))
    ∙ ap (λ n. counter_from d.left n) (nat_cmp-IsAntisymmetric c.done d.done done)

-- compared parts with another counter
abbrev of_counter : Option Counter → MenuParts
of_counter counter = record { sort_key = None; machine_id = None; version = None; base = []; counter = counter; path = [] }

counters_same : (a b : Option Counter)
    → bool_cmp (is_some a) (is_some b) ≡ Equal
    → nat_cmp (left_of (of_counter b)) (left_of (of_counter a)) ≡ Equal
    → nat_cmp (done_of (of_counter a)) (done_of (of_counter b)) ≡ Equal
    → a ≡ b
counters_same None None there left done = refl
counters_same None (Some d) there left done = cc
counters_same (Some c) None there left done = cc
counters_same (Some c) (Some d) there left done = ap Some (counter_same c d left done)

-- compared parts from the parts one by one
abbrev parts_from : Option (List ℕ) → Option (List ℕ) → Option (List Token) → List Token → Option Counter → List ℕ → MenuParts
parts_from sort_key machine_id version base counter path = record {
  sort_key = sort_key;
  machine_id = machine_id;
  version = version;
  base = base;
  counter = counter;
  path = path;
}

parts_same : (p q : MenuParts) → AllTie menu_rules p q → p ≡ q
parts_same p q ties =
    let from_3 = ties.1.1 in
    let from_6 = from_3.1.1.1 in
    let sort_key = option_cmp-Equal bytes_cmp bytes_cmp-Equal p.sort_key q.sort_key from_3.0 in
    let machine_id = option_cmp-Equal bytes_cmp bytes_cmp-Equal p.machine_id q.machine_id from_3.1.0 in
    let version = option_cmp-Equal tokens_cmp tokens-Equal q.version p.version from_3.1.1.0 in
    let base = tokens-Equal q.base p.base from_6.0 in
    let counter = counters_same p.counter q.counter from_6.1.0 from_6.1.1.0 from_6.1.1.1.0 in
    let path = bytes_cmp-Equal p.path q.path from_6.1.1.1.1.0 in
    ap (λ s. parts_from s p.machine_id p.version p.base p.counter p.path) sort_key
    ∙ ap (λ m. parts_from q.sort_key m p.version p.base p.counter p.path) machine_id
    ∙ ap (λ v. parts_from q.sort_key q.machine_id v p.base p.counter p.path) (sym version)
    ∙ ap (λ b. parts_from q.sort_key q.machine_id q.version b p.counter p.path) (sym base)
    ∙ ap (λ c. parts_from q.sort_key q.machine_id q.version q.base c p.path) counter
    ∙ ap (λ t. parts_from q.sort_key q.machine_id q.version q.base q.counter t) path

-- parts are equal in the order where none differs
pub parts_cmp-Equal : (p q : MenuParts) → parts_cmp p q ≡ Equal → p ≡ q
unfolding parts_cmp
parts_cmp-Equal p q e = parts_same p q (by_rules-Equal menu_rules p q e)

pub equal_parts : EqualParts
equal_parts a b = (
  (λ e. parts_cmp-Equal (parts_of a) (parts_of b) e),
  λ same. ap (λ p. parts_cmp p (parts_of b)) same ∙ tied_itself parts_cmp_total (parts_of b),
)

-- a comparison that isn't equal decides
then-decided : (o p : Ordering) → o ≢ Equal → ordering_then o p ≡ o
then-decided Less p h = refl
then-decided Greater p h = refl
then-decided Equal p h = absurd (h refl)

by_rules-first : (before : List Rule) (rule : Rule) (later : List Rule) (p q : MenuParts)
    → All (λ other. other p q ≡ Equal) before
    → rule p q ≢ Equal
    → by_rules (before ++ rule ∷ later) p q ≡ rule p q
by_rules-first [] rule later p q ties h = then-decided (rule p q) (by_rules later p q) h
by_rules-first (other ∷ before) rule later p q ties h =
    ap (λ o. ordering_then o (by_rules (before ++ rule ∷ later) p q)) (All-head (λ (r : Rule). r p q ≡ Equal) other before ties)
    ∙ by_rules-first before rule later p q (All-tail (λ (r : Rule). r p q ≡ Equal) other before ties) h

pub first_rule : FirstRule
unfolding parts_cmp
first_rule a b before rule later are ties h =
    ap (λ some. by_rules some (parts_of a) (parts_of b)) are
    ∙ by_rules-first before rule later (parts_of a) (parts_of b) ties h

then_assoc : (o p q : Ordering) → ordering_then (ordering_then o p) q ≡ ordering_then o (ordering_then p q)
then_assoc Less p q = refl
then_assoc Equal p q = refl
then_assoc Greater p q = refl

then_end : (o : Ordering) → ordering_then o Equal ≡ o
then_end Less = refl
then_end Equal = refl
then_end Greater = refl

-- ten comparisons one after another, the first that isn't equal deciding, are so however they are grouped
then_all : (a b c d e f g h i j : Ordering)
    → ordering_then (ordering_then (ordering_then (ordering_then (ordering_then (ordering_then (ordering_then (ordering_then (ordering_then a b) c) d) e) f) g) h) i) j
    ≡ ordering_then a (ordering_then b (ordering_then c (ordering_then d (ordering_then e (ordering_then f (ordering_then g (ordering_then h (ordering_then i (ordering_then j Equal)))))))))
then_all a b c d e f g h i j = simp (then_assoc, then_end)

-- ten comparisons by the rules, one after another, are the order of compared parts
pub by_menu_rules : (p q : MenuParts) (a b c d e f g h i j : Ordering)
    → a ≡ bad_last p q
    → b ≡ sort_key_first p q
    → c ≡ sort_key_up p q
    → d ≡ machine_id_up p q
    → e ≡ version_down p q
    → f ≡ base_down p q
    → g ≡ uncounted_first p q
    → h ≡ left_down p q
    → i ≡ done_up p q
    → j ≡ path_up p q
    → ordering_then (ordering_then (ordering_then (ordering_then (ordering_then (ordering_then (ordering_then (ordering_then (ordering_then a b) c) d) e) f) g) h) i) j ≡ parts_cmp p q
unfolding parts_cmp
by_menu_rules p q a b c d e f g h i j is_a is_b is_c is_d is_e is_f is_g is_h is_i is_j =
    rw (is_a, is_b, is_c, is_d, is_e, is_f, is_g, is_h, is_i, is_j)
    (then_all (bad_last p q) (sort_key_first p q) (sort_key_up p q) (machine_id_up p q) (version_down p q) (base_down p q) (uncounted_first p q)
    (left_down p q) (done_up p q) (path_up p q))
