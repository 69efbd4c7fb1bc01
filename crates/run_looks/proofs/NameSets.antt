-- Hash sets of texts as sets of their bytes.
use Rattle.std.proofs.Common.{◌≡◌, ℕ, Bool, true, false, cond, not, List, [], ◌∷◌, ◌++◌, refl, sym, ap, ◌∙◌, inl, inr, ◌↔◌, ◌&&◌, ◌||◌, String, string_bytes, bytes_eq, map}
use Rattle.std.specs.Ordering.{nat_cmp, eq_by_cmp}
use Rattle.std.specs.Cmp.Lexicographic.{slice_cmp, nat_list_cmp_total}
use Rattle.std.specs.FinSet as set
use Rattle.std.specs.FinMap.{slice_cmp-IsAntisymmetric, nat_cmp-IsAntisymmetric}
use Rattle.std.specs.HashSet as hash
use Rattle.std.specs.HashSet.{HashSet}
use Rattle.std.specs.List.{list_any, list_all}
use Rattle.std.specs.String.{string_eq, string_eq_equiv}
use Rattle.std.proofs.lemmas.Bool.{and_parts, or_cases, cases_Bool}
use Rattle.std.proofs.lemmas.Cmp.{nat_list_eq_equiv}
use Rattle.std.proofs.lemmas.List.Folds.{list_any-append}
use Rattle.std.proofs.lemmas.Map.Lookups.{hash_set_eq_decides}
use Rattle.std.proofs.lemmas.Slice.Eq.{bytes_eq-Decides}
use Rattle.boot_base.specs.Paths.{is_temp}
use Rattle.run_looks.specs.Names.{NameSet, lasting, names_of_list}
use Rattle.run_looks.proofs.Maps.{same_bytes}

-- a list has the name
abbrev pub has_name : {Y : Type 0} → List (String Y) → List ℕ → Bool
has_name names q = list_any (λ k. bytes_eq q (string_bytes k)) names

any_bytes : {Y : Type 0} → (names : List (String Y)) (q : List ℕ)
    → list_any (eq_by_cmp (slice_cmp nat_cmp) q) (map string_bytes names) ≡ has_name names q
any_bytes [] q = refl
any_bytes (name ∷ names) q = λ i. same_bytes q (string_bytes name) i || any_bytes names q i

pub contains_name : {Y : Type 0} → (names : List (String Y)) (q : List ℕ)
    → set.contains (names_of_list names) q ≡ has_name names q
contains_name names q = set.contains-from_list nat_list_cmp_total (map string_bytes names) q ∙ any_bytes names q

pub same_sets : (s t : NameSet) → ((q : List ℕ) → set.contains s q ≡ set.contains t q) → s ≡ t
same_sets s t same = set.same_set nat_list_cmp_total (slice_cmp-IsAntisymmetric nat_cmp-IsAntisymmetric) s t same

-- ---- two hash sets that are equal

-- each of the names is among the others
all_among : {Y : Type 0} → (names others : List (String Y)) → list_all (λ name. list_any
    (string_eq name) others) names ≡ true
    → (q : List ℕ) → has_name names q ≡ true → has_name others q ≡ true
all_among [] others all q there = absurd (cc)
all_among (name ∷ names) others all q there =
    let parts = and_parts (list_any (string_eq name) others) _ all in
    elim (or_cases (bytes_eq q (string_bytes name)) (has_name names q) there) [
      | inl here ↦ ap (has_name others) ((bytes_eq-Decides q (string_bytes name)).0 here) ∙ parts.0
      | inr later ↦ all_among names others parts.1 q later
    ]

same_truth : (a b : Bool) → (a ≡ true → b ≡ true) → (b ≡ true → a ≡ true) → a ≡ b
same_truth true b there back = sym (there refl)
same_truth false true there back = back refl
same_truth false false there back = refl

pub sets_equal : {Y S : Type 0} → (s t : HashSet (String Y) S) (b : Bool) → b ≡ hash.hash_set_eq string_eq s t
    → (b ≡ true) ↔ (names_of_list s.keys ≡ names_of_list t.keys)
sets_equal s t b is = (
  λ equal.
      let parts = and_parts _ _ (sym is ∙ equal) in
      same_sets (names_of_list s.keys) (names_of_list t.keys)
      (λ q. contains_name s.keys q
      ∙ same_truth (has_name s.keys q) (has_name t.keys q) (all_among s.keys t.keys parts.0 q)
      (all_among t.keys s.keys parts.1 q)
      ∙ sym (contains_name t.keys q)),
  λ same. is ∙ (hash_set_eq_decides string_eq_equiv s t).1
      (λ name. sym (contains_name s.keys (string_bytes name))
      ∙ ap (λ (n : NameSet). set.contains n (string_bytes name)) same
      ∙ contains_name t.keys (string_bytes name)),
)

-- ---- the names that aren't those of temporary files

-- a list has the name, and it isn't that of a temporary file
abbrev pub has_lasting : {Y : Type 0} → List (String Y) → List ℕ → Bool
has_lasting names q = list_any (λ k. bytes_eq q (string_bytes k) && not (is_temp (string_bytes k))) names

absorbs : (lasts rest : Bool) → lasts ≡ (lasts || (rest && lasts))
absorbs true rest = refl
absorbs false true = refl
absorbs false false = refl

lasts_here : (q name : List ℕ) (rest : Bool) → ((bytes_eq q name || rest) && not (is_temp q)) ≡
    ((bytes_eq q name && not (is_temp name)) || (rest && not (is_temp q)))
lasts_here q name rest =
    elim (cases_Bool (bytes_eq q name)) [
      | inl here ↦ rw (here, (bytes_eq-Decides q name).0 here) (absorbs (not (is_temp name)) rest)
      | inr apart ↦ rw apart refl
    ]

pub lasts : {Y : Type 0} → (names : List (String Y)) (q : List ℕ)
    → (has_name names q && not (is_temp q)) ≡ has_lasting names q
lasts [] q = refl
lasts (name ∷ names) q =
    lasts_here q (string_bytes name) (has_name names q)
    ∙ ap (λ b. (bytes_eq q (string_bytes name) && not (is_temp (string_bytes name))) || b) (lasts names q)

pub contains_lasting : {Y : Type 0} → (names : List (String Y)) (q : List ℕ)
    → set.contains (lasting (names_of_list names)) q ≡ has_lasting names q
contains_lasting names q =
    set.contains-retain (names_of_list names) (λ name. not (is_temp name)) q
    (λ x tied. ap (λ (name : List ℕ). not (is_temp name)) (sym
    (slice_cmp-IsAntisymmetric nat_cmp-IsAntisymmetric q x tied)))
    ∙ ap (λ b. b && not (is_temp q)) (contains_name names q) ∙ lasts names q

both : (same before : Bool) → cond same true before ≡ (before || ((same && true) || false))
both true true = refl
both true false = refl
both false true = refl
both false false = refl

joined : (here same before temporary : Bool) → here ≡ same → temporary ≡ false
    → cond here true before ≡ (before || ((same && not temporary) || false))
joined here same before temporary is lasts = rw (is, lasts) (both same before)

-- a name that isn't that of a temporary file is added
pub adds_lasting : {Y : Type 0} → (names kept new : List (String Y)) (name : String Y) (q : List ℕ)
    → is_temp (string_bytes name) ≡ false
    → has_name new q ≡ cond (bytes_eq (string_bytes name) q) true (has_name kept q)
    → has_name kept q ≡ has_lasting names q
    → has_name new q ≡ has_lasting (names ++ name ∷ []) q
adds_lasting names kept new name q lasts added before =
    added ∙ ap (cond (bytes_eq (string_bytes name) q) true) before
    ∙ joined (bytes_eq (string_bytes name) q) (bytes_eq q (string_bytes name)) (has_lasting names q) (is_temp
    (string_bytes name))
    (nat_list_eq_equiv.symm (string_bytes name) q) lasts
    ∙ sym (list_any-append (λ k. bytes_eq q (string_bytes k) && not (is_temp (string_bytes k))) names (name ∷ []))
