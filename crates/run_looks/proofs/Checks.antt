-- Checks of one look after the other.
use Rattle.std.proofs.Common.{◌≡◌, ℕ, true, false, List, [], ◌∷◌, cond, Some, refl, sym, ap, ◌∙◌, subst, inl, inr, String, string_bytes, bytes_eq, IfSome, nat_cmp}
use Rattle.std.specs.List.{AllByRecursion, IsDistinct}
use Rattle.std.specs.Cmp.Lexicographic.{slice_cmp}
use Rattle.std.specs.FinMap as map
use Rattle.std.specs.Map.{lookup, keys_of}
use Rattle.std.specs.String.{string_eq, string_eq_equiv}
use Rattle.std.proofs.lemmas.Slice.Eq.{bytes_eq-Decides}
use Rattle.std.proofs.lemmas.Bool.{cases_Bool}
use Rattle.std.proofs.lemmas.Cmp.{nat_list_eq_equiv}
use Rattle.std.proofs.lemmas.Map.{lookup-none}
use Rattle.std.proofs.lemmas.Map.Entries.{lookup_head, lookup_tail, none_past_head}
use Rattle.std.proofs.lemmas.Map.Keys.{IsDistinct-tail}
use Rattle.run_looks.specs.Maps.{by_text}
use Rattle.run_looks.specs.Standing.{FaultSays}
use Rattle.run_looks.specs.declared.disk.CheckFault.{CheckFault}
use Rattle.run_looks.specs.declared.disk.CheckFault.TheVariants.{Changed, Disk, Memory}
use Rattle.run_looks.proofs.Maps.{get_by_text}

-- it holds of each entry
abbrev pub EachEntry : {Y X : Type 0} → (List ℕ → X → Type 0) → List (String Y × X) → Type 0
EachEntry P entries = AllByRecursion (λ entry. P (string_bytes entry.0) entry.1) entries

found_holds : {Y X : Type 0} → (P : List ℕ → X → Type 0) (entries : List (String Y × X)) → EachEntry P entries
    → (q : List ℕ) → IfSome (lookup (λ k. bytes_eq q (string_bytes k)) entries) (P q)
found_holds P [] all q = tt
found_holds P (entry ∷ entries) all q =
    elim (bytes_eq q (string_bytes entry.0)) as (λ b. bytes_eq q (string_bytes entry.0) ≡ b
    → IfSome (cond b (Some entry.1) (lookup (λ k. bytes_eq q (string_bytes k)) entries)) (P q)) [
      | true ↦ λ here. subst (λ (bytes : List ℕ). P bytes entry.1) (sym ((bytes_eq-Decides q
          (string_bytes entry.0)).0 here)) all.0
      | false ↦ λ _. found_holds P entries all.1 q
    ] refl

-- what the look-up of a key finds in the rest, it finds in the whole
holds_later : {Y X : Type 0} → (P : List ℕ → X → Type 0) (entry : String Y × X) (entries : List (String Y × X))
    → IsDistinct string_eq (keys_of (entry ∷ entries))
    → ((q : List ℕ) → IfSome (lookup (λ k. bytes_eq q (string_bytes k)) (entry ∷ entries)) (P q))
    → (q : List ℕ) → IfSome (lookup (λ k. bytes_eq q (string_bytes k)) entries) (P q)
holds_later P entry entries apart holds q =
    elim (cases_Bool (bytes_eq q (string_bytes entry.0))) [
      | inl here ↦
          let none = lookup-none (string_eq entry.0) entries
          (none_past_head string_eq_equiv entry.0 entry entries apart (string_eq_equiv.refl entry.0)) in
          rw ((bytes_eq-Decides q (string_bytes entry.0)).0 here, none) tt
      | inr other ↦
          let test = λ (k : String _). bytes_eq q (string_bytes k) in
          subst (λ found. IfSome found (P q)) (lookup_tail test entry entries other) (holds q)
    ]

pub entries_hold : {Y X : Type 0} → (P : List ℕ → X → Type 0) (entries : List (String Y × X))
    → IsDistinct string_eq (keys_of entries)
    → ((q : List ℕ) → IfSome (lookup (λ k. bytes_eq q (string_bytes k)) entries) (P q)) → EachEntry P entries
entries_hold P [] apart holds = tt
entries_hold P (entry ∷ entries) apart holds =
    let bytes = string_bytes entry.0 in
    let test = λ (k : String _). bytes_eq bytes (string_bytes k) in (
      subst (λ found. IfSome found (P bytes)) (lookup_head test entry entries (nat_list_eq_equiv.refl bytes))
          (holds bytes),
      entries_hold P entries (IsDistinct-tail string_eq entry.0 (keys_of entries) apart)
          (holds_later P entry entries apart holds),
    )

-- what holds of each entry holds of what the map has at each key
pub map_holds : {Y X : Type 0} → (P : List ℕ → X → Type 0) (entries : List (String Y × X)) (m : map.FinMap
    (slice_cmp nat_cmp) X)
    → map.from_entries (by_text entries) ≡ m → EachEntry P entries → (q : List ℕ) → IfSome (map.get m q) (P q)
map_holds P entries m is all q = rw (← is, get_by_text entries q) (found_holds P entries all q)

-- what holds of what the map has at each key holds of each entry
pub each_holds : {Y X : Type 0} → (P : List ℕ → X → Type 0) (entries : List (String Y × X)) (m : map.FinMap
    (slice_cmp nat_cmp) X)
    → map.from_entries (by_text entries) ≡ m → IsDistinct string_eq (keys_of entries)
    → ((q : List ℕ) → IfSome (map.get m q) (P q)) → EachEntry P entries
each_holds P entries m is apart holds =
    entries_hold P entries apart (λ q. subst (λ found. IfSome found (P q)) (ap (λ n. map.get n q) (sym is)
    ∙ get_by_text entries q) (holds q))

-- It holds of each entry exactly if it holds of each that is left.
pub record AreLeft {Y X : Type 0} (P : List ℕ → X → Type 0) (all rest : List (String Y × X)) : Type 0 where
  pub whole : EachEntry P rest → EachEntry P all
  pub part : EachEntry P all → EachEntry P rest

one_differs : {Y X : Type 0} → (P : List ℕ → X → Type 0) (all rest later : List (String Y × X))
    (entry : String Y × X) → rest ≡ entry ∷ later
    → ¬ P (string_bytes entry.0) entry.1 → AreLeft P all rest → ¬ EachEntry P all
one_differs P all rest later entry is not_here left each = not_here (subst (EachEntry P) is (left.part each)).0

pub none_left : {Y X : Type 0} → (P : List ℕ → X → Type 0) (all rest : List (String Y × X)) → rest ≡ []
    → AreLeft P all rest → EachEntry P all
none_left P all rest is left = left.whole (subst (EachEntry P) (sym is) tt)

-- what a fault says of a part, it says of the whole
says_more : {F : Type 0} → (part whole : Type 0) (fault : CheckFault F) → (¬ part → ¬ whole)
    → FaultSays part fault → FaultSays whole fault
says_more part whole (Changed fault) more says = more says
says_more part whole (Disk fault) more says = tt
says_more part whole Memory more says = tt

-- the fault of a check of one entry, which ends the check of all
pub says_whole : {Y X F : Type 0} → (P : List ℕ → X → Type 0) (all rest later : List (String Y × X))
    (path : List ℕ) (entry : String Y × X)
    (m : map.FinMap (slice_cmp nat_cmp) X) (fault : CheckFault F) → map.from_entries (by_text all) ≡ m
    → IsDistinct string_eq (keys_of all)
    → rest ≡ entry ∷ later → path ≡ string_bytes entry.0 → AreLeft P all rest
    → FaultSays (P path entry.1) fault → FaultSays ((q : List ℕ) → IfSome (map.get m q) (P q)) fault
says_whole P all rest later path entry m fault is apart step here left says =
    says_more (P path entry.1) ((q : List ℕ) → IfSome (map.get m q) (P q)) fault
    (λ differs holds. one_differs P all rest later entry step
    (λ same. differs (subst (λ (bytes : List ℕ). P bytes entry.1) (sym here) same)) left
    (each_holds P all m is apart holds))
    says
