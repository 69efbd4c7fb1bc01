-- Parts in an order of distinct names.
use Rattle.std.proofs.Common.{◌≡◌, inl, inr, ℕ, Bool, false, List, [], ◌∷◌, ◌++◌, refl, sym, ap, ◌∙◌, rules, Option, Some, None, if◌then◌else◌, bytes_eq}
use Rattle.std.specs.List.{flat_map, zip, AllByRecursion, IsDistinct}
use Rattle.std.proofs.lemmas.Bool.{cases_Bool, false≢true}
use Rattle.std.proofs.lemmas.Slice.Eq.{bytes_eq-Decides}
use Rattle.std.proofs.lemmas.Map.Keys.{IsDistinct-head, IsDistinct-tail}
use Rattle.pcr_values.specs.declared.bank.Bank.{Bank}
use Rattle.pcr_values.specs.Prelude.{fold_of}
use Rattle.stub_replay.specs.Measured.{measured_names, measured_by, section_items, predicted_pcr}
use Rattle.stub_replay.proofs.Predicting.{same_items}
use Rattle.stub_replay.specs.Parts.{items_of}
use Rattle.stub_replay.specs.Ordered.{present_parts, InMeasuredOrder, part_of}

apart_both : (a b : List ℕ) → bytes_eq a b ≡ false → bytes_eq b a ≡ false
apart_both a b apart = elim (cases_Bool (bytes_eq b a)) [
  | inl same ↦ (let e : a ≡ b = sym ((bytes_eq-Decides b a).0 same) in absurd (false≢true (sym apart ∙ (bytes_eq-Decides a b).1 e)))
  | inr other ↦ other
]

nothing : (names : List (List ℕ)) → flat_map (λ name. section_items name []) names ≡ []
unfolding section_items
nothing [] = refl
nothing (name ∷ names) = nothing names

-- a name that isn't among them has no part
absent : (name : List ℕ) (names : List (List ℕ)) (given : List (Option (List ℕ))) → AllByRecursion (λ other. bytes_eq name other ≡ false) names
    → part_of (present_parts (zip names given)) name ≡ []
absent name [] given apart = refl
absent name (other ∷ names) [] apart = refl
absent name (other ∷ names) (None ∷ given) apart = absent name names given apart.1
absent name (other ∷ names) (Some bytes ∷ given) apart =
    ap (λ (b : Bool). if b then bytes else part_of (present_parts (zip names given)) name) (apart_both name other apart.0) ∙ absent name names given apart.1

-- a part of another name is passed over
passed_over : (name bytes : List ℕ) (parts : List (List ℕ × List ℕ)) (names : List (List ℕ)) → AllByRecursion (λ other. bytes_eq name other ≡ false) names
    → AllByRecursion (λ other. part_of parts other ≡ part_of ((name, bytes) ∷ parts) other) names
passed_over name bytes parts [] apart = tt
passed_over name bytes parts (other ∷ names) apart =
    (ap (λ (b : Bool). if b then bytes else part_of parts other) (sym apart.0), passed_over name bytes parts names apart.1)

-- what is measured of the parts is what is measured by the names
by_names : (names : List (List ℕ)) (given : List (Option (List ℕ))) → IsDistinct bytes_eq names
    → items_of (present_parts (zip names given)) ≡ flat_map (λ name. section_items name (part_of (present_parts (zip names given)) name)) names
unfolding section_items
by_names [] given distinct = refl
by_names (name ∷ names) [] distinct = sym (nothing names)
by_names (name ∷ names) (None ∷ given) distinct =
    let rest = present_parts (zip names given) in
    by_names names given (IsDistinct-tail bytes_eq name names distinct)
    ∙ ap (λ (bytes : List ℕ). section_items name bytes ++ flat_map (λ other. section_items other (part_of rest other)) names)
    (sym (absent name names given (IsDistinct-head bytes_eq name names distinct)))
by_names (name ∷ names) (Some bytes ∷ given) distinct =
    let rest = present_parts (zip names given) in
    let here : part_of ((name, bytes) ∷ rest) name ≡ bytes = ap (λ (b : Bool). if b then bytes else part_of rest name) ((bytes_eq-Decides name name).1 refl) in
    ap (λ (l : List (List ℕ)). section_items name bytes ++ l)
    (by_names names given (IsDistinct-tail bytes_eq name names distinct)
    ∙ same_items (part_of rest) (part_of ((name, bytes) ∷ rest)) names (passed_over name bytes rest names (IsDistinct-head bytes_eq name names distinct)))
    ∙ ap (λ (l : List ℕ). section_items name l ++ flat_map (λ other. section_items other (part_of ((name, bytes) ∷ rest) other)) names) (sym here)

names_distinct : IsDistinct bytes_eq measured_names
unfolding IsDistinct
names_distinct = search rules

items_by_names : (given : List (Option (List ℕ))) → items_of (present_parts (zip measured_names given)) ≡ measured_by (part_of (present_parts (zip measured_names given)))
unfolding measured_by
items_by_names given = by_names measured_names given names_distinct

pub predicted_in_order : (parts : List (List ℕ × List ℕ)) (bank : Bank) (path : List (List ℕ)) → InMeasuredOrder parts
    → (items_of parts ≡ measured_by (part_of parts)) × (fold_of bank (items_of parts ++ path) ≡ predicted_pcr (part_of parts) bank path)
predicted_in_order parts bank path ordered =
    let items : items_of parts ≡ measured_by (part_of parts) =
    ap items_of ordered.1 ∙ items_by_names ordered.0 ∙ ap (λ (l : List (List ℕ × List ℕ)). measured_by (part_of l)) (sym ordered.1) in
    (items, ap (λ (l : List (List ℕ)). fold_of bank (l ++ path)) items)
