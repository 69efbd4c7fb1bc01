-- A file that is copied in pieces, under a temporary name and then in its place.
use Rattle.std.proofs.Common.{◌≡◌, ◌≤◌, inl, inr, ℕ, true, false, List, [], length, Option, Some, None, is_some, unwrap_or, refl, sym, ap, ◌∙◌, arith, option_map}
use Rattle.std.specs.FinMap as map
use Rattle.boot_base.specs.Paths.{Path, is_temp}
use Rattle.boot_machine.specs.Prelude.{Files, has, recovered_view, is_same_path, contents, append_to, move_in}
use Rattle.boot_machine.specs.proofs.Maps.{cases_same, same_self, same_files, get-insert_here, get-insert_apart}
use Rattle.boot_machine.proofs.Views.{get-append_to}
use Rattle.boot_machine.proofs.Recovering.{IsCalm, get-recovered_view_there, has-recovered_view}
use Rattle.boot_base.specs.Paths.{intent}
use Rattle.boot_machine.proofs.Written.{recovered_view-written}
use Rattle.install_steps.specs.Steps.{after_copy}
use Rattle.install_steps.proofs.RefusedLemmas.{copied_there}

-- a new file with these bytes
abbrev pub with_file : Path → List ℕ → Files → Files
with_file p bytes m = append_to p bytes (map.insert m p [])

pub with_file_here : (m : Files) (p : Path) (bytes : List ℕ) → map.get (with_file p bytes m) p ≡ Some bytes
with_file_here m p bytes = rw (get-append_to (map.insert m p []) p bytes p, same_self p, get-insert_here m p []) refl

pub with_file_apart : (m : Files) (p : Path) (bytes : List ℕ) (q : Path) → is_same_path q p ≡ false → map.get (with_file p bytes m) q ≡ map.get m q
with_file_apart m p bytes q apart = rw (get-append_to (map.insert m p []) p bytes q, apart) (get-insert_apart m p [] q apart)

-- a file that is made is empty
pub with_none : (m : Files) (p : Path) → map.insert m p [] ≡ with_file p [] m
with_none m p = same_files _ _ (λ q. elim (cases_same q p) [
  | inl is ↦ rw is (get-insert_here m p [] ∙ sym (with_file_here m p []))
  | inr apart ↦ get-insert_apart m p [] q apart ∙ sym (with_file_apart m p [] q apart)
])

clash : (q p : Path) → is_temp p ≡ true → is_temp q ≡ false → q ≡ p → ⊥
clash q p temp shown is = cc (temp, shown, ap is_temp is)

-- the file that is copied stays
pub source_stays : (m : Files) (temp from : Path) (bytes : List ℕ) → is_temp temp ≡ true → is_temp from ≡ false → contents (with_file temp bytes m) from ≡ contents m from
source_stays m temp from bytes is_temporary shown = elim (cases_same from temp) [
  | inl is ↦ absurd (clash from temp is_temporary shown is)
  | inr apart ↦ ap (λ (o : Option (List ℕ)). unwrap_or o []) (with_file_apart m temp bytes from apart)
]

pub contents-recovered_view : (m : Files) (q : Path) → IsCalm m → is_temp q ≡ false → contents (recovered_view m) q ≡ contents m q
contents-recovered_view m q calm shown = ap (λ (o : Option (List ℕ)). unwrap_or o []) (get-recovered_view_there m q calm shown)

-- boot sees the copy in its place
pub sees_copy : (m now : Files) (temp from to : Path) → IsCalm m → is_same_path intent to ≡ false → is_temp temp ≡ true → is_temp from ≡ false
    → is_temp to ≡ false → has m from ≡ true → now ≡ with_file temp (contents m from) m
    → recovered_view (move_in temp to now) ≡ after_copy from to (recovered_view m)
sees_copy m now temp from to calm free is_temporary from_shown to_shown there is =
    ap (λ (n : Files). recovered_view (move_in temp to n)) is ∙ recovered_view-written m temp to (contents m from) calm is_temporary to_shown free
    ∙ ap (λ (l : List ℕ). map.insert (recovered_view m) to l) (sym (contents-recovered_view m from calm from_shown))
    ∙ sym (copied_there from to (recovered_view m) (has-recovered_view m from calm from_shown ∙ there))

size_at : (o : Option (List ℕ)) (size : ℕ) → option_map length o ≡ Some size → (size ≡ length (unwrap_or o [])) × (is_some o ≡ true)
size_at None size is = cc
size_at (Some bytes) size is = (cc, refl)

-- a file with a size is there
pub size_there : (m : Files) (q : Path) (found : Option ℕ) (size : ℕ) → found ≡ option_map length (map.get m q) → found ≡ Some size → (size ≡ length (contents m q)) × (has m q ≡ true)
size_there m q found size row is = size_at (map.get m q) size (sym row ∙ is)

-- its size is within the limit
pub size_within : (m : Files) (q : Path) (found : Option ℕ) (size limited : ℕ) → IsCalm m → is_temp q ≡ false
    → length (contents (recovered_view m) q) ≤ 268435456 → found ≡ option_map length (map.get m q) → found ≡ Some size
    → (size ≤ 268435456 → limited ≡ size) → limited ≡ length (contents m q)
size_within m q found size limited calm shown small row is within =
    let long = (size_there m q found size row is).0 in
    within (omega (arith, long, small, ap length (contents-recovered_view m q calm shown))) ∙ long
