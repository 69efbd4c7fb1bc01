-- What a run of calls keeps, and how much of files it takes.
use Rattle.std.proofs.Common.{◌≡◌, ◌⊎◌, inl, inr, ℕ, ◌-◌, true, false, List, [], ◌∷◌, ⊎_elim, refl, sym, ap, ◌∙◌, arith}
use Rattle.std.specs.FinMap as map
use Rattle.boot_base.specs.Paths.{Path, is_temp}
use Rattle.boot_machine.specs.Prelude.{State, Files, is_same_path, is_listed, TakesAtMost, append_to, contents, move_in}
use Rattle.boot_machine.specs.proofs.Maps.{cases_same, get-insert_apart, get-remove_apart, same_self}
use Rattle.boot_machine.proofs.Listing.{same_bytes}
use Rattle.boot_machine.proofs.Views.{get-append_to}
use Rattle.install_steps.specs.Steps.{Keeps, KeepsTempsBut}

-- nothing was changed
pub keeps_same : (s t : State) → t ≡ s → Keeps s t
keeps_same s t is = record { printed = ap (λ (v : State). v.printed) is; input = ap (λ (v : State). v.input) is }

pub keeps_on : (s t u : State) → Keeps s t → Keeps t u → Keeps s u
keeps_on s t u first second = record { printed = second.printed ∙ first.printed; input = second.input ∙ first.input }

-- the path isn't that of somebody else's temporary file
abbrev pub IsOwn : List Path → Path → Type 0
IsOwn own p = (is_temp p ≡ false) ⊎ (is_listed own p ≡ true)

-- the only one
pub own_alone : (p : Path) → IsOwn (p ∷ []) p
own_alone p = inr (rw (sym (same_bytes p p), same_self p) refl)

-- another one's is at another path
others_apart : (own : List Path) (p q : Path) → IsOwn own p → is_temp q ≡ true → is_listed own q ≡ false → is_same_path q p ≡ false
others_apart own p q mine temp other = elim (cases_same q p) [
  | inl is ↦ absurd (⊎_elim (λ shown. cc (temp, shown, ap is_temp is)) (λ listed. cc (listed, other, ap (is_listed own) is)) mine)
  | inr apart ↦ apart
]

pub others_same : (own : List Path) (m n : Files) → n ≡ m → KeepsTempsBut own m n
others_same own m n is q temp other = ap (λ (f : Files). map.get f q) is

pub others_on : (own : List Path) (m n o : Files) → KeepsTempsBut own m n → KeepsTempsBut own n o → KeepsTempsBut own m o
others_on own m n o first second q temp other = second q temp other ∙ first q temp other

-- what touches none touches none of others
pub others_none : (own : List Path) (m n : Files) → KeepsTempsBut [] m n → KeepsTempsBut own m n
others_none own m n kept q temp other = kept q temp refl

pub others_insert : (own : List Path) (m : Files) (p : Path) (bytes : List ℕ) → IsOwn own p → KeepsTempsBut own m (map.insert m p bytes)
others_insert own m p bytes mine q temp other = get-insert_apart m p bytes q (others_apart own p q mine temp other)

pub others_remove : (own : List Path) (m : Files) (p : Path) → IsOwn own p → KeepsTempsBut own m (map.remove m p)
others_remove own m p mine q temp other = get-remove_apart m p q (others_apart own p q mine temp other)

pub others_append : (own : List Path) (m : Files) (p : Path) (bytes : List ℕ) → IsOwn own p → KeepsTempsBut own m (append_to p bytes m)
others_append own m p bytes mine q temp other = rw (get-append_to m p bytes q, others_apart own p q mine temp other) refl

pub others_move : (own : List Path) (m : Files) (from to : Path) → IsOwn own from → IsOwn own to → KeepsTempsBut own m (move_in from to m)
unfolding move_in
others_move own m from to mine shown q temp other =
    get-insert_apart (map.remove m from) to (contents m from) q (others_apart own to q shown temp other)
    ∙ get-remove_apart m from q (others_apart own from q mine temp other)

-- nothing was taken
pub takes_nothing : (limit a b : ℕ) → b ≡ a → TakesAtMost limit a b
takes_nothing limit a b is = omega arith
