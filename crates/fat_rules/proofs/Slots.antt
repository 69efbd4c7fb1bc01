-- What the rules keep in a folder of FAT.
use Rattle.std.proofs.Common.{◌≡◌, ◌<◌, Bool, true, false, not, ◌||◌, List, [], ◌∷◌, refl, inl, inr, arith, map, All, if◌then◌else◌, ◌==◌, length}
use Rattle.std.specs.List.{list_any}
use Rattle.std.proofs.lemmas.Bool.{or_parts}
use Rattle.std.proofs.lemmas.List.Elements.{All-nil, All-cons, All-head, All-tail}
use Rattle.fat_rules.specs.Sharing.{may_share}
use Rattle.fat_rules.specs.Slots.{Slot, slot_facts, Shares, IsEmptied, has_twin, FreesNothingShared, KeepsTheLastName, ChecksOnce}
use Rattle.fat_rules.specs.declared.recovery.Step.{Step}
use Rattle.fat_rules.specs.declared.recovery.Step.TheVariants.{Forget, TakeAlias, AskForCheck, AskForFolder, AskForName}

pub shares_seen : (one other : Slot) → 0 < one.length → Shares one other → may_share (slot_facts one) (slot_facts other) ≡ true
shares_seen one other some s = grind (arith, some, s.length, s.stamp)

not_shared : (one other : Slot) → 0 < one.length → may_share (slot_facts one) (slot_facts other) ≡ false → Shares one other → ⊥
not_shared one other some none s = let seen = shares_seen one other some s in cc

pub frees_nothing_shared : FreesNothingShared
frees_nothing_shared slot [] some none = All-nil (λ (other : Slot). Shares slot other → ⊥)
frees_nothing_shared slot (other ∷ others) some none =
    let parts = or_parts (may_share (slot_facts slot) (slot_facts other)) (list_any (may_share (slot_facts slot)) (map slot_facts others)) none in
    All-cons (λ (other : Slot). Shares slot other → ⊥) other others (not_shared slot other some parts.0)
    (frees_nothing_shared slot others some parts.1)

-- a name without bytes shares none, and none shares with one that has none
emptied_first : (one other : Slot) → one.length ≡ 0 → may_share (slot_facts one) (slot_facts other) ≡ false
emptied_first one other none = grind (arith, none)

emptied_second : (one other : Slot) → other.length ≡ 0 → may_share (slot_facts one) (slot_facts other) ≡ false
emptied_second one other none = grind (arith, none)

either_false : (a b : Bool) → a ≡ false → b ≡ false → (a || b) ≡ false
either_false a b first second = grind (arith, first, second)

alone : (one : Slot) (others : List Slot) → one.length ≡ 0 → has_twin one others ≡ false
alone one [] none = refl
alone one (other ∷ others) none = either_false _ _ (emptied_first one other none) (alone one others none)

all_emptied : (file one : Slot) (others : List Slot) → All (IsEmptied file) others → has_twin one others ≡ false
all_emptied file one [] all = refl
all_emptied file one (other ∷ others) all =
    either_false _ _ (emptied_second one other (All-head (IsEmptied file) other others all).length)
    (all_emptied file one others (All-tail (IsEmptied file) other others all))

pub checks_once : ChecksOnce
checks_once file slot others (inl emptied) = alone slot others emptied.length
checks_once file slot others (inr all) = all_emptied file slot others all

-- the folder, whether it is of FAT, and whether its names are none or one
step_cases : Bool → Bool → Bool → Bool → Step
step_cases has_folder is_fat none one =
    if not has_folder then AskForFolder
    else if none then (if is_fat then AskForCheck else Forget)
    else if one then TakeAlias 0 else AskForName

forgets : (has_folder is_fat none one : Bool) → step_cases has_folder is_fat none one ≡ Forget
    → (has_folder ≡ true) × ((is_fat ≡ false) × (none ≡ true))
unfolding step_cases
forgets false is_fat none one is = cc
forgets true true true one is = cc
forgets true false true one is = (refl, (refl, refl))
forgets true is_fat false true is = cc
forgets true is_fat false false is = cc

pub keeps_the_last_name : KeepsTheLastName
unfolding step_cases
keeps_the_last_name has_folder is_fat [] is =
    let parts = forgets has_folder is_fat true false is in (parts.0, (parts.1.0, refl))
keeps_the_last_name has_folder is_fat (alias ∷ aliases) is =
    let parts = forgets has_folder is_fat (length (alias ∷ aliases) == 0) (length (alias ∷ aliases) == 1) is in
    absurd (grind (arith, parts.1.1))
