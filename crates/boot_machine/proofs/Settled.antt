-- A machine whose every file is synced is settled.
use Rattle.std.proofs.Common.{◌≡◌, inl, inr, Bool, true, false, List, [], ◌∷◌, ◌++◌, ap, ◌∙◌, subst}
use Rattle.std.specs.FinSet as set
use Rattle.boot_machine.specs.Prelude.{Files, Paths, State, IsIn, IsCandidate, path_cmp, recovered_view, IsImageOf, IsFirm, IsSettled}
use Rattle.boot_machine.specs.proofs.Maps.{same_files}
use Rattle.boot_machine.proofs.Soft.{firm_of_soft}

pub firm_of_settled : (s : State) → IsSettled s → IsFirm s
firm_of_settled s settled = settled.firm

clash : {b : Bool} → b ≡ true → b ≡ false → ⊥
clash e f = cc

same_again : (m c : Files) → IsImageOf set.empty c m → m ≡ c
same_again m c image = same_files m c (λ q. image.bytes q (set.contains-empty path_cmp q))

-- one candidate, and nothing is soft
pub settled_alone : (s : State) → s.earlier ≡ [] → s.soft ≡ set.empty → IsSettled s
settled_alone s one none = record { firm = firm_of_soft s (λ q is_soft. absurd (clash is_soft (ap (λ (soft : Paths). set.contains soft q) none ∙ set.contains-empty path_cmp q))); images = λ m image. ap recovered_view (same m image.of image.candidate image.image) }
  where
    same : (m c : Files) → IsCandidate s c → IsImageOf s.soft c m → m ≡ s.files
    same m c candidate image =
        let at_one : IsIn c ([] ++ s.files ∷ []) = subst (λ (cs : List Files). IsIn c (cs ++ s.files ∷ [])) one candidate in
        let is : c ≡ s.files = elim at_one [ inl is ↦ is | inr none ↦ absurd none ] in
        same_again m c (subst (λ (soft : Paths). IsImageOf soft c m) none image) ∙ is
