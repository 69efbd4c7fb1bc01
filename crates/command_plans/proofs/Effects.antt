-- What the steps of an installation come to on a rested machine, where boot sees what every command reads.
use Rattle.std.proofs.Common.{◌≡◌, ◌≤◌, ℕ, List, true, false, length, sym, ap, ◌∙◌, refl, subst}
use Rattle.std.specs.FinMap.{insert, remove}
use Rattle.boot_base.specs.Paths.{Path}
use Rattle.install_steps.specs.declared.moves.Intent.{Intent}
use Rattle.boot_machine.specs.Prelude.{Files, State, IsRested, has, recovered_view, contents, seen}
use Rattle.boot_machine.proofs.Recovering.{recovered_view-calm}
use Rattle.image_writer.specs.Sourced.{planned_image}
use Rattle.image_writer.specs.declared.sources.Sources.{Sources}
use Rattle.pe_builder.specs.declared.plan.ImageLayout.{ImageLayout}
use Rattle.install_steps.specs.Steps.{after_copy, after_move}
use Rattle.install_steps.proofs.RefusedLemmas.{moved_there}
use Rattle.command_plans.specs.Prelude.{CanMake, with_copy, effect, view_with_image}
use Rattle.command_plans.specs.declared.plan.Change.{Change}
use Rattle.command_plans.specs.declared.plan.Change.TheVariants.{Leftovers, Move, Remove}
use Rattle.command_plans.specs.declared.plan.RefusalLine.{RefusalLine}

clash : {x : _} → x ≡ true → x ≡ false → ⊥
clash e f = cc

pub written_rested : (s : State) (image : ImageLayout) (sources : Sources) (path : Path) → IsRested s
    → insert (recovered_view s.files) path (planned_image image sources (seen s)) ≡ view_with_image image sources path (seen s)
written_rested s image sources path rested = ap (λ (v : Files). insert v path (planned_image image sources (seen s))) (recovered_view-calm s.files rested)

pub put_rested : (s : State) (path : Path) (bytes : List ℕ) → IsRested s → insert (recovered_view s.files) path bytes ≡ insert (seen s) path bytes
put_rested s path bytes rested = ap (λ (v : Files). insert v path bytes) (recovered_view-calm s.files rested)

copied_there : (from to : Path) (view : Files) → has view from ≡ true → after_copy from to view ≡ with_copy from to view
copied_there from to view there = rw there refl

module _ (s : State) (from to : Path) (rested : IsRested s) where
  pub copied_rested : has (seen s) from ≡ true → after_copy from to (recovered_view s.files) ≡ with_copy from to (seen s)
  copied_rested there = ap (after_copy from to) (recovered_view-calm s.files rested) ∙ copied_there from to (seen s) there

  pub small_rested : length (contents (seen s) from) ≤ 268435456 → length (contents (recovered_view s.files) from) ≤ 268435456
  small_rested = subst (λ (v : Files). length (contents v from) ≤ 268435456) (sym (recovered_view-calm s.files rested))

  -- the file to be copied is there
  pub copies : has (seen s) from ≡ true → has (recovered_view s.files) from ≡ false → ⊥
  copies there none = clash there (ap (λ (v : Files). has v from) (sym (recovered_view-calm s.files rested)) ∙ none)

module _ (s : State) (change : Change) (rested : IsRested s) where
  calm : recovered_view s.files ≡ seen s
  calm = recovered_view-calm s.files rested

  pub removed_rested : (path : Path) (gone : RefusalLine) → change ≡ Remove path gone → remove (recovered_view s.files) path ≡ effect (seen s) change
  removed_rested path gone is = ap (λ (v : Files). remove v path) calm ∙ ap (effect (seen s)) (sym is)

  -- the file to be removed is there
  pub removes : (path : Path) (gone : RefusalLine) → change ≡ Remove path gone → CanMake s change → has (recovered_view s.files) path ≡ false → ⊥
  removes path gone is can none = clash (subst (CanMake s) is can) (ap (λ (v : Files). has v path) (sym calm) ∙ none)

  pub left_rested : (temps : _) → change ≡ Leftovers temps → recovered_view s.files ≡ effect (seen s) change
  left_rested temps is = calm ∙ ap (effect (seen s)) (sym is)

  module _ (from to : Path) (intent : Intent) (gone exists : RefusalLine) (is : change ≡ Move from to intent gone exists) (can : CanMake s change) where
    can_move : (has (seen s) from ≡ true) × (has (seen s) to ≡ false)
    can_move = subst (CanMake s) is can

    pub moved_rested : after_move from to (recovered_view s.files) ≡ effect (seen s) change
    moved_rested = ap (after_move from to) calm ∙ moved_there from to (seen s) can_move.0 can_move.1 ∙ ap (effect (seen s)) (sym is)

    -- the file to be moved is there
    pub moves : has (recovered_view s.files) from ≡ false → ⊥
    moves none = clash can_move.0 (ap (λ (v : Files). has v from) (sym calm) ∙ none)

    -- and none where it is moved
    pub moves_over_none : has (recovered_view s.files) to ≡ true → ⊥
    moves_over_none there = clash (ap (λ (v : Files). has v to) (sym calm) ∙ there) can_move.1
