-- What holds of a menu and of what is kept of it, record by record.
use Rattle.std.proofs.Common.{ℕ, Bool, List, [], ◌∷◌, ◌++◌, sym, subst, append_assoc, if◌then◌else◌, append-nil}
use Rattle.menu_order.specs.declared.item.MenuItem.{MenuItem}
use Rattle.menu_order.specs.Doomed.{is_kept_record, kept_behind, kept_records}

-- what is kept of one record
abbrev pub kept_one : ℕ → Bool → List MenuItem → MenuItem → List MenuItem
kept_one n per_key earlier item = if is_kept_record n per_key earlier item then (item ∷ []) else []

module _ (n : ℕ) (per_key : Bool) (I : List MenuItem → List MenuItem → Type 0)
    (step : (earlier kept : List MenuItem) (item : MenuItem) → I earlier kept
    → I (earlier ++ item ∷ []) (kept ++ kept_one n per_key earlier item)) where
  pub along : (earlier kept later : List MenuItem) → I earlier kept
      → I (earlier ++ later) (kept ++ kept_behind n per_key earlier later)
  along earlier kept [] holds =
      subst (λ (l : List MenuItem). I l (kept ++ [])) (sym (append-nil earlier))
      (subst (I earlier) (sym (append-nil kept)) holds)
  along earlier kept (item ∷ later) holds =
      let next = along (earlier ++ item ∷ []) (kept ++ kept_one n per_key earlier item) later
      (step earlier kept item holds) in
      subst (λ (l : List MenuItem). I l (kept ++ kept_behind n per_key earlier (item ∷ later)))
      (append_assoc earlier (item ∷ []) later)
      (subst (I ((earlier ++ item ∷ []) ++ later))
      (append_assoc kept (kept_one n per_key earlier item) (kept_behind n per_key (earlier ++ item ∷ []) later)) next)

  pub kept_walk : (menu : List MenuItem) → I [] [] → I menu (kept_records n per_key menu)
  unfolding kept_records
  kept_walk menu start = along [] [] menu start
