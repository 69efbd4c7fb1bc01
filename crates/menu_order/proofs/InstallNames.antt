-- A name that an entry may be installed under has no slash.
use Rattle.std.proofs.Common.{◌≡◌, inl, inr, ℕ, true, false, List, [], ◌∷◌, refl, sym, ap, ◌∙◌}
use Rattle.std.specs.List.{list_all, list_any}
use Rattle.std.proofs.lemmas.Bool.{and_parts, cases_Bool, eqb-true}
use Rattle.boot_base.specs.Paths.{is_slash, under}
use Rattle.boot_base.specs.declared.refusal.Refusal.TheVariants as refusals
use Rattle.menu_order.specs.InstallNames.{is_entry_name_byte}

-- no byte of a name is a slash
name_byte : (byte : ℕ) → is_entry_name_byte byte ≡ true → is_slash byte ≡ false
name_byte byte is = elim (cases_Bool (is_slash byte)) [
  | inl slash ↦ absurd (not_name byte (eqb-true byte 47 slash) is)
  | inr other ↦ other
]
  where
    not_name : (byte : ℕ) → byte ≡ 47 → is_entry_name_byte byte ≡ true → ⊥
    not_name byte at is = cc (sym (ap is_entry_name_byte at) ∙ is)

pub name_slash : (name : List ℕ) → list_all is_entry_name_byte name ≡ true → list_any is_slash name ≡ false
name_slash [] all = refl
name_slash (byte ∷ name) all =
    let parts = and_parts (is_entry_name_byte byte) (list_all is_entry_name_byte name) all in
    rw (name_byte byte parts.0) (name_slash name parts.1)
