-- The names of an entry that a blessing reports.
use Rattle.std.proofs.Common.{◌≡◌, ℕ, true, List, Option, Some, None, Ok, refl, sym, ap, ◌∙◌, subst}
use Rattle.std.specs.List.{list_any}
use Rattle.boot_base.specs.Paths.{Path, beside, components, file_name_of, is_kept, is_normal, path_below, path_of, under}
use Rattle.boot_base.specs.declared.refusal.Refusal.TheVariants as refusals
use Rattle.menu_order.specs.Renames.{bad_name_of}
use Rattle.menu_order.specs.Splits.{split_of}
use Rattle.command_plans.specs.Prelude.{path_in, path_under, printed_path}
use Rattle.entry_commands.specs.Blessing.{bad_name_in, entry_paths, good_name_in, name_or, reported_paths}
use Rattle.entry_commands.specs.declared.bless.EntryPaths.{EntryPaths}
use Rattle.entry_commands.proofs.Siblings.{bad_counted}
use Rattle.command_plans.proofs.Steps.{done_by, err_ok, none_some, ok_is}
use Rattle.command_plans.proofs.ReadPaths.{read_if, read_normal, read_of}

under_normal : (folder : Path) (below : List ℕ) (path : Path) → path_under folder below ≡ Ok path
    → is_normal path ≡ true
under_normal folder below path is =
    let text = under folder below in
    let read = read_of text (path_below folder below) path is in
    read_normal text path (read_if (list_any is_kept (components below)) (path_of text) path read)

-- ---- the names of a reported entry

name_read : (path : Path) (found : Option (List ℕ)) (name : List ℕ) → name_or path found ≡ Ok name → found ≡ Some name
name_read path None name is = absurd (err_ok (refusals.NoCounter (printed_path path)) name is)
name_read path (Some read) name is = ap (λ (n : List ℕ). Some n) (ok_is read name is)

-- the reported name has a counter, and the bad name stands beside it
pub record AreReported (paths : EntryPaths) : Type 0 where
  pub normal : is_normal paths.counted ≡ true
  pub name : List ℕ
  pub named : bad_name_of (file_name_of paths.counted) ≡ Some name
  pub stands : beside paths.counted name ≡ paths.bad

pub reported : (word esp : List ℕ) (paths : EntryPaths) → reported_paths word esp ≡ Ok paths → AreReported paths
reported word esp paths is =
    let folder = done_by (path_in esp) _ paths is in
    let counted = done_by (path_under folder.0 word) entry_paths paths folder.2 in
    let good = done_by (good_name_in counted.0) _ paths counted.2 in
    let bad = done_by (bad_name_in counted.0) _ paths good.2 in
    subst AreReported (ok_is _ paths bad.2) (record {
      normal = under_normal folder.0 word counted.0 counted.1;
      name = bad.0;
      named = name_read counted.0 (bad_name_of (file_name_of counted.0)) bad.0 bad.1;
      stands = refl;
    })

module _ (paths : EntryPaths) (are : AreReported paths) where
  pub reported_counted : split_of (file_name_of paths.counted) ≡ None → ⊥
  reported_counted none = none_some are.name (sym (no_bad none) ∙ are.named)
    where
      no_bad : split_of (file_name_of paths.counted) ≡ None → bad_name_of (file_name_of paths.counted) ≡ None
      no_bad none = rw none refl

  pub bad_is_counted : split_of (file_name_of paths.bad) ≡ None → ⊥
  bad_is_counted none =
      let unread = ap (λ (p : Path). split_of (file_name_of p)) are.stands ∙ none in
      bad_counted paths.counted are.name are.normal are.named unread
