use Rattle.std.proofs.Common.{Some, List, ℕ, ap, ◌∙◌, sym}
use Rattle.entry_commands.proofs.Siblings.{bad_path, good_path}
use Rattle.entry_commands.proofs.bless.entry_paths.Goals as goal

pub path_beside-requires : goal.path_beside-requires
path_beside-requires c =
    good_path c.args.counted c.as_str.result.now c.know_normal.ensures.normal (c.in_ok-good.ensures.name ∙ ap (λ (t : List ℕ). Some t) (sym c.as_str.ensures.value))

pub path_beside-requires-2 : goal.path_beside-requires-2
path_beside-requires-2 c =
    bad_path c.args.counted c.as_str-2.result.now c.know_normal.ensures.normal (c.in_ok-bad.ensures.name ∙ ap (λ (t : List ℕ). Some t) (sym c.as_str-2.ensures.value))
