-- Paths that are read.
use Rattle.std.proofs.Common.{◌≡◌, ℕ, Bool, true, false, not, List, Option, Some, None, Ok, subst, ◌==◌, bytes_eq, if◌then◌else◌}
use Rattle.std.specs.List.{list_any}
use Rattle.std.proofs.lemmas.Bool.{and_parts, not-true, or_parts}
use Rattle.boot_base.specs.Paths.{Path, components, intent, is_form, is_normal, is_path, is_path_text, is_refused, normal_of, path_of}
use Rattle.boot_base.proofs.Normal.{normal_from, path-some}
use Rattle.command_plans.specs.Prelude.{path_or}

pub read_of : (text : List ℕ) (read : Option Path) (path : Path) → path_or text read ≡ Ok path → read ≡ Some path
read_of text None path is = cc
read_of text (Some found) path is = cc

pub read_if : (counts : Bool) (read : Option Path) (path : Path) → (if counts then read else None) ≡ Some path
    → read ≡ Some path
read_if true read path is = is
read_if false read path is = cc

pub read_normal : (text : List ℕ) (path : Path) → path_of text ≡ Some path → is_normal path ≡ true
read_normal text path is =
    let read = path-some (is_path text) (normal_of text) path is in
    let both = and_parts _ (is_path_text (normal_of text)) read.0 in
    let clean = or_parts (list_any (λ b. b == 0) text) (list_any is_refused (components text)) (not-true _ both.0) in
    let form = and_parts (is_form (normal_of text)) (not (bytes_eq (normal_of text) intent)) both.1 in
    subst (λ (p : Path). is_normal p ≡ true) read.1 (normal_from text clean.0 clean.1 form.0)
