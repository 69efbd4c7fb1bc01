-- What a length tells of a loader.conf.
use Rattle.std.proofs.Common.{◌≡◌, ◌≤◌, ℕ, false, unwrap_or, List, [], drop, length, Option, Some, Result, Ok, refl, sym, ap, ◌∙◌, arith, take_all, nat_lt, option_map}
use Rattle.std.proofs.lemmas.Bool.Decides.{nat_tests}
use Rattle.std.specs.FinMap.{get}
use Rattle.boot_base.specs.Limits.{text_limit}
use Rattle.boot_base.specs.Paths.{Path}
use Rattle.boot_base.specs.declared.refusal.Refusal.{Refusal}
use Rattle.boot_machine.specs.Prelude.{Files, fill_with_zeros, contents}
use Rattle.boot_machine.proofs.Filling.{fill_with_zeros-inside}
use Rattle.command_plans.proofs.Sizes.{some_of}
use Rattle.loader_commands.specs.Places.{conf_bytes, conf_or_empty, within_limit}

not_above : (limit n : ℕ) → n ≤ limit → nat_lt limit n ≡ false
not_above limit n small = grind (arith, nat_tests)

within : (path : Path) (text : List ℕ) → length text ≤ 65536 → within_limit path text ≡ Ok text
within path text small = rw (not_above text_limit (length text) small) refl

whole : (file : List ℕ) (size : ℕ) → length file ≡ size → fill_with_zeros (drop 0 file) size ≡ file
whole file size long = fill_with_zeros-inside file size (omega (arith, long)) ∙ take_all size file (omega (arith, long))

-- so many bytes of a loader.conf that isn't too long are all that it has
pub conf_read : (view now : Files) (path : Path) (size : ℕ) → now ≡ view → option_map length (get view path) ≡ Some size → size ≤ 65536
    → ◌≡◌ {A = Result (List ℕ) Refusal} (Ok (fill_with_zeros (drop 0 (contents now path)) size)) (conf_bytes view path)
conf_read view now path size same is small =
    let there = some_of (get view path) size is in
    let short : length there.0 ≤ 65536 = omega (arith, there.2, small) in
    let held : contents now path ≡ there.0 =
    ap (λ (files : Files). contents files path) same ∙ ap (λ (o : Option (List ℕ)). unwrap_or o []) there.1 in
    let read : fill_with_zeros (drop 0 (contents now path)) size ≡ there.0 =
    ap (λ (file : List ℕ). fill_with_zeros (drop 0 file) size) held ∙ whole there.0 size there.2 in
    let said : ◌≡◌ {A = Result (List ℕ) Refusal} (Ok (fill_with_zeros (drop 0 (contents now path)) size)) (Ok there.0) = ap (λ (bytes : List ℕ). Ok bytes) read in
    said ∙ sym (within path there.0 short) ∙ sym (ap (conf_or_empty path) there.1)
