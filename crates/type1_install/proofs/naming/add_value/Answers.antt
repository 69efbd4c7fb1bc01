use Rattle.std.proofs.Common.{◌≡◌, ◌∙◌, ◌++◌, Option, ap, append-nil, false, sym, true, option_to_list}
use Rattle.std.specs.Str.{is_utf8}
use Rattle.std.proofs.lemmas.Bool.{false_from_ne_true}
use Rattle.std.proofs.lemmas.Str.{IsUtf8-from_is_utf8, is_utf8-from_IsUtf8}
use Rattle.boot_base.specs.Paths.{Path, path_below}
use Rattle.type1_install.proofs.Unnamed.{named_is, not_named}
use Rattle.type1_install.proofs.naming.add_value.Goals as goal

pub returns-in_default : goal.returns-in_default
returns-in_default c =
    let bytes = c.as_slice.result.now in
    let named = c.args.named.now.items in
    let none : is_utf8 c.args.value.now ≡ false =
    ap is_utf8 (sym c.as_slice.ensures) ∙ false_from_ne_true (is_utf8 bytes) (λ is. c.in_default.ensures.cases.0 (IsUtf8-from_is_utf8 bytes is)) in
    sym (append-nil named) ∙ ap (λ (o : Option Path). named ++ option_to_list o) (not_named c.args.esp.now c.args.value.now none)

pub returns-in_ok-push-in-Ok-under : goal.returns-in_ok-push-in-Ok-under
returns-in_ok-push-in-Ok-under c =
    let esp = c.args.esp.now in
    let value = c.args.value.now in
    let text = c.in-Ok.ensures.cases in
    let utf8 : is_utf8 value ≡ true = ap is_utf8 (sym c.as_slice.ensures) ∙ is_utf8-from_IsUtf8 c.as_slice.result.now text.1 in
    c.in_ok-push-in-Ok-under.ensures.items
    ∙ ap (λ (o : Option Path). c.args.named.now.items ++ option_to_list o) (sym (named_is esp value utf8 ∙ ap (path_below esp) (sym (text.0 ∙ c.as_slice.ensures)) ∙ c.in-Ok-under.ensures.ok))
