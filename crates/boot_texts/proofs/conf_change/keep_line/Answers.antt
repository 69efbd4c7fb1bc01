use Rattle.std.proofs.Common.{◌∙◌, ◌≡◌, ◌++◌, ◌∷◌, [], ap, sym, true}
use Rattle.std.proofs.lemmas.Bool.{not-false}
use Rattle.boot_texts.specs.FileLines.{lacks_value}
use Rattle.boot_texts.proofs.ConfChanges.{written_kept}
use Rattle.boot_texts.proofs.conf_change.keep_line.Goals as goal

pub returns-in_ok-push : goal.returns-in_ok-push
returns-in_ok-push c =
    let kept : lacks_value c.args.key.now c.args.line.now ≡ true = not-false (lacks_value c.args.key.now c.args.line.now) (sym c.has_value.ensures ∙ c.if-not-has_value.true) in
    c.in_ok-push.ensures.items
    ∙ ap (λ items. items ++ 10 ∷ []) c.in_ok-extend_from_slice.ensures.items
    ∙ written_kept (lacks_value c.args.key.now) c.args.line.now c.args.made.now.items kept
