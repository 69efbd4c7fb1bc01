use Rattle.std.proofs.Common.{[], ◌∷◌, ◌++◌, map, not, ap, sym, ◌∙◌}
use Rattle.json.specs.Token.{Token}
use Rattle.list_json.proofs.Rows.{texts_written}
use Rattle.list_json.proofs.Texts.{tells_err, texts_are_text, untold_weaker}
use Rattle.list_json.proofs.entry.write_texts.Goals as goal

pub returns-clause-tokens : goal.returns-clause-tokens
returns-clause-tokens c =
    c.in_ok-end_array.ensures.ok
    ∙ ap (λ ts. ts ++ Token.end_array ∷ [])
    (c.in_ok-write_items.ensures.tokens ∙ ap (λ ts. ts ++ map Token.string c.args.texts.now) (c.in_ok-begin_array.ensures.ok ∙ ap (λ ts. ts ++ Token.begin_array ∷ []) c.in_ok-key.ensures.ok))
    ∙ texts_written c.args.out.now.tokens c.args.key.now c.args.texts.now (ap not (sym c.if-is_empty.ensures))

pub returns-clause-text : goal.returns-clause-text
returns-clause-text c = texts_are_text c.args.texts.now (ap not (sym c.if-is_empty.ensures)) ∙ c.in_ok-write_items.ensures.text

pub returns-in_err-write_items-clause-text : goal.returns-in_err-write_items-clause-text
returns-in_err-write_items-clause-text c =
    tells_err _ c.in_err-write_items.field-0.0 _ c.from_residual-in_err-write_items.ensures.0 c.from_residual-in_err-write_items.ensures.1
    (untold_weaker c.in_err-write_items.field-0.0 _ _ (λ h. texts_are_text c.args.texts.now (ap not (sym c.if-is_empty.ensures)) ∙ h) c.in_err-write_items.ensures.text)
