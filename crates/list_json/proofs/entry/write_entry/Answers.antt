use Rattle.std.proofs.Common.{[], ◌∷◌, ◌++◌, ap, sym, subst, ◌∙◌}
use Rattle.json.specs.Token.{Token}
use Rattle.list_json.specs.Faults.{UntoldFor}
use Rattle.list_json.specs.Tokens.{entry_rows, put_rows}
use Rattle.list_json.proofs.ReadBack.{entry_read}
use Rattle.list_json.proofs.Rows.{entry_written, told_rows}
use Rattle.list_json.proofs.Texts.{tells_err}
use Rattle.list_json.proofs.entry.write_entry.Goals as goal

pub returns-clause-tokens : goal.returns-clause-tokens
returns-clause-tokens c =
    c.in_ok-end_object.ensures.ok
    ∙ ap (λ ts. ts ++ Token.end_object ∷ []) (c.in_ok-write_members.ensures.tokens ∙ ap (λ ts. put_rows ts (entry_rows c.args.entry.now)) c.in_ok-begin_object.ensures.ok)
    ∙ entry_written c.args.out.now.tokens c.args.entry.now

pub returns-clause-text : goal.returns-clause-text
returns-clause-text c = sym (told_rows c.args.entry.now) ∙ c.in_ok-write_members.ensures.text

pub returns-clause-reads : goal.returns-clause-reads
returns-clause-reads c = entry_read c.args.entry.now c.in_ok-write_members.ensures.reads

pub returns-in_err-write_members-clause-text : goal.returns-in_err-write_members-clause-text
returns-in_err-write_members-clause-text c =
    let fault = c.in_err-write_members.field-0.0 in
    tells_err _ fault _ c.from_residual-in_err-write_members.ensures.0 c.from_residual-in_err-write_members.ensures.1
    (subst (λ b. UntoldFor b fault) (told_rows c.args.entry.now) c.in_err-write_members.ensures.text)
