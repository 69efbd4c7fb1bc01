use Rattle.std.proofs.Common.{◌≡◌, false, ℕ, List, sym, ap, ◌∙◌, subst, Option, IfOk, chars}
use Rattle.std.proofs.lemmas.Str.{is_utf8-from_IsUtf8}
use Rattle.tool_words.specs.Line.{is_open, line_words}
use Rattle.tool_words.specs.Meaning.{meaning}
use Rattle.tool_words.specs.declared.command.One.{One}
use Rattle.boot_run.specs.AskedLines.{in_script}
use Rattle.boot_run.proofs.ScriptLines.{command_of_words, none_of_bytes, not_open, not_utf8}
use Rattle.boot_run.proofs.script.command_in.Goals as goal

pub returns-in_default : goal.returns-in_default
returns-in_default c = sym (none_of_bytes c.args.piece.now (not_utf8 c.args.piece.now c.in_default.ensures.cases.0))

pub returns-in-Ok-split_line : goal.returns-in-Ok-split_line
returns-in-Ok-split_line c =
    let piece = c.args.piece.now in
    let text : c.in-Ok.text.now ≡ piece = c.in-Ok.ensures.cases.0 in
    let closed : is_open (chars c.in-Ok.text.now) ≡ false = not_open (chars c.in-Ok.text.now) c.split_line.result c.in-Ok-split_line.words c.in-Ok-split_line.is c.split_line.ensures.open.1 in
    let meant =
    ap (λ (words : List (List ℕ)). in_script (meaning words)) (c.in-Ok-split_line.ensures.words ∙ ap (λ (bytes : List ℕ). line_words (chars bytes)) text)
    ∙ sym (command_of_words piece (is_utf8-from_IsUtf8 piece c.in-Ok.ensures.cases.1) (subst (λ (bytes : List ℕ). is_open (chars bytes) ≡ false) text closed)) in
    subst (λ (found : Option One). IfOk c.command_of.result (λ read. read ≡ found)) meant c.command_of.ensures
