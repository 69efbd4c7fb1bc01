use Rattle.std.proofs.Common.{◌≡◌, false, sym, ap, ◌∙◌, bytes_eq, Err}
use Rattle.std.specs.Str.{is_utf8}
use Rattle.std.proofs.lemmas.Bool.{false_from_ne_true}
use Rattle.std.proofs.lemmas.Slice.Eq.{bytes_eq-Decides}
use Rattle.std.proofs.lemmas.Str.{IsUtf8-from_is_utf8, is_utf8-from_IsUtf8}
use Rattle.boot_base.specs.Paths.{path_of}
use Rattle.boot_base.proofs.Normal.{named-itself, unnamed-other, unnamed-unread, none-unnamed, some-named, not_text}
use Rattle.boot_base.proofs.path.BootPath.from_bytes.Goals as goal

pub returns-in_default : goal.returns-in_default
returns-in_default c =
    none-unnamed c.args.bytes.now (not_text c.args.bytes.now (false_from_ne_true (is_utf8 c.args.bytes.now) (λ is. c.in_default.ensures.cases.0 (IsUtf8-from_is_utf8 c.args.bytes.now is))))

pub returns-then-eq : goal.returns-then-eq
returns-then-eq c =
    let text = c.in-Ok.ensures.cases in
    let one : c.in-Ok-read.path ≡ c.in-Ok.text.now = sym c.as_str.ensures.text ∙ (bytes_eq-Decides c.as_str.result.now c.in-Ok.text.now).0 (sym c.eq.ensures ∙ c.if-eq.true) in
    some-named c.args.bytes.now c.in-Ok-read.path (one ∙ text.0)
    (named-itself c.args.bytes.now (is_utf8-from_IsUtf8 c.args.bytes.now text.1) c.in-Ok-read.path (ap path_of (sym text.0) ∙ c.in-Ok-read.ensures.ok) (one ∙ text.0))

pub returns-else-eq : goal.returns-else-eq
returns-else-eq c =
    let text = c.in-Ok.ensures.cases in
    let other : bytes_eq c.in-Ok-read.path c.args.bytes.now ≡ false = ap (bytes_eq c.in-Ok-read.path) (sym text.0)
    ∙ ap (λ p. bytes_eq p c.in-Ok.text.now) (sym c.as_str.ensures.text) ∙ sym c.eq.ensures ∙ c.if-eq.false in
    none-unnamed c.args.bytes.now (unnamed-other c.args.bytes.now (is_utf8-from_IsUtf8 c.args.bytes.now text.1) c.in-Ok-read.path (ap path_of (sym text.0) ∙ c.in-Ok-read.ensures.ok) other)

pub returns-in-Err-BadPath : goal.returns-in-Err-BadPath
returns-in-Err-BadPath c =
    let text = c.in-Ok.ensures.cases in
    none-unnamed c.args.bytes.now (unnamed-unread c.args.bytes.now (is_utf8-from_IsUtf8 c.args.bytes.now text.1) (ap path_of (sym text.0) ∙ c.in-Err-BadPath.ensures.bad (ap (λ f. Err f) c.in-Err-BadPath.field-0-is)))
