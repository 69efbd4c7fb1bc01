use Rattle.std.proofs.Common.{◌≡◌, ◌≢◌, ℕ, List, [], ◌∷◌, None, eqb, inl, inr, refl, ap, sym, ◌∙◌, lit<}
use Rattle.std.proofs.lemmas.Bool.{cases_Bool}
use Rattle.std.proofs.lemmas.Bool.Decides.{Decides-eqb}
use Rattle.std.proofs.lemmas.Str.Pattern.{strip_prefix_char}
use Rattle.tool_words.specs.declared.command.Given.TheVariants.{Inline}
use Rattle.tool_words.specs.Meaning.{inline_or_file}
use Rattle.tool_words.proofs.fill.inline_or_file.Goals as goal

-- a text that begins with no `@`
inline_or_file-inline : (bytes : List ℕ) → ((rest : List ℕ) → bytes ≢ 64 ∷ rest) → inline_or_file bytes ≡ Inline bytes
inline_or_file-inline [] h = refl
inline_or_file-inline (first ∷ bytes) h =
    elim (cases_Bool (eqb first 64)) [
      | inl same ↦ absurd (h bytes (ap (λ b. b ∷ bytes) ((Decides-eqb first 64).0 same)))
      | inr other ↦ rw other refl
    ]

pub returns-in_ok-text-in-None : goal.returns-in_ok-text-in-None
returns-in_ok-text-in-None c =
    ap Inline c.in_ok-text-in-None.ensures ∙ sym (inline_or_file-inline c.args.value.now (strip_prefix_char 64 c.args.value.now None c.in-None.ensures.cases (lit< tt)))
