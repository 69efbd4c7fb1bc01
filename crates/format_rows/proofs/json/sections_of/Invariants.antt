use Rattle.std.proofs.Common.{◌≡◌, All}
use Rattle.pcr_values.specs.Prelude.{bank_of}
use Rattle.pcr_values.specs.declared.bank.Bank.TheVariants.{Sha256}
use Rattle.format_rows.proofs.json.sections_of.Given as goal

abbrev pub invariant-loop-word : goal.invariant-loop-word
invariant-loop-word l = All (λ section. bank_of section.digest ≡ Sha256) l.sections.items
