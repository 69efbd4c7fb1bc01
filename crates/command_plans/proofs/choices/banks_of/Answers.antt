use denote.Enum.Bare.{sameb}
use Rattle.std.proofs.Common.{◌≡◌, true, refl}
use Rattle.std.proofs.lemmas.Result.{IfOk-weaker}
use Rattle.pcr_values.specs.contracts.bank.Bank.{the_type}
use Rattle.pcr_values.specs.declared.bank.Bank.{Bank}
use Rattle.pcr_values.specs.declared.bank.Bank.TheVariants.{Sha1, Sha256, Sha384, Sha512}
use Rattle.command_plans.proofs.WithoutRepeats.{differ}
use Rattle.command_plans.proofs.choices.banks_of.Goals as goal

itself : (bank : Bank) → sameb the_type bank bank ≡ true
itself Sha1 = refl
itself Sha256 = refl
itself Sha384 = refl
itself Sha512 = refl

pub returns-clause-distinct : goal.returns-clause-distinct
returns-clause-distinct c = IfOk-weaker c.without_repeats.result _ _ (λ banks apart. differ (sameb the_type) itself banks.items apart) c.without_repeats.ensures.distinct
