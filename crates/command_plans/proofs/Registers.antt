-- The registers of banks, as they are said.
use Rattle.std.proofs.Common.{◌≡◌, ℕ, List, Ok, Result}
use Rattle.boot_base.specs.declared.refusal.Refusal.{Refusal}
use Rattle.pcr_values.specs.declared.bank.Bank.{Bank}

-- these are what is said
abbrev pub AreSaid : List (Bank × List ℕ) → List (Bank × List ℕ) → Type 0
AreSaid found starts = ◌≡◌ {A = Result (List (Bank × List ℕ)) Refusal} (Ok found) (Ok starts)
