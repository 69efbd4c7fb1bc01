-- Registers, and the data that extends them next.
use Rattle.std.specs.Prelude.{◌≡◌, ℕ, List, [], ◌∷◌, ◌++◌}
use Rattle.std.specs.List.{AllZip}
use Rattle.pcr_values.specs.declared.bank.Bank.{Bank}
use Rattle.pcr_values.specs.Banks.{fold_of}
use Rattle.pcr_values.specs.Values.{pcr_bank, pcr_bytes}
use Rattle.pcr_values.specs.Hashes.{HoldsData}
use Rattle.stub_replay.specs.declared.register.Register.{Register}

-- The register is of this bank and these items have extended it from the start, and its hash has taken these bytes.
pub record Holds (register : Register) (bank : Bank) (items : List (List ℕ)) (taken : List ℕ) : Type 0 where
  pub is_of : pcr_bank register.pcr ≡ bank
  pub value : pcr_bytes register.pcr ≡ fold_of bank items
  pub hashed : HoldsData register.hash bank taken

-- each register holds these items and bytes, in the bank of its place
abbrev pub AllHold : List Register → List Bank → List (List ℕ) → List ℕ → Type 0
AllHold registers banks items taken = AllZip (λ register bank. Holds register bank items taken) registers banks

-- the register holds something
abbrev pub IsHeld : Register → Type 0
IsHeld register = (bank : Bank) × (items : List (List ℕ)) × (taken : List ℕ) × Holds register bank items taken

-- registers hold something, all the same
abbrev pub AreHeld : List Register → Type 0
AreHeld registers =
    (banks : List Bank) × (items : List (List ℕ)) × (taken : List ℕ) × AllHold registers banks items taken

-- the hash takes these bytes
abbrev pub Takes : List ℕ → Register → Register → Type 0
Takes bytes old new =
    (bank : Bank) (items : List (List ℕ)) (taken : List ℕ) → Holds old bank items taken
    → Holds new bank items (taken ++ bytes)

-- the name with one NUL and the bytes that the hash has taken extend the register, and the hash begins again
abbrev pub Closes : List ℕ → Register → Register → Type 0
Closes name old new = (bank : Bank) (items : List (List ℕ)) (taken : List ℕ) → Holds old bank items taken →
    Holds new bank (items ++ (name ++ 0 ∷ []) ∷ taken ∷ []) []

-- these items extend the register
abbrev pub Extends : List (List ℕ) → Register → Register → Type 0
Extends more old new =
    (bank : Bank) (items : List (List ℕ)) → Holds old bank items [] → Holds new bank (items ++ more) []
