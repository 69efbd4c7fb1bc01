-- What registers take, as far as it is known.
use Rattle.std.specs.Prelude.{◌≡◌, ℕ, Bool, IsTrue, List, []}
use Rattle.std.specs.List.{AllZip}
use Rattle.boot_machine.specs.Disk.{State}
use Rattle.boot_machine.specs.Moments.{Timeline}
use Rattle.boot_machine.specs.Reading.{OnlyReads}
use Rattle.pcr_values.specs.declared.bank.Bank.{Bank}
use Rattle.stub_replay.specs.declared.register.Register.{Register}
use Rattle.stub_replay.specs.Registers.{AllHold, Takes, Extends}

-- the hashes take the same bytes, which are these where the condition holds
abbrev pub TakesWhere : Type 0 → List ℕ → List Register → List Register → Type 0
TakesWhere condition bytes old new = (taken : List ℕ) × AllZip (Takes taken) old new × (condition → taken ≡ bytes)

-- the same items extend the registers, which are these where the condition holds
abbrev pub ExtendsWhere : Type 0 → List (List ℕ) → List Register → List Register → Type 0
ExtendsWhere condition items old new =
    (more : List (List ℕ)) × AllZip (Extends more) old new × (condition → more ≡ items)

-- the same items have extended the registers, and their hashes have taken nothing
abbrev pub AreBetween : List Register → Type 0
AreBetween registers = (banks : List Bank) × (items : List (List ℕ)) × AllHold registers banks items []

-- the hashes take these bytes, and the machine only reads meanwhile
abbrev pub TakesReading : {D : Type 0} → Bool → Timeline D → (D → State)
    → List ℕ → List Register → D → List Register → D → Type 0
TakesReading tells time state bytes old before new after =
    AllZip (Takes bytes) old new × (IsTrue tells → OnlyReads time state before after)
