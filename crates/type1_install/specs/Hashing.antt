-- What a hash takes of a file.
use Rattle.std.specs.Prelude.{ℕ, Bool, IsTrue, List, ◌++◌}
use Rattle.boot_machine.specs.Disk.{State}
use Rattle.boot_machine.specs.Moments.{Timeline}
use Rattle.boot_machine.specs.Reading.{OnlyReads}
use Rattle.pcr_values.specs.declared.bank.Bank.{Bank}
use Rattle.pcr_values.specs.declared.data_hash.DataHash.{DataHash}
use Rattle.pcr_values.specs.Hashes.{HoldsData}

-- the hash takes these bytes behind what it has
abbrev pub HashesOn : List ℕ → DataHash → DataHash → Type 0
HashesOn bytes old new =
    (bank : Bank) (taken : List ℕ) → HoldsData old bank taken → HoldsData new bank (taken ++ bytes)

-- the hash takes these bytes, and the machine only reads meanwhile
abbrev pub HashesReading : {D : Type 0} → Bool → Timeline D → (D → State)
    → List ℕ → DataHash → D → DataHash → D → Type 0
HashesReading tells time state bytes old before new after =
    HashesOn bytes old new × (IsTrue tells → OnlyReads time state before after)
