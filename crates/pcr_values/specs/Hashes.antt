-- What a hash of data has taken so far.
use Rattle.std.specs.Prelude.{◌≡◌, ℕ, List}
use Rattle.sha1.specs.Sha1.{Holds}
use Rattle.sha2.specs.Hashers.{Holds256, Holds384, Holds512}
use Rattle.pcr_values.specs.declared.bank.Bank.{Bank}
use Rattle.pcr_values.specs.declared.bank.Bank.TheVariants as banks
use Rattle.pcr_values.specs.declared.data_hash.Hasher.{Hasher}
use Rattle.pcr_values.specs.declared.data_hash.Hasher.TheVariants as hashers
use Rattle.pcr_values.specs.declared.data_hash.DataHash.{DataHash}

-- the hasher is the bank's and has taken this message
abbrev pub HasTaken : Hasher → Bank → List ℕ → Type 0
HasTaken (hashers.Sha1 hasher) bank message = (bank ≡ banks.Sha1) × Holds hasher message
HasTaken (hashers.Sha256 hasher) bank message = (bank ≡ banks.Sha256) × Holds256 hasher message
HasTaken (hashers.Sha384 hasher) bank message = (bank ≡ banks.Sha384) × Holds384 hasher message
HasTaken (hashers.Sha512 hasher) bank message = (bank ≡ banks.Sha512) × Holds512 hasher message

-- the hash is of this bank and has taken this data, however it was cut
unfoldable pub HoldsData : DataHash → Bank → List ℕ → Type 0
HoldsData hash bank taken = HasTaken hash.hasher bank taken
