-- What a digest and a register show: a bank and bytes.
use Rattle.std.specs.Prelude.{ℕ, List}
use Rattle.pcr_values.specs.declared.bank.Bank.{Bank}
use Rattle.pcr_values.specs.declared.bank.Bank.TheVariants as banks
use Rattle.pcr_values.specs.declared.digest.DigestBytes.{DigestBytes}
use Rattle.pcr_values.specs.declared.digest.DigestBytes.TheVariants as arrays
use Rattle.pcr_values.specs.declared.digest.Digest.{Digest}
use Rattle.pcr_values.specs.declared.pcr.Pcr.{Pcr}

-- the bank whose array this is
abbrev pub array_bank : DigestBytes → Bank
array_bank (arrays.Sha1 bytes) = banks.Sha1
array_bank (arrays.Sha256 bytes) = banks.Sha256
array_bank (arrays.Sha384 bytes) = banks.Sha384
array_bank (arrays.Sha512 bytes) = banks.Sha512

-- the bytes in the array
abbrev pub array_bytes : DigestBytes → List ℕ
array_bytes (arrays.Sha1 bytes) = bytes
array_bytes (arrays.Sha256 bytes) = bytes
array_bytes (arrays.Sha384 bytes) = bytes
array_bytes (arrays.Sha512 bytes) = bytes

-- the bank of a digest
abbrev pub bank_of : Digest → Bank
bank_of digest = array_bank digest.bytes

-- the bytes of a digest
abbrev pub bytes_of_digest : Digest → List ℕ
bytes_of_digest digest = array_bytes digest.bytes

-- the bank of a register
abbrev pub pcr_bank : Pcr → Bank
pcr_bank pcr = bank_of pcr.value

-- the bytes of a register
abbrev pub pcr_bytes : Pcr → List ℕ
pcr_bytes pcr = bytes_of_digest pcr.value

-- a register as others see it: its bank and its bytes
abbrev pub pcr_value : Pcr → Bank × List ℕ
pcr_value pcr = (pcr_bank pcr, pcr_bytes pcr)
