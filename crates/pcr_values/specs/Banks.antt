-- The four banks of a TPM, and how a register's bytes change.
use Rattle.std.specs.Prelude.{ℕ, List, [], ◌∷◌, ◌++◌, Option, bytes_eq, replicate, codes}
use Rattle.std.specs.List.{find, fold}
use Rattle.sha1.specs.Sha1.{sha1}
use Rattle.sha2.specs.Sha256.{sha256}
use Rattle.sha2.specs.Sha512.{sha384, sha512}
use Rattle.pcr_values.specs.declared.bank.Bank.{Bank}
use Rattle.pcr_values.specs.declared.bank.Bank.TheVariants as banks

-- the bank's name, as systemd's tools write it
abbrev pub bank_name : Bank → List ℕ
bank_name banks.Sha1 = codes "sha1"
bank_name banks.Sha256 = codes "sha256"
bank_name banks.Sha384 = codes "sha384"
bank_name banks.Sha512 = codes "sha512"

-- all banks in their order
abbrev pub all_banks : List Bank
all_banks = banks.Sha1 ∷ banks.Sha256 ∷ banks.Sha384 ∷ banks.Sha512 ∷ []

-- the bank of a name, none where it is no bank's
abbrev pub bank_named : List ℕ → Option Bank
bank_named name = find (λ bank. bytes_eq (bank_name bank) name) all_banks

-- how many bytes a digest of the bank has (FIPS 180-4, figure 1)
abbrev pub digest_length : Bank → ℕ
digest_length banks.Sha1 = 20
digest_length banks.Sha256 = 32
digest_length banks.Sha384 = 48
digest_length banks.Sha512 = 64

-- the bank's digest of a message (FIPS 180-4)
unfoldable pub digest_of : Bank → List ℕ → List ℕ
digest_of banks.Sha1 message = sha1 message
digest_of banks.Sha256 message = sha256 message
digest_of banks.Sha384 message = sha384 message
digest_of banks.Sha512 message = sha512 message

-- a register's bytes after a digest extends it: H(old followed by digest) (TPM 2.0 Library, TPM2_PCR_Extend)
abbrev pub extend_digest : Bank → List ℕ → List ℕ → List ℕ
extend_digest bank old digest = digest_of bank (old ++ digest)

-- a register's bytes after data extends it: H(old followed by H(data)) (TPM 2.0 Library, TPM2_PCR_Event)
abbrev pub extend_data : Bank → List ℕ → List ℕ → List ℕ
extend_data bank old bytes = extend_digest bank old (digest_of bank bytes)

-- a register's bytes after each of the items in turn extends it
abbrev pub extend_all : Bank → List ℕ → List (List ℕ) → List ℕ
extend_all bank old items = fold (extend_data bank) old items

-- a register's bytes at the start: zeros of the bank's length
abbrev pub zero_of : Bank → List ℕ
zero_of bank = replicate (digest_length bank) 0

-- a register's bytes after each of the items in turn has extended it from the start
abbrev pub fold_of : Bank → List (List ℕ) → List ℕ
fold_of bank items = extend_all bank (zero_of bank) items

-- the bank with its register's bytes after each of the items in turn has extended it from the start
abbrev pub fold_pcr : List (List ℕ) → Bank → Bank × List ℕ
fold_pcr items bank = (bank, fold_of bank items)
