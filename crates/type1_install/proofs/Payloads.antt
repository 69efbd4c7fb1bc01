-- The payloads that files are.
use Rattle.std.proofs.Common.{◌≡◌, ◌<◌, ℕ, suc, true, List, [], ◌∷◌, ◌++◌, Result, Ok, eqb, length, take, get_or, refl, sym, ap, ◌∙◌, subst, arith}
use Rattle.std.specs.List.{list_all}
use Rattle.std.proofs.lemmas.Bool.{and_from}
use Rattle.hex.specs.Hex.{encode_lower}
use Rattle.boot_base.specs.Paths.{Path}
use Rattle.boot_base.specs.declared.refusal.Refusal.{Refusal}
use Rattle.boot_machine.specs.Prelude.{Files, contents}
use Rattle.boot_texts.specs.EntryText.{is_hex_lower, is_payload_name}
use Rattle.pcr_values.specs.Prelude.{digest_of}
use Rattle.pcr_values.specs.declared.bank.Bank.TheVariants.{Sha256}
use Rattle.command_plans.specs.Prelude.{◌>>=◌, bytes_at, each, ReadErrorFor}
use Rattle.command_plans.specs.declared.read_error.ReadError.{ReadError}
use Rattle.command_plans.specs.declared.read_error.ReadError.TheVariants as read_errors
use Rattle.command_plans.proofs.WordErrors.{done_next}
use Rattle.command_plans.proofs.Each.{each_refused}
use Rattle.std.proofs.lemmas.List.{drop_more, take-append-drop}
use Rattle.type1_install.specs.Payloads.{payload_name}
use Rattle.type1_install.specs.Shown.{payload_at}
use Rattle.type1_install.proofs.PayloadNames.{AreSmall, hex_digits, hex_length}

-- ---- the digits of a digest

small_from : (bytes : List ℕ) → ((i : ℕ) → get_or bytes i 0 < 256) → AreSmall bytes
small_from [] all = tt
small_from (byte ∷ bytes) all = (all 0, small_from bytes (λ i. all (suc i)))

pub hex_name : (bytes name : List ℕ) → length bytes ≡ 32 → ((i : ℕ) → get_or bytes i 0 < 256) → name ≡ encode_lower bytes
    → is_payload_name name ≡ true
hex_name bytes name count small is =
    let long : length (encode_lower bytes) ≡ 64 = omega (arith, hex_length bytes, count) in
    subst (λ (n : List ℕ). is_payload_name n ≡ true) (sym is)
    (and_from (eqb (length (encode_lower bytes)) 64) (list_all is_hex_lower (encode_lower bytes)) (rw long refl) (hex_digits bytes (small_from bytes small)))

-- ---- one payload

pub read_error_first : {X Y : Type 0} (fault : ReadError) (first : Result X Refusal) (next : X → Result Y Refusal) → ReadErrorFor fault first
    → ReadErrorFor fault (first >>= next)
read_error_first read_errors.Memory first next why = tt
read_error_first read_errors.Disk first next why = tt
read_error_first (read_errors.Refused refusal) first next why = ap (λ (r : Result _ Refusal). r >>= next) why

pub payload_made : (view files : Files) (file copy : Path) (bytes digest name : List ℕ) → bytes_at view file ≡ Ok bytes
    → contents view file ≡ contents files file → digest ≡ digest_of Sha256 (contents files file) → name ≡ encode_lower digest → copy ≡ file
    → payload_at view file ≡ Ok (record { file = copy; name = name })
unfolding payload_name
payload_made view files file copy bytes digest name read held digest_is name_is copy_is =
    let named : payload_name (contents view file) ≡ name =
    ap (λ (b : List ℕ). encode_lower (digest_of Sha256 b)) held ∙ ap encode_lower (sym digest_is) ∙ sym name_is in
    done_next (bytes_at view file) bytes _ read ∙ (λ i. Ok (record { file = sym copy_is i; name = named i }))

-- ---- one payload after the other

pub taken_read_error : {A B : Type 0} (f : A → Result B Refusal) (xs : List A) (i : ℕ) (ys : List B) (x d : A) (fault : ReadError) → i < length xs
    → each f (take i xs) ≡ Ok ys → x ≡ get_or xs i d → ReadErrorFor fault (f x) → ReadErrorFor fault (each f xs)
taken_read_error f xs i ys x d read_errors.Memory inside before is_item why = tt
taken_read_error f xs i ys x d read_errors.Disk inside before is_item why = tt
taken_read_error f xs i ys x d (read_errors.Refused refusal) inside before is_item why =
    ap (each f) (sym (take-append-drop i xs) ∙ ap (λ l. take i xs ++ l) (drop_more xs i d inside))
    ∙ each_refused f (take i xs) ys (get_or xs i d) _ refusal before (ap f (sym is_item) ∙ why)
