-- Files that a command names, and what they are refused for.
use Rattle.std.specs.Prelude.{ℕ, List, [], ◌∷◌, length, nat_lt, Option, Some, None, Result, Ok, Err, if◌then◌else◌}
use Rattle.std.specs.FinMap.{get}
use Rattle.boot_base.specs.Limits.{file_limit}
use Rattle.boot_base.specs.Paths.{Path}
use Rattle.boot_base.specs.declared.refusal.Refusal.{Refusal}
use Rattle.boot_base.specs.declared.refusal.Refusal.TheVariants as refusals
use Rattle.boot_machine.specs.Disk.{Files}
use Rattle.pe_reader.specs.Grammar.{Headers, pe_of}
use Rattle.pe_reader.specs.Reasons.{pe_reason_text}
use Rattle.pe_reader.specs.declared.fault.FailedCheck.{FailedCheck}
use Rattle.command_plans.specs.WordErrors.{◌>>=◌, printed_path}

-- the bytes that stand at a path, or why they aren't read
abbrev pub readable_bytes : Path → Option (List ℕ) → Result (List ℕ) Refusal
readable_bytes path None = Err (refusals.NotFound (printed_path path))
readable_bytes path (Some bytes) =
    if nat_lt file_limit (length bytes) then Err (refusals.TooLarge (printed_path path) (length bytes)) else Ok bytes

-- the bytes of the file at a path, or the refusal
abbrev pub bytes_at : Files → Path → Result (List ℕ) Refusal
bytes_at view path = readable_bytes path (get view path)

-- what was read as a PE32+ file, or the first check that fails
abbrev pub headers_or : Result Headers FailedCheck → Result Headers Refusal
headers_or (Ok headers) = Ok headers
headers_or (Err check) = Err (refusals.NotPe (pe_reason_text check.reason) check.offset)

-- the bytes of an image, with what they read as
abbrev pub image_at : Files → Path → Result (List ℕ × Headers) Refusal
image_at view path = bytes_at view path >>= λ bytes. headers_or (pe_of bytes) >>= λ headers. Ok (bytes, headers)

-- what is made of each of a list, or the first refusal in order
unfoldable pub each : {A B : Type 0} → (A → Result B Refusal) → List A → Result (List B) Refusal
each f [] = Ok []
each f (x ∷ xs) = f x >>= λ y. each f xs >>= λ ys. Ok (y ∷ ys)

-- what is made of a thing where it is given
abbrev pub if_given : {A B : Type 0} → (A → Result B Refusal) → Option A → Result (Option B) Refusal
if_given f None = Ok None
if_given f (Some x) = f x >>= λ y. Ok (Some y)
