-- How many bytes of files are read.
use Rattle.std.proofs.Common.{◌≡◌, ◌<◌, ◌+◌, ℕ, List, Result, Ok, length, take, get_or, ap, arith, sum_by}
use Rattle.std.proofs.lemmas.List.Sums.{sum_by-cons, sum_by-take-le, sum_by_more}
use Rattle.boot_base.specs.Paths.{Path}
use Rattle.boot_base.specs.declared.refusal.Refusal.{Refusal}
use Rattle.boot_machine.specs.Prelude.{Files, TakesAtMost}
use Rattle.command_plans.specs.Prelude.{bytes_at}
use Rattle.type1_install.specs.Installing.{Type1Plan, digesting_length, installing_length}

-- a file is read for its digest
pub digested : (view : Files) (file : Path) (bytes : List ℕ) (size a b c : ℕ) → bytes_at view file ≡ Ok bytes → length bytes ≡ size
    → TakesAtMost 0 a b → TakesAtMost size b c → TakesAtMost (digesting_length (bytes_at view file)) a c
digested view file bytes size a b c read long first next = omega (arith, ap digesting_length read, long, first, next)

-- one more of them, as far as a loop has come
pub more_read : (f : Path → ℕ) (files : List Path) (i : ℕ) (file : Path) (a b c : ℕ) → i < length files → file ≡ get_or files i file
    → TakesAtMost (sum_by f (take i files)) a b → TakesAtMost (f file) b c → TakesAtMost (sum_by f (take (i + 1) files)) a c
more_read f files i file a b c inside is before next = omega (arith, ap f is, sum_by_more f files i file inside, before, next)

-- the loop ends with it
pub last_read : (f : Path → ℕ) (files : List Path) (i : ℕ) (file : Path) (a b c : ℕ) → i < length files → file ≡ get_or files i file
    → TakesAtMost (sum_by f (take i files)) a b → TakesAtMost (f file) b c → TakesAtMost (sum_by f files) a c
last_read f files i file a b c inside is before next =
    omega (arith, more_read f files i file a b c inside is before next, sum_by-take-le f files (i + 1))

-- the kernel is read, and then the initrds
pub installed : (view : Files) (read : Result Type1Plan Refusal) (plan : Type1Plan) (a b c : ℕ) → read ≡ Ok plan
    → TakesAtMost (digesting_length (bytes_at view plan.linux)) a b → TakesAtMost (sum_by (λ file. digesting_length (bytes_at view file)) plan.initrds) b c
    → TakesAtMost (installing_length view read) a c
installed view read plan a b c is first more =
    omega (arith, ap (installing_length view) is, sum_by-cons (λ (file : Path). digesting_length (bytes_at view file)) plan.linux plan.initrds, first, more)
