-- What the checks show, and that they hold again where a file has grown.
use Rattle.std.proofs.Common.{◌≡◌, ◌≤◌, ◌+◌, ◌*◌, ℕ, List, Ok, Err, Result, refl, arith}
use Rattle.std.proofs.lemmas.Bool.Decides.{nat_tests}
use Rattle.pe_reader.specs.declared.fault.FailedCheck.{FailedCheck}
use Rattle.pe_reader.specs.declared.head.Head.{Head}
use Rattle.pe_reader.specs.declared.head.Coff.{Coff}
use Rattle.pe_reader.specs.Prelude.{u16_at, u32_at, ◌>>=◌, pe_place_of, coff_of, optional_of}

pub bind_ok : {A B : Type 0} (r : Result A FailedCheck) (f : A → Result B FailedCheck) (y : B)
    → (r >>= f) ≡ Ok y → (x : A) × (r ≡ Ok x) × (f x ≡ Ok y)
bind_ok (Ok x) f y e = (x, refl, e)
bind_ok (Err d) f y e = cc

pub bind_from : {A B : Type 0} (r : Result A FailedCheck) (f : A → Result B FailedCheck) (x : A) (y : Result B FailedCheck)
    → r ≡ Ok x → f x ≡ y → (r >>= f) ≡ y
bind_from r f x y e g = rw e g

-- the place of the PE header, in a longer file that begins alike
pub pe_place_of-more : (n m : ℕ) (front : List ℕ) (p : ℕ) → n ≤ m
    → pe_place_of n front ≡ Ok p → pe_place_of m front ≡ Ok p
unfolding pe_place_of
pe_place_of-more n m front p h e = grind (arith, nat_tests)

-- the COFF header of a longer file with more sections
pub coff_of-more : (n m place : ℕ) (old new : List ℕ) (c : Coff) → n ≤ m
    → u32_at new 0 ≡ u32_at old 0 → u16_at new 20 ≡ u16_at old 20 → u16_at new 6 ≤ 96
    → coff_of n place old ≡ Ok c
    → coff_of m place new ≡ Ok (record { section_count = u16_at new 6; optional_size = c.optional_size })
unfolding coff_of
coff_of-more n m place old new c h e1 e2 few e = grind (arith, nat_tests)

-- what the optional header's fields that stay are
pub record SameButSizes (old new : List ℕ) : Type 0 where
  pub magic : u16_at new 0 ≡ u16_at old 0
  pub section_alignment : u32_at new 32 ≡ u32_at old 32
  pub file_alignment : u32_at new 36 ≡ u32_at old 36
  pub header_size : u32_at new 60 ≡ u32_at old 60
  pub directory_count : u32_at new 108 ≡ u32_at old 108
  pub certificate_size : u32_at new 148 ≡ u32_at old 148

-- the optional header of a longer file with more sections
pub optional_of-more : (n m place count : ℕ) (coff : Coff) (old new : List ℕ) (h : Head) → n ≤ m
    → SameButSizes old new
    → h.table_place + 40 * count ≤ h.header_size
    → optional_of n place coff old ≡ Ok h
    → optional_of m place (record { section_count = count; optional_size = coff.optional_size }) new
    ≡ Ok (record h { section_count = count; initialized_size = u32_at new 8; image_size = u32_at new 56 })
unfolding optional_of
optional_of-more n m place count coff old new h le same room e =
    let a = same.magic in
    let b = same.section_alignment in
    let c = same.file_alignment in
    let d = same.header_size in
    let f = same.directory_count in
    let g = same.certificate_size in
    rw (a, b, c, d, f, g) (grind (arith, nat_tests))

-- the first bytes don't matter for a short file
pub pe_place_of-same : (n : ℕ) (front other : List ℕ) → (64 ≤ n → front ≡ other) → pe_place_of n front ≡ pe_place_of n other
unfolding pe_place_of
pe_place_of-same n front other same = grind (arith, nat_tests)

pub coff_of-same : (n place : ℕ) (header other : List ℕ) → (place + 24 ≤ n → header ≡ other) → coff_of n place header ≡ coff_of n place other
unfolding coff_of
coff_of-same n place header other same = grind (arith, nat_tests)
