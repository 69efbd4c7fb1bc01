-- The reading of the section table, a step at a time.
use Rattle.std.proofs.Common.{◌≡◌, ◌<◌, ◌+◌, ◌*◌, ◌-◌, ℕ, zero, suc, List, [], ◌∷◌, ◌++◌, drop, Ok, Err, refl, arith}
use Rattle.pe_reader.specs.declared.section.Section.{Section}
use Rattle.pe_reader.specs.declared.fault.FailedCheck.{FailedCheck}
use Rattle.pe_reader.specs.Prelude.{sections_of, check_section, section_at}

-- one header more
pub sections_of-step : (size header_size left place : ℕ) (earlier : List Section) (table : List ℕ) (s : Section)
    → 0 < left → check_section size header_size earlier place (section_at table) ≡ Ok s
    → sections_of size header_size left place earlier table
    ≡ sections_of size header_size (left - 1) (place + 40) (earlier ++ s ∷ []) (drop 40 table)
unfolding sections_of
sections_of-step size header_size zero place earlier table s h e = absurd (omega arith)
sections_of-step size header_size (suc n) place earlier table s h e =
    let back : suc n - 1 ≡ n = omega arith in
    rw (e, back) refl

-- one header more, counted up
pub sections_of-next : (size header_size count place i : ℕ) (earlier : List Section) (table : List ℕ) (s : Section)
    → i < count → check_section size header_size earlier (place + 40 * i) (section_at table) ≡ Ok s
    → sections_of size header_size (count - i) (place + 40 * i) earlier table
    ≡ sections_of size header_size (count - (i + 1)) (place + 40 * (i + 1)) (earlier ++ s ∷ []) (drop 40 table)
sections_of-next size header_size count place i earlier table s h e =
    let a : count - i - 1 ≡ count - (i + 1) = omega arith in
    let b : place + 40 * i + 40 ≡ place + 40 * (i + 1) = omega arith in
    rw (← a, ← b) (sections_of-step size header_size (count - i) (place + 40 * i) earlier table s (omega arith) e)

-- the first header that fails
pub sections_of-stop : (size header_size left place : ℕ) (earlier : List Section) (table : List ℕ) (f : FailedCheck)
    → 0 < left → check_section size header_size earlier place (section_at table) ≡ Err f
    → sections_of size header_size left place earlier table ≡ Err f
unfolding sections_of
sections_of-stop size header_size zero place earlier table f h e = absurd (omega arith)
sections_of-stop size header_size (suc n) place earlier table f h e = rw e refl

-- no header is left
pub sections_of-end : (size header_size left place : ℕ) (earlier : List Section) (table : List ℕ)
    → left ≡ 0 → sections_of size header_size left place earlier table ≡ Ok earlier
unfolding sections_of
sections_of-end size header_size left place earlier table e = rw e refl
