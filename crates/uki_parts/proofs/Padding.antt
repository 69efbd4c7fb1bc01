-- A name that is filled up with NUL is what stands before the first NUL.
use Rattle.std.proofs.Common.{◌≡◌, ℕ, ◌-◌, ◌≤◌, ◌==◌, zero, suc, true, List, [], ◌∷◌, ◌++◌, length, replicate, refl, arith}
use Rattle.std.specs.List.{list_all, position_or_len}
use Rattle.std.proofs.lemmas.List.{length-replicate}
use Rattle.std.proofs.lemmas.Bool.Decides.{nat_tests}
use Rattle.std.proofs.lemmas.Grind.{common_steps}
use Rattle.uki_parts.specs.Names.{is_section_name_byte, is_section_name, padded_name, name_bytes}

first_nul : (bytes : List ℕ) (n : ℕ) → list_all is_section_name_byte bytes ≡ true →
    position_or_len (λ b. b == 0) (bytes ++ replicate n 0) ≡ length bytes
first_nul [] zero h = refl
first_nul [] (suc n) h = refl
first_nul (x ∷ xs) n h = grind (arith, common_steps, first_nul xs n)

name_bytes-padded_name : (bytes : List ℕ) → length bytes ≤ 8 → list_all is_section_name_byte bytes ≡ true →
    name_bytes (padded_name bytes) ≡ bytes
name_bytes-padded_name bytes short h =
    let first = first_nul bytes (8 - length bytes) h in
    let filled = length-replicate {A = ℕ} (8 - length bytes) 0 in
    grind (arith, common_steps, first, filled)

within_eight : (text : List ℕ) → is_section_name text ≡ true → length text ≤ 8
within_eight text h = grind (arith, common_steps, nat_tests)

all_name_bytes : (text : List ℕ) → is_section_name text ≡ true → list_all is_section_name_byte text ≡ true
all_name_bytes text h = grind (arith, common_steps, nat_tests)

-- what is read of a name is its text
pub name_bytes-read : (text : List ℕ) → is_section_name text ≡ true → name_bytes (padded_name text) ≡ text
name_bytes-read text h = name_bytes-padded_name text (within_eight text h) (all_name_bytes text h)
