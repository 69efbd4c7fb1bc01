-- Names that are no twins, one after the other.
use Rattle.std.proofs.Common.{◌≡◌, ℕ, ◌+◌, ◌<◌, Bool, true, false, List, ◌∷◌, [], length, map, get_or, take, refl, subst, String, Global, string_bytes, All, ◌&&◌}
use Rattle.std.proofs.lemmas.List.{map-append, take_more}
use Rattle.std.proofs.lemmas.List.Elements.{All-push}

pub no_second : (one other : Bool) → other ≡ false → (one && other) ≡ false
no_second true other is = is
no_second false other is = refl

-- one name more of those that are gone through
pub all_more : (P : List ℕ → Type 0) (names : List (String Global)) (i : ℕ) (item : String Global) → i < length names
    → item ≡ get_or names i item → P (string_bytes item) → All P (map string_bytes (take i names))
    → All P (map string_bytes (take (i + 1) names))
all_more P names i item inside at is all =
    rw (take_more names i item inside, map-append string_bytes (take i names) (get_or names i item ∷ []))
    (All-push P (map string_bytes (take i names)) (string_bytes (get_or names i item)) all
    (subst (λ (name : String Global). P (string_bytes name)) at is))
