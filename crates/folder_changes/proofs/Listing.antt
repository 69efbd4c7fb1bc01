-- The names of a folder, gone through in their order.
use Rattle.std.proofs.Common.{◌≡◌, ℕ, Bool, ◌||◌, List, ◌∷◌, [], map, refl, ap, String, Global, string_bytes, bytes_eq}
use Rattle.std.specs.List.{list_any}
use Rattle.name_syncs.specs.Paths.{has_path}

-- a test of texts is one of their bytes
pub any_of_texts : (test : List ℕ → Bool) (names : List (String Global))
    → list_any (λ name. test (string_bytes name)) names ≡ list_any test (map string_bytes names)
any_of_texts test [] = refl
any_of_texts test (first ∷ names) = ap (λ rest. test (string_bytes first) || rest) (any_of_texts test names)

pub has_path_of_texts : (names : List (String Global)) (name : List ℕ)
    → list_any (λ known. bytes_eq (string_bytes known) name) names ≡ has_path (map string_bytes names) name
has_path_of_texts names name = any_of_texts (λ known. bytes_eq known name) names
