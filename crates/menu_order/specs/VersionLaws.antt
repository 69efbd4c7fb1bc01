-- The laws of the order of versions.
use Rattle.std.specs.Prelude.{◌≡◌, ◌≢◌, ◌↔◌, ℕ, List, ◌∷◌, ◌++◌}
use Rattle.std.specs.declared.cmp.Ordering.TheVariants.{Equal}
use Rattle.menu_order.specs.VersionTokens.{Token, tokens_of}
use Rattle.menu_order.specs.VersionOrder.{token_cmp, to_end, version_cmp}

-- no two versions are equal in the order but those of which no token differs
abbrev pub EqualTokens : Type 0
EqualTokens = (a b : List ℕ) → (version_cmp a b ≡ Equal) ↔ (tokens_of a ≡ tokens_of b)

-- two versions go as the tokens at the first place where they differ, the end being a token too
abbrev pub FirstDifference : Type 0
FirstDifference =
    (a b : List ℕ) (same : List Token) (x y : Token) (xs ys : List Token)
    → to_end (tokens_of a) ≡ same ++ x ∷ xs
    → to_end (tokens_of b) ≡ same ++ y ∷ ys
    → x ≢ y
    → version_cmp a b ≡ token_cmp x y
