-- Laws of a hash that takes bytes.
use Rattle.std.specs.Prelude.{ℕ, List, [], ◌++◌}
use Rattle.std.proofs.Common.{sym, subst, append_assoc, append-nil}
use Rattle.pcr_values.specs.declared.data_hash.DataHash.{DataHash}
use Rattle.pcr_values.specs.Hashes.{HoldsData}
use Rattle.type1_install.specs.Hashing.{HashesOn}

-- nothing is taken
pub hashes_none : (hash : DataHash) → HashesOn [] hash hash
hashes_none hash bank taken holds =
    let P = λ (l : List ℕ). HoldsData hash bank l in subst P (sym (append-nil taken)) holds

-- more is taken
pub hashes_more : (a b : List ℕ) (x y z : DataHash) → HashesOn a x y → HashesOn b y z → HashesOn (a ++ b) x z
hashes_more a b x y z first second bank taken holds =
    let P = λ (l : List ℕ). HoldsData z bank l in
    subst P (append_assoc taken a b) (second bank (taken ++ a) (first bank taken holds))
