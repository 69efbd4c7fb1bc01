-- What is told of temporary files that were found.
use Rattle.std.proofs.Common.{◌≡◌, [], Result, Ok, Err, IfOk, bytes_eq}
use Rattle.std.specs.List.{IsDistinct}

-- no path is there twice among none
pub distinct_none : IsDistinct bytes_eq []
unfolding IsDistinct
distinct_none = tt

-- what holds of a value on a machine that tells
pub told_of : {X E : Type 0} (r : Result X E) (Told : Type 0) (P : X → Type 0) → (Told → IfOk r P) → IfOk r (λ x. Told → P x)
told_of (Ok x) Told P is = is
told_of (Err e) Told P is = tt

pub of_told : {X E : Type 0} (r : Result X E) (Told : Type 0) (P : X → Type 0) → IfOk r (λ x. Told → P x) → Told → IfOk r P
of_told (Ok x) Told P is told = is told
of_told (Err e) Told P is told = tt
