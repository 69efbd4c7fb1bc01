-- Whether the texts of a record are UTF-8.
use Rattle.std.proofs.Common.{◌≡◌, ℕ, zero, suc, cond, arith, ◌<◌, List, [], ◌∷◌, length, get_or, map, take, Some, None, Bool, true, false, ◌&&◌, ◌==◌, not, Result, Ok, Err, subst, refl, sym, ap, ◌∙◌, IsErr, IsErrAnd, nat_lt}
use Rattle.std.specs.List.{find, list_all, position, prefix_len, slice_get}
use Rattle.std.specs.Option.{option_map_or}
use Rattle.std.specs.Str.{is_utf8}
use Rattle.std.proofs.lemmas.Bool.{and_parts, lt-ltb}
use Rattle.std.proofs.lemmas.List.Folds.{find_at}
use Rattle.serde_json.specs.Data.{string, array}
use Rattle.serde_json.specs.View.{items_of}
use Rattle.list_json.specs.Faults.{TellsText, UntoldFor}
use Rattle.list_json.specs.Menus.{texts_array}
use Rattle.list_json.specs.Objects.{is_text, items_are_text}
use Rattle.list_json.specs.declared.fault.Untold.{Untold}
use Rattle.list_json.specs.declared.fault.Untold.TheVariants as untold

pub items_are_text-strings : (texts : List (List ℕ)) → items_are_text (items_of (map string texts)) ≡ list_all is_utf8 texts
items_are_text-strings [] = refl
items_are_text-strings (text ∷ texts) = ap (λ b. is_utf8 text && b) (items_are_text-strings texts)

pub untold_weaker : (fault : Untold) (a b : Bool) → (a ≡ false → b ≡ false) → UntoldFor a fault → UntoldFor b fault
untold_weaker untold.Memory a b f h = tt
untold_weaker untold.NotText a b f h = f h

pub tells_err : {X : Type 0} (result : Result X Untold) (fault : Untold) (b : Bool) → IsErr result → IsErrAnd result (λ e. e ≡ fault) → UntoldFor b fault → TellsText result b
tells_err (Ok x) fault b failed is why = cc
tells_err (Err e) fault b failed is why = subst (λ f. UntoldFor b f) (sym is) why

-- texts as an array, if there are some
pub some_texts : (texts : List (List ℕ)) → not (length texts == 0) ≡ true → texts_array texts ≡ Some (array (items_of (map string texts)))
some_texts [] some = cc
some_texts (first ∷ later) some = refl

pub texts_are_text : (texts : List (List ℕ)) → not (length texts == 0) ≡ true → option_map_or is_text (texts_array texts) true ≡ list_all is_utf8 texts
texts_are_text texts some = ap (λ value. option_map_or is_text value true) (some_texts texts some) ∙ items_are_text-strings texts

-- the first that fails comes behind those that pass
pub first_failing : {X : Type 0} (p : X → Bool) (xs : List X) (i : ℕ) (d : X) → i < length xs → list_all p (take i xs) ≡ true → p (get_or xs i d) ≡ false → prefix_len (λ x. not (not (p x))) xs ≡ i
first_failing p [] i d inside before here = absurd (omega arith)
first_failing p (x ∷ xs) zero d inside before here = rw here
first_failing p (x ∷ xs) (suc i) d inside before here =
    let parts = and_parts (p x) (list_all p (take i xs)) before in
    let later : prefix_len (λ x. not (not (p x))) xs ≡ i = first_failing p xs i d (omega arith) parts.1 here in
    rw (parts.0, later) (omega arith)

pub first_place : {X : Type 0} (p : X → Bool) (xs : List X) (i : ℕ) (d : X) → i < length xs → list_all p (take i xs) ≡ true → p (get_or xs i d) ≡ false → position (λ x. not (p x)) xs ≡ Some i
first_place p xs i d inside before here =
    let place : prefix_len (λ x. not (not (p x))) xs ≡ i = first_failing p xs i d inside before here in
    ap (λ n. cond (nat_lt n (length xs)) (Some n) None) place ∙ ap (λ b. cond b (Some i) None) (lt-ltb i (length xs) inside)

pub first_found : {X : Type 0} (p : X → Bool) (xs : List X) (i : ℕ) (d : X) → i < length xs → list_all p (take i xs) ≡ true → p (get_or xs i d) ≡ false → find (λ x. not (p x)) xs ≡ slice_get xs i
first_found p xs i d inside before here = find_at (λ x. not (p x)) xs ∙ ap (slice_get xs) (first_failing p xs i d inside before here)

pub none_failing : {X : Type 0} (p : X → Bool) (xs : List X) → list_all p xs ≡ true → find (λ x. not (p x)) xs ≡ None
none_failing p [] all = refl
none_failing p (x ∷ xs) all =
    let parts = and_parts (p x) (list_all p xs) all in
    let later : find (λ y. not (p y)) xs ≡ None = none_failing p xs parts.1 in
    rw (parts.0, later)
