-- The last component of the path of a temporary file is a name of a file.
use Rattle.std.proofs.Common.{◌≡◌, ◌≢◌, ◌⊎◌, inl, inr, ℕ, ◌+◌, ◌-◌, ◌<◌, ◌≤◌, Bool, true, false, ◌||◌, List, [], ◌∷◌, ◌++◌, length, get_or, suc, refl, sym, ap, ◌∙◌, arith, append_assoc, length-append, ◌==◌, nat_lt, nat_le, bytes_eq}
use Rattle.std.specs.List.{list_any, onto_first}
use Rattle.std.proofs.lemmas.Bool.{cases_Bool, and_parts, or_parts, not-true, ltb-false, false_from_ne_true, eqb-true, eq-eqb, le-leb}
use Rattle.std.proofs.Math.Seq.{get_or-append_seam, drop-append-add}
use Rattle.std.proofs.lemmas.List.{get_or-append_right}
use Rattle.std.proofs.lemmas.Slice.Eq.{bytes_eq-Decides}
use Rattle.std.proofs.lemmas.List.Folds.{list_any-append, list_any_at}
use Rattle.boot_base.specs.Paths.{Path, components, is_slash, is_kept, is_refused, is_normal, is_temp, temp_end, is_component, is_file_name, is_temp_path, file_name_of, TempNamesAreFileNames}
use Rattle.boot_base.proofs.LastComponent.{file_name_of-from}
use Rattle.boot_base.proofs.Normal.{normal-no_nul, normal-allowed}
use Rattle.boot_base.proofs.Temp.{is_temp-append, is_temp-behind}

abbrev is_nul : ℕ → Bool
is_nul b = b == 0

abbrev HasNoSlash : List ℕ → Type 0
HasNoSlash bytes = list_any is_slash bytes ≡ false

-- the text has no slash, or is something, a slash and what has none
abbrev CutAtLast : Path → Type 0
CutAtLast p = HasNoSlash p ⊎ ((front : List ℕ) × (name : List ℕ) × (p ≡ front ++ 47 ∷ name) × HasNoSlash name)

cut_more : (b : ℕ) (p : Path) → CutAtLast p → CutAtLast (b ∷ p)
cut_more b p (inl none) = elim (cases_Bool (is_slash b)) [
  | inl slash ↦ inr ([], p, ap (λ (x : ℕ). x ∷ p) (eqb-true b 47 slash), none)
  | inr other ↦ inl (rw other none)
]
cut_more b p (inr (front, name, is, none)) = inr (b ∷ front, name, ap (λ (l : List ℕ). b ∷ l) is, none)

cut_at_last : (p : Path) → CutAtLast p
cut_at_last [] = inl refl
cut_at_last (b ∷ p) = cut_more b p (cut_at_last p)

no_slash_at : (name : List ℕ) (k : ℕ) → HasNoSlash name → k < length name → get_or name k 0 ≢ 47
no_slash_at name k none within is = let here = list_any_at is_slash name k 0 within (eq-eqb _ 47 is) in cc

-- the last component of a text without a slash, and of one with a name behind its last
name-whole : (name : List ℕ) → HasNoSlash name → file_name_of name ≡ name
name-whole name none = file_name_of-from name 0 (omega arith) (λ k from within. no_slash_at name k none within) (λ some. absurd (omega arith))

name-behind : (front name : List ℕ) → HasNoSlash name → file_name_of (front ++ 47 ∷ name) ≡ name
name-behind front name none =
    let p = front ++ 47 ∷ name in
    let long : length p ≡ length front + 1 + length name = omega (arith, length-append front (47 ∷ name)) in
    let last : (k : ℕ) → length front + 1 ≤ k → k < length p → get_or p k 0 ≢ 47 = λ k from within is.
    let at : k - length front ≡ suc (k - (length front + 1)) = omega arith in
    let here = get_or-append_right front (47 ∷ name) (length front) k 0 refl (omega arith) ∙ ap (λ n. get_or (47 ∷ name) n 0) at in
    no_slash_at name (k - (length front + 1)) none (omega (arith, long, from, within)) (sym here ∙ is)
    in
    let slash : get_or p (length front + 1 - 1) 0 ≡ 47 = let e : length front + 1 - 1 ≡ length front = omega arith in ap (λ n. get_or p n 0) e ∙ get_or-append_seam front 47 name 0 in
    file_name_of-from p (length front + 1) (omega (arith, long)) last (λ some. slash) ∙ drop-append-add front (47 ∷ name) 1

components-whole : (name : List ℕ) → HasNoSlash name → components name ≡ name ∷ []
components-whole [] none = refl
components-whole (b ∷ name) none =
    let parts = or_parts (is_slash b) (list_any is_slash name) none in
    rw parts.0 (ap (onto_first b) (components-whole name parts.1))

-- a component behind the last slash is a component of the path
components-behind : (front name : List ℕ) → HasNoSlash name → (first : List ℕ) × (between : List (List ℕ)) × (components (front ++ 47 ∷ name) ≡ first ∷ (between ++ name ∷ []))
components-behind [] name none = ([], [], ap (λ (l : List (List ℕ)). [] ∷ l) (components-whole name none))
components-behind (b ∷ front) name none =
    let rest = components-behind front name none in
    elim (cases_Bool (is_slash b)) [
      | inl slash ↦ ([], rest.0 ∷ rest.1, rw slash (ap (λ (l : List (List ℕ)). [] ∷ l) rest.2))
      | inr other ↦ (b ∷ rest.0, rest.1, rw other (ap (onto_first b) rest.2))
    ]

name_short : (name : List ℕ) → is_refused name ≡ false → length name ≤ 251
name_short name allowed = ltb-false 251 (length name) (or_parts (bytes_eq name (46 ∷ 46 ∷ [])) (nat_lt 251 (length name)) allowed).1

short-whole : (name : List ℕ) → HasNoSlash name → list_any is_refused (components name) ≡ false → length name ≤ 251
short-whole name none allowed =
    name_short name (or_parts (is_refused name) false (ap (list_any is_refused) (sym (components-whole name none)) ∙ allowed)).0

short-behind : (front name : List ℕ) → HasNoSlash name → list_any is_refused (components (front ++ 47 ∷ name)) ≡ false → length name ≤ 251
short-behind front name none allowed =
    let cut = components-behind front name none in
    let all = or_parts (is_refused cut.0) (list_any is_refused (cut.1 ++ name ∷ [])) (ap (list_any is_refused) (sym cut.2) ∙ allowed) in
    let last = or_parts (list_any is_refused cut.1) (list_any is_refused (name ∷ [])) (sym (list_any-append is_refused cut.1 (name ∷ [])) ∙ all.1) in
    name_short name (or_parts (is_refused name) false last.1).0

no_nul-behind : (front name : List ℕ) → list_any is_nul (front ++ 47 ∷ name) ≡ false → list_any is_nul name ≡ false
no_nul-behind front name none =
    (or_parts (is_nul 47) (list_any is_nul name) (or_parts (list_any is_nul front) (list_any is_nul (47 ∷ name)) (sym (list_any-append is_nul front (47 ∷ name)) ∙ none)).1).1

unlike_longer : (x y : List ℕ) → length y < length x → bytes_eq x y ≡ false
unlike_longer x y long = false_from_ne_true (bytes_eq x y) (λ is. absurd (omega (arith, long, ap length ((bytes_eq-Decides x y).0 is))))

-- more than two bytes without slash and NUL, and not too many, are a name of a file
file_name-from : (x : List ℕ) → 2 < length x → HasNoSlash x → list_any is_nul x ≡ false → length x ≤ 255 → is_file_name x ≡ true
unfolding is_file_name
file_name-from x some slash nul short =
    let one = unlike_longer x (46 ∷ []) (omega arith) in
    let two = unlike_longer x (46 ∷ 46 ∷ []) some in
    let not_empty : (length x == 0) ≡ false = false_from_ne_true _ (λ is. absurd (omega (arith, some, eqb-true (length x) 0 is))) in
    let within : nat_le (length x) 255 ≡ true = le-leb _ _ short in
    rw (not_empty, one, slash, two, nul, within) refl

temp_name : (name : List ℕ) → HasNoSlash name → list_any is_nul name ≡ false → length name ≤ 251 → is_file_name (name ++ temp_end) ≡ true
temp_name name slash nul short =
    let long : length (name ++ temp_end) ≡ length name + 4 = omega (arith, length-append name temp_end) in
    file_name-from (name ++ temp_end) (omega (arith, long))
    (list_any-append is_slash name temp_end ∙ ap (λ b. b || false) slash)
    (list_any-append is_nul name temp_end ∙ ap (λ b. b || false) nul)
    (omega (arith, long, short))

no_slash-temp : (name : List ℕ) → HasNoSlash name → HasNoSlash (name ++ temp_end)
no_slash-temp name none = list_any-append is_slash name temp_end ∙ ap (λ b. b || false) none

-- The name of a temporary file of a path in normal form.
pub temp_names : TempNamesAreFileNames
temp_names path normal = by_cut (cut_at_last path)
  where
    by_cut : CutAtLast path → is_file_name (file_name_of (path ++ temp_end)) ≡ true
    by_cut (inl none) =
        ap is_file_name (name-whole (path ++ temp_end) (no_slash-temp path none))
        ∙ temp_name path none (normal-no_nul path normal) (short-whole path none (normal-allowed path normal))
    by_cut (inr (front, name, is, none)) =
        let whole : path ++ temp_end ≡ front ++ 47 ∷ (name ++ temp_end) = ap (λ (l : List ℕ). l ++ temp_end) is ∙ append_assoc front (47 ∷ name) temp_end in
        let nul = no_nul-behind front name (ap (list_any is_nul) (sym is) ∙ normal-no_nul path normal) in
        let short = short-behind front name none (ap (λ l. list_any is_refused (components l)) (sym is) ∙ normal-allowed path normal) in
        ap (λ l. is_file_name (file_name_of l)) whole
        ∙ ap is_file_name (name-behind front (name ++ temp_end) (no_slash-temp name none))
        ∙ temp_name name none nul short

pub temp_path-of : (path : Path) → is_normal path ≡ true → is_temp_path (path ++ temp_end) ≡ true
unfolding is_temp_path
temp_path-of path normal = rw (is_temp-append path) (temp_names path normal)

file_name-no_slash : (name : List ℕ) → is_file_name name ≡ true → HasNoSlash name
unfolding is_file_name
file_name-no_slash name is =
    let component = (and_parts (is_component name) _ (and_parts _ _ (and_parts _ _ is).0).0).0 in
    not-true _ (and_parts (is_kept name) _ component).1

-- a temporary file in a folder, of a name that ends in `.tmp`
pub temp_path-behind : (folder name : List ℕ) → is_temp name ≡ true → is_file_name name ≡ true → is_temp_path (folder ++ 47 ∷ name) ≡ true
unfolding is_temp_path
temp_path-behind folder name temp is =
    rw (is_temp-behind folder (47 ∷ name) (is_temp-behind (47 ∷ []) name temp)) (ap is_file_name (name-behind folder name (file_name-no_slash name is)) ∙ is)

pub temp_path-temp : (path : Path) → is_temp_path path ≡ true → is_temp path ≡ true
unfolding is_temp_path
temp_path-temp path is = (and_parts (is_temp path) (is_file_name (file_name_of path)) is).0

pub temp_path-name : (path : Path) → is_temp_path path ≡ true → is_file_name (file_name_of path) ≡ true
unfolding is_temp_path
temp_path-name path is = (and_parts (is_temp path) (is_file_name (file_name_of path)) is).1
