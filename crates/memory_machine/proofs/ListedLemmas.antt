-- Names and counts of a list of files.
use Rattle.std.proofs.Common.{◌≡◌, ◌≢◌, ◌⊎◌, inl, inr, ⊎_elim, ℕ, ◌+◌, ◌-◌, ◌<◌, ◌≤◌, Bool, true, false, not, ◌||◌, cond, List, [], ◌∷◌, ◌++◌, length, length-drop, take, drop, get_or, refl, sym, ap, ◌∙◌, subst, arith, is_some, Option, None, bytes_eq, Contains}
use Rattle.std.proofs.lemmas.Bool.{cases_Bool, or_cases, or_right}
use Rattle.std.proofs.lemmas.List.{drop_more, drop_all, take_all, append_cancel_left}
use Rattle.std.proofs.lemmas.List.Elements.{Contains-push, Contains-push_cases, Contains-append_left, Contains-append_right}
use Rattle.std.specs.List.{IsDistinct, AllByRecursion}
use Rattle.std.specs.FinMap as maps
use Rattle.std.specs.Cmp.Lexicographic.{nat_list_cmp_total}
use Rattle.boot_base.specs.Paths.{Path, is_temp, is_file_name, under}
use Rattle.boot_machine.specs.Prelude.{has, view, path_cmp, is_same_path, IsNamesOf, is_listed}
use Rattle.memory_machine.specs.Entries.{files_of, counts_once}
use Rattle.boot_machine.specs.proofs.Maps.{is_same_path-true, same_self, same_files}
use Rattle.memory_machine.specs.declared.files.Entry.{Entry}
use Rattle.memory_machine.proofs.EntryLemmas.{find, get-files_of}
use Rattle.boot_machine.proofs.Listing.{bytes-true}
use Rattle.boot_machine.proofs.Views.{view-insert, view-insert_temp, has-view, get-view}

clash : {b : Bool} → b ≡ true → b ≡ false → ⊥
clash e f = cc

-- Counts

-- the paths that aren't those of temporary files, each once
pub shown_count : List Entry → ℕ
shown_count [] = 0
shown_count (e ∷ es) = cond (counts_once e es) 1 0 + shown_count es

lasting_empty : view maps.empty ≡ maps.empty
lasting_empty = same_files _ _ (λ q. get-view maps.empty q ∙ nothing _ _ (maps.get-empty path_cmp q) ∙ sym (maps.get-empty path_cmp q))
  where
    nothing : (b : Bool) (o : Option (List ℕ)) → o ≡ None → cond b o None ≡ None
    nothing true o e = e
    nothing false o e = refl

counted : (b : Bool) (n k : ℕ) → n ≡ k → cond b n (n + 1) ≡ cond (not b) 1 0 + k
counted true n k e = omega arith
counted false n k e = omega arith

-- as many as boot sees
pub shown-files_of : (es : List Entry) → maps.len (view (files_of es)) ≡ shown_count es
unfolding shown_count
shown-files_of [] = ap maps.len lasting_empty ∙ maps.len-empty path_cmp (List ℕ)
shown-files_of (e ∷ es) = elim (cases_Bool (is_temp e.path)) [
  | inl temp ↦ rw temp (ap maps.len (view-insert_temp (files_of es) e.path e.bytes.items temp) ∙ shown-files_of es ∙ omega arith)
  | inr shown ↦ ap maps.len (view-insert (files_of es) e.path e.bytes.items shown)
      ∙ maps.len-insert nat_list_cmp_total (view (files_of es)) e.path e.bytes.items
      ∙ rw (shown, has-view (files_of es) e.path shown) (counted (has (files_of es) e.path) _ _ (shown-files_of es))
]

-- one entry is counted, or passed over
pub shown_next : (es : List Entry) (i : ℕ) (e : Entry) (b : Bool) (count next all : ℕ) → i < length es → e ≡ get_or es i e → b ≡ counts_once e (take (length es - (i + 1)) (drop (i + 1) es))
    → ((b ≡ true) × (next ≡ count + 1)) ⊎ ((b ≡ false) × (next ≡ count)) → count + shown_count (drop i es) ≡ all → next + shown_count (drop (i + 1) es) ≡ all
unfolding shown_count
shown_next es i e b count next all lt is tested counted so_far =
    let later : take (length es - (i + 1)) (drop (i + 1) es) ≡ drop (i + 1) es = take_all (length es - (i + 1)) (drop (i + 1) es) (omega (arith, length-drop (i + 1) es)) in
    let split : shown_count (drop i es) ≡ cond b 1 0 + shown_count (drop (i + 1) es) =
    ap shown_count (drop_more es i e lt)
    ∙ ap (λ (x : Entry). cond (counts_once x (drop (i + 1) es)) 1 0 + shown_count (drop (i + 1) es)) (sym is)
    ∙ ap (λ (xs : List Entry). cond (counts_once e xs) 1 0 + shown_count (drop (i + 1) es)) (sym later)
    ∙ ap (λ (c : Bool). cond c 1 0 + shown_count (drop (i + 1) es)) (sym tested) in
    elim counted [
      | inl on ↦ let one = rw on.0 at split in omega (arith, one, on.1, so_far)
      | inr off ↦ let none = rw off.0 at split in omega (arith, none, off.1, so_far)
    ]

-- none is left to count
pub shown_end : (es : List Entry) (i count all : ℕ) → length es ≤ i → count + shown_count (drop i es) ≡ all → count ≡ all
unfolding shown_count
shown_end es i count all past so_far = let none = rw (drop_all i es past) at so_far in omega (arith, none)

-- Names

-- one entry more
has-push : (es : List Entry) (e : Entry) (q : Path) → has (files_of (es ++ e ∷ [])) q ≡ (has (files_of es) q || is_same_path q e.path)
has-push es e q = ap is_some (get-files_of (es ++ e ∷ []) q) ∙ found es ∙ ap (λ b. b || is_same_path q e.path) (sym (ap is_some (get-files_of es q)))
  where
    found : (es : List Entry) → is_some (find q (es ++ e ∷ [])) ≡ (is_some (find q es) || is_same_path q e.path)
    found [] = elim (cases_Bool (is_same_path q e.path)) [ inl here ↦ rw here refl | inr off ↦ rw off refl ]
    found (x ∷ es) = elim (cases_Bool (is_same_path q x.path)) [ inl here ↦ rw here refl | inr off ↦ rw off (found es) ]

-- a name that isn't listed differs from each that is
distinct_push : (names : List Path) (name : Path) → IsDistinct bytes_eq names → is_listed names name ≡ false → IsDistinct bytes_eq (names ++ name ∷ [])
unfolding IsDistinct
distinct_push [] name distinct none = (tt, tt)
distinct_push (x ∷ names) name distinct none =
    let parts = apart (bytes_eq x name) (is_listed names name) none in
    (all_push names distinct.0 parts.0, distinct_push names name distinct.1 parts.1)
  where
    apart : (a b : Bool) → (a || b) ≡ false → (a ≡ false) × (b ≡ false)
    apart true b e = absurd (clash refl e)
    apart false b e = (refl, e)

    all_push : (ys : List Path) → AllByRecursion (λ y. bytes_eq x y ≡ false) ys → bytes_eq x name ≡ false → AllByRecursion (λ y. bytes_eq x y ≡ false) (ys ++ name ∷ [])
    all_push [] all last = (last, tt)
    all_push (y ∷ ys) all last = (all.0, all_push ys all.1 last)

listed : (names : List Path) (name : Path) → is_listed names name ≡ true → Contains names name
listed [] name e = absurd (clash e refl)
listed (x ∷ names) name e = elim (or_cases (bytes_eq x name) (is_listed names name) e) [
  | inl here ↦ subst (Contains (x ∷ names)) (bytes-true x name here) (0, omega arith, refl)
  | inr there ↦ Contains-append_right (x ∷ []) names name (listed names name there)
]

pub names_none : (folder : Path) → IsNamesOf (files_of []) folder []
unfolding IsDistinct
names_none folder = record {
  distinct = tt;
  each = λ name. (λ found. absurd (omega (arith, found.1)), λ there. absurd (clash there.1 (ap is_some (maps.get-empty path_cmp (under folder name)))));
}

module _ (es : List Entry) (e : Entry) (folder : Path) (names : List Path) (so_far : IsNamesOf (files_of es) folder names) where
  before : (name : Path) → Contains names name → (is_file_name name ≡ true) × (has (files_of (es ++ e ∷ [])) (under folder name) ≡ true)
  before name found = let was = (so_far.each name).0 found in (was.0, has-push es e (under folder name) ∙ rw was.1 refl)

  -- a file that is there is the new one, or was there
  cases : (name : Path) → has (files_of (es ++ e ∷ [])) (under folder name) ≡ true → (has (files_of es) (under folder name) ≡ true) ⊎ (e.path ≡ under folder name)
  cases name there = ⊎_elim (λ was. inl was) (λ here. inr (sym (is_same_path-true (under folder name) e.path here))) (or_cases (has (files_of es) (under folder name)) (is_same_path (under folder name) e.path) (sym (has-push es e (under folder name)) ∙ there))

  pub names_other : ((name : Path) → is_file_name name ≡ true → e.path ≢ under folder name) → IsNamesOf (files_of (es ++ e ∷ [])) folder names
  names_other off = record {
    distinct = so_far.distinct;
    each = λ name. (before name, λ both. ⊎_elim (λ was. (so_far.each name).1 (both.0, was)) (λ here. absurd (off name both.0 here)) (cases name both.1));
  }

  module _ (name : Path) (file : is_file_name name ≡ true) (is : e.path ≡ under folder name) where
    -- two names in one folder with one path are one
    same_name : (other : Path) → e.path ≡ under folder other → name ≡ other
    same_name other here = cons_injective (append_cancel_left folder (47 ∷ name) (47 ∷ other) (sym is ∙ here))
      where
        cons_injective : {a b : List ℕ} → 47 ∷ a ≡ 47 ∷ b → a ≡ b
        cons_injective e = cc

    pub names_again : is_listed names name ≡ true → IsNamesOf (files_of (es ++ e ∷ [])) folder names
    names_again there = record {
      distinct = so_far.distinct;
      each = λ other. (before other, λ both. ⊎_elim (λ was. (so_far.each other).1 (both.0, was)) (λ here. subst (Contains names) (same_name other here) (listed names name there)) (cases other both.1));
    }

    pub names_push : is_listed names name ≡ false → IsNamesOf (files_of (es ++ e ∷ [])) folder (names ++ name ∷ [])
    names_push none = record {
      distinct = distinct_push names name so_far.distinct none;
      each = λ other. (
        λ found. ⊎_elim (before other) (λ here. subst (λ (n : Path). (is_file_name n ≡ true) × (has (files_of (es ++ e ∷ [])) (under folder n) ≡ true)) here (file, now)) (Contains-push_cases names name other found),
        λ both. ⊎_elim (λ was. Contains-append_left names (name ∷ []) other ((so_far.each other).1 (both.0, was))) (λ here. subst (Contains (names ++ name ∷ [])) (same_name other here) (Contains-push names name)) (cases other both.1),
      );
    }
      where
        now : has (files_of (es ++ e ∷ [])) (under folder name) ≡ true
        now = has-push es e (under folder name) ∙ or_right (has (files_of es) (under folder name)) (is_same_path (under folder name) e.path) (ap (is_same_path (under folder name)) is ∙ same_self (under folder name))
