-- Temporary files that are found, and that are gone.
use Rattle.std.proofs.Common.{◌≡◌, inl, inr, ℕ, true, false, List, [], ◌∷◌, arith, refl, sym, ap, ◌∙◌, subst, is_some, All, Contains, bytes_eq}
use Rattle.std.proofs.lemmas.Bool.{cases_Bool}
use Rattle.std.proofs.lemmas.Cmp.{nat_list_eq_equiv}
use Rattle.std.proofs.lemmas.List.Elements.{All-contains, All-weaker, All-contains_itself, All-cons, All-nil, All-tail, All-head, Contains-append_right}
use Rattle.boot_base.specs.Paths.{Path, is_temp, under}
use Rattle.boot_machine.specs.Prelude.{Files, has, is_listed, IsNamesOf}
use Rattle.install_steps.specs.Steps.{Lacks}
use Rattle.entry_commands.specs.Tidying.{HasLeftovers, IsClean, IsDirectlyIn, leftovers_among}

-- every one of these has what each of those has
pub all_among : {X : Type 0} (P : X → Type 0) (xs ys : List X) → ((x : X) → Contains xs x → Contains ys x) → All P ys → All P xs
all_among P xs ys among all = All-weaker (Contains xs) P (λ x is. All-contains P ys x all (among x is)) xs (All-contains_itself xs)

module _ (folder : Path) where
  among_there : (P : Path → Type 0) (names : List (List ℕ)) → All (λ name. P (under folder name)) names → All P (leftovers_among folder names)
  among_there P [] all = All-nil P
  among_there P (name ∷ names) all = elim (cases_Bool (is_temp name)) [
    | inl temp ↦ rw temp (All-cons P (under folder name) (leftovers_among folder names)
        (All-head (λ n. P (under folder n)) name names all) (among_there P names (All-tail (λ n. P (under folder n)) name names all)))
    | inr other ↦ rw other (among_there P names (All-tail (λ n. P (under folder n)) name names all))
  ]

  pub leftovers_there : (files : Files) (names : List (List ℕ)) → IsNamesOf files folder names → All (λ temp. has files temp ≡ true) (leftovers_among folder names)
  leftovers_there files names are =
      among_there (λ temp. has files temp ≡ true) names
      (All-weaker (Contains names) (λ name. has files (under folder name) ≡ true) (λ name is. ((are.each name).0 is).1) names (All-contains_itself names))

  pub leftovers_within : (files : Files) (names : List (List ℕ)) → IsNamesOf files folder names → All (IsDirectlyIn folder) (leftovers_among folder names)
  leftovers_within files names are =
      among_there (IsDirectlyIn folder) names
      (All-weaker (Contains names) (λ name. IsDirectlyIn folder (under folder name)) (λ name is. (name, ((are.each name).0 is).0, refl)) names (All-contains_itself names))

  -- the name's path is among these, where it is that of a temporary file
  abbrev IsKept : List Path → List ℕ → Type 0
  IsKept temps name = is_temp name ≡ true → Contains temps (under folder name)

  kept_more : (path : Path) (temps : List Path) (name : List ℕ) → IsKept temps name → IsKept (path ∷ temps) name
  kept_more path temps name kept temp = Contains-append_right (path ∷ []) temps (under folder name) (kept temp)

  first_kept : (name : List ℕ) (temps : List Path) → IsKept (under folder name ∷ temps) name
  first_kept name temps temp = (0, omega arith, refl)

  each_kept : (names : List (List ℕ)) → All (IsKept (leftovers_among folder names)) names
  each_kept [] = All-nil (IsKept (leftovers_among folder []))
  each_kept (name ∷ names) = elim (cases_Bool (is_temp name)) [
    | inl temp ↦ subst (λ (temps : List Path). All (IsKept temps) (name ∷ names)) (sym (among_more name names temp))
        (All-cons (IsKept (under folder name ∷ leftovers_among folder names)) name names (first_kept name (leftovers_among folder names))
        (All-weaker (IsKept (leftovers_among folder names)) (IsKept (under folder name ∷ leftovers_among folder names))
        (kept_more (under folder name) (leftovers_among folder names)) names (each_kept names)))
    | inr shown ↦ subst (λ (temps : List Path). All (IsKept temps) (name ∷ names)) (sym (among_same name names shown))
        (All-cons (IsKept (leftovers_among folder names)) name names (λ is. absurd (cc (is, shown))) (each_kept names))
  ]
    where
      among_more : (name : List ℕ) (names : List (List ℕ)) → is_temp name ≡ true → leftovers_among folder (name ∷ names) ≡ under folder name ∷ leftovers_among folder names
      among_more name names temp = rw temp refl

      among_same : (name : List ℕ) (names : List (List ℕ)) → is_temp name ≡ false → leftovers_among folder (name ∷ names) ≡ leftovers_among folder names
      among_same name names shown = rw shown refl

  pub leftovers_all : (files : Files) (names : List (List ℕ)) → IsNamesOf files folder names → HasLeftovers files folder (leftovers_among folder names)
  leftovers_all files names are name is_name temp there =
      All-contains (IsKept (leftovers_among folder names)) names name (each_kept names) ((are.each name).1 (is_name, there)) temp

not_true : true ≡ false → ⊥
not_true is = cc

-- a path that isn't listed differs from each that is
unlisted : (temps : List Path) (q : Path) → is_listed temps q ≡ false → All (λ path. bytes_eq path q ≡ false) temps
unlisted [] q is = All-nil (λ path. bytes_eq path q ≡ false)
unlisted (path ∷ temps) q is = elim (cases_Bool (bytes_eq path q)) [
  | inl same ↦ absurd (not_true (rw same at is))
  | inr other ↦ All-cons (λ path. bytes_eq path q ≡ false) path temps other (unlisted temps q (rw other at is))
]

-- among more paths
pub found_more : (files : Files) (folder : Path) (temps all : List Path) → ((temp : Path) → Contains temps temp → Contains all temp) → HasLeftovers files folder temps → HasLeftovers files folder all
found_more files folder temps all among found name is_name temp there = among (under folder name) (found name is_name temp there)

-- where the temporary files that were found are gone, the folder is clean
pub clean_after : (old new : Files) (folder : Path) (temps : List Path) → HasLeftovers old folder temps → Lacks temps old new → IsClean new folder
clean_after old new folder temps all lacks name is_name temp = elim (cases_Bool (is_listed temps (under folder name))) [
  | inl listed ↦ ap is_some (lacks.files (under folder name)) ∙ rw listed refl
  | inr not_listed ↦ ap is_some (lacks.files (under folder name)) ∙ rw not_listed (elim (cases_Bool (has old (under folder name))) [
    | inl there ↦ absurd (not_true (sym (nat_list_eq_equiv.refl (under folder name))
        ∙ All-contains (λ path. bytes_eq path (under folder name) ≡ false) temps (under folder name) (unlisted temps (under folder name) not_listed) (all name is_name temp there)))
    | inr none ↦ none
  ])
]
