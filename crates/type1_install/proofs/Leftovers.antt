-- Temporary files beside payloads that are found by the names in their folder.
use Rattle.std.proofs.Common.{◌≡◌, inl, inr, ℕ, true, false, List, [], ◌∷◌, arith, refl, sym, subst, Result, All, Contains}
use Rattle.std.proofs.lemmas.Bool.{cases_Bool}
use Rattle.std.proofs.lemmas.List.Elements.{All-contains, All-weaker, All-contains_itself, All-cons, All-nil, All-tail, All-head, Contains-append_right}
use Rattle.boot_base.specs.Paths.{Path, under}
use Rattle.boot_base.specs.declared.refusal.Refusal.{Refusal}
use Rattle.boot_machine.specs.Prelude.{Files, has, IsNamesOf}
use Rattle.command_plans.specs.Prelude.{ReadErrorFor}
use Rattle.command_plans.specs.declared.read_error.ReadError.{ReadError}
use Rattle.command_plans.specs.declared.read_error.ReadError.TheVariants as read_errors
use Rattle.type1_install.specs.Unnamed.{IsNoRefusal}
use Rattle.type1_install.specs.Sweeping.{HasPayloadTemps, IsBesidePayload, is_payload_temp, temps_beside}

-- every one of these has what each of those has
pub all_among : {X : Type 0} (P : X → Type 0) (xs ys : List X) → ((x : X) → Contains xs x → Contains ys x) → All P ys → All P xs
all_among P xs ys among all = All-weaker (Contains xs) P (λ x is. All-contains P ys x all (among x is)) xs (All-contains_itself xs)

module _ (folder : Path) where
  among_beside : (P : Path → Type 0) (names : List (List ℕ)) → All (λ name. is_payload_temp name ≡ true → P (under folder name)) names → All P (temps_beside folder names)
  among_beside P [] all = All-nil P
  among_beside P (name ∷ names) all = elim (cases_Bool (is_payload_temp name)) [
    | inl temp ↦ rw temp (All-cons P (under folder name) (temps_beside folder names)
        (All-head (λ n. is_payload_temp n ≡ true → P (under folder n)) name names all temp)
        (among_beside P names (All-tail (λ n. is_payload_temp n ≡ true → P (under folder n)) name names all)))
    | inr other ↦ rw other (among_beside P names (All-tail (λ n. is_payload_temp n ≡ true → P (under folder n)) name names all))
  ]

  pub beside_there : (files : Files) (names : List (List ℕ)) → IsNamesOf files folder names → All (λ temp. has files temp ≡ true) (temps_beside folder names)
  beside_there files names are =
      among_beside (λ temp. has files temp ≡ true) names
      (All-weaker (Contains names) (λ name. is_payload_temp name ≡ true → has files (under folder name) ≡ true)
      (λ name is temp. ((are.each name).0 is).1) names (All-contains_itself names))

  pub beside_within : (names : List (List ℕ)) → All (IsBesidePayload folder) (temps_beside folder names)
  beside_within names =
      among_beside (IsBesidePayload folder) names
      (All-weaker (Contains names) (λ name. is_payload_temp name ≡ true → IsBesidePayload folder (under folder name))
      (λ name is temp. (name, temp, refl)) names (All-contains_itself names))

  -- the name's path is among these, if it is that of a temporary file beside a payload
  abbrev IsKept : List Path → List ℕ → Type 0
  IsKept temps name = is_payload_temp name ≡ true → Contains temps (under folder name)

  each_kept : (names : List (List ℕ)) → All (IsKept (temps_beside folder names)) names
  each_kept [] = All-nil (IsKept (temps_beside folder []))
  each_kept (name ∷ names) = elim (cases_Bool (is_payload_temp name)) [
    | inl temp ↦ subst (λ (temps : List Path). All (IsKept temps) (name ∷ names)) (sym (among_more name names temp))
        (All-cons (IsKept (under folder name ∷ temps_beside folder names)) name names (λ is. (0, omega arith, refl))
        (All-weaker (IsKept (temps_beside folder names)) (IsKept (under folder name ∷ temps_beside folder names))
        (λ other kept is. Contains-append_right (under folder name ∷ []) (temps_beside folder names) (under folder other) (kept is)) names (each_kept names)))
    | inr other ↦ subst (λ (temps : List Path). All (IsKept temps) (name ∷ names)) (sym (among_same name names other))
        (All-cons (IsKept (temps_beside folder names)) name names (λ is. absurd (cc (is, other))) (each_kept names))
  ]
    where
      among_more : (name : List ℕ) (names : List (List ℕ)) → is_payload_temp name ≡ true → temps_beside folder (name ∷ names) ≡ under folder name ∷ temps_beside folder names
      among_more name names temp = rw temp refl

      among_same : (name : List ℕ) (names : List (List ℕ)) → is_payload_temp name ≡ false → temps_beside folder (name ∷ names) ≡ temps_beside folder names
      among_same name names other = rw other refl

  pub beside_all : (files : Files) (names : List (List ℕ)) → IsNamesOf files folder names → HasPayloadTemps files folder (temps_beside folder names)
  beside_all files names are name is_name temp there =
      All-contains (IsKept (temps_beside folder names)) names name (each_kept names) ((are.each name).1 (is_name, there)) temp

-- nothing is refused there
pub read_error_any : {X : Type 0} (fault : ReadError) (meant : Result X Refusal) → IsNoRefusal fault → ReadErrorFor fault meant
read_error_any read_errors.Memory meant is = tt
read_error_any read_errors.Disk meant is = tt
read_error_any (read_errors.Refused why) meant is = absurd is
