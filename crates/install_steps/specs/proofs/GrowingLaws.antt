-- Laws of a temporary file that grows by the bytes that it takes.
use Rattle.std.specs.Prelude.{◌≡◌, ℕ, Bool, true, false, IsTrue, List, [], ◌++◌, refl}
use Rattle.std.proofs.Common.{inl, inr, sym, ◌∙◌, subst}
use Rattle.boot_base.specs.Paths.{Path, is_temp}
use Rattle.boot_machine.specs.Disk.{State, has}
use Rattle.boot_machine.specs.Moments.{Timeline}
use Rattle.boot_machine.specs.Reading.{OnlyReads}
use Rattle.boot_machine.specs.Rows.{contents}
use Rattle.install_steps.specs.Appends.{HasAppended, AppendsOnly, IsGrown, GrowsBy, CanGrow, GrowsAlone}
use Rattle.install_steps.specs.proofs.AppendLaws.{only_reads, only_on, only-there, only-source, grown_none, grown_on, grown_once}

grown_left : (p : Path) (s t : State) → has s.files p ≡ true → HasAppended p s t → (more : List ℕ) × IsGrown p more s t
grown_left p s t there (inl is) = ([], subst (λ (v : State). IsGrown p [] s v) (sym is) (grown_none p s))
grown_left p s t there (inr more) = (more.0, grown_once p more.0 s t there more.1)

module _ {D : Type 0} (tells : Bool) (time : Timeline D) (state : D → State) where
  -- while a machine only reads
  pub grows_reads : (p : Path) (old new : D) → (IsTrue tells → OnlyReads time state old new)
      → GrowsAlone tells time state [] p old p new
  grows_reads p old new reads = (
    refl,
    λ told. record {
      appends = only_reads time state p old new (reads told);
      grown = subst (λ (v : State). IsGrown p [] (state old) v) (sym (reads told).same) (grown_none p (state old));
    },
  )

  -- bytes behind bytes
  pub grows_more : (a b : List ℕ) (p q r : Path) (old mid new : D) → GrowsAlone tells time state a p old q mid
      → GrowsAlone tells time state b q mid r new
      → GrowsAlone tells time state (a ++ b) p old r new
  grows_more a b p q r old mid new first second = (
    second.0 ∙ first.0,
    λ told.
        let front : GrowsBy time state p a old mid = first.1 told in
        let back : GrowsBy time state p b mid new =
        subst (λ (x : Path). GrowsBy time state x b mid new) first.0 (second.1 told) in
        record {
          appends = only_on time state p old mid new front.appends back.appends;
          grown = grown_on p a b (state old) (state mid) (state new) front.grown back.grown;
        },
  )

  -- the file is there still
  pub grows_on : (bytes : List ℕ) (p q : Path) (old new : D) → CanGrow tells state p old
      → GrowsAlone tells time state bytes p old q new → CanGrow tells state q new
  grows_on bytes p q old new can grows told =
      let there : (is_temp p ≡ true) × (has (state new).files p ≡ true) =
      ((can told).0, only-there time state p old new (grows.1 told).appends (can told).1) in
      subst (λ (x : Path). (is_temp x ≡ true) × (has (state new).files x ≡ true)) (sym grows.0) there

  -- boot files are as they were
  pub grows_source : (bytes : List ℕ) (p q : Path) (old new : D) (path : Path) → CanGrow tells state p old
      → GrowsAlone tells time state bytes p old q new
      → IsTrue tells → is_temp path ≡ false → contents (state new).files path ≡ contents (state old).files path
  grows_source bytes p q old new path can grows told shown =
      only-source time state p old new path (can told).0 shown (grows.1 told).appends

  -- a call that may have appended less
  pub grows_some : (p : Path) (old new : D) → has (state old).files p ≡ true → AppendsOnly time state p old new
      → (more : List ℕ) × GrowsBy time state p more old new
  grows_some p old new there appends =
      let grown = grown_left p (state old) (state new) there appends.left in
      (grown.0, record { appends = appends; grown = grown.1 })
