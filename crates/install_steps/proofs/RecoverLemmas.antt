-- A recovery: what is read of an intent, and how its parts come to a whole.
use Rattle.std.proofs.Common.{◌≡◌, ◌⊎◌, inl, inr, ⊎_elim, ℕ, ◌<◌, ◌≤◌, true, List, [], length, drop, Option, Some, None, is_some, unwrap_or, refl, sym, ap, ◌∙◌, subst, arith, take_all, option_and_then, option_map}
use Rattle.std.specs.FinMap as map
use Rattle.boot_base.specs.Paths.{Path, intent, read_intent}
use Rattle.boot_base.proofs.IntentForm.{read-long}
use Rattle.boot_machine.specs.Prelude.{Files, State, HasOneCandidate, has, intent_names, recovered_view, IsImage, IsFirm, IsSettled, Timeline, EachSince, fill_with_zeros, contents}
use Rattle.boot_machine.specs.declared.machine.Printed.{Printed}
use Rattle.boot_machine.proofs.Elapsing.{joined, weaken}
use Rattle.boot_machine.proofs.Filling.{fill_with_zeros-inside}
use Rattle.install_steps.specs.Recovery.{RecoversTo, SameFrom, SeesSame, StaysOrSame}
use Rattle.install_steps.specs.Steps.{Sees, StepsTo}

-- an intent that is there is read from its bytes
pub intended_at : (m : Files) → has m intent ≡ true → intent_names m ≡ read_intent (contents m intent)
intended_at m there = by_cases (map.get m intent) there
  where
    by_cases : (o : Option (List ℕ)) → is_some o ≡ true → option_and_then read_intent o ≡ read_intent (unwrap_or o [])
    by_cases None e = cc
    by_cases (Some bytes) e = refl

-- a file that is too long is no intent
pub none_long : (m : Files) (size : ℕ) → has m intent ≡ true → size ≡ length (contents m intent) → 2050 < size → None ≡ intent_names m
none_long m size there is long = sym (intended_at m there ∙ read-long (contents m intent) (omega (arith, is, long)))

-- a whole file is read
pub read_whole : (file bytes : List ℕ) (count : ℕ) → bytes ≡ fill_with_zeros (drop 0 file) count → count ≡ length file → bytes ≡ file
read_whole file bytes count is long = is ∙ fill_with_zeros-inside file count (omega (arith, long)) ∙ take_all count file (omega (arith, long))

-- a file with a size is there
pub size_there : (m : Files) (q : Path) (found : Option ℕ) (size : ℕ) → found ≡ option_map length (map.get m q) → found ≡ Some size → (has m q ≡ true) × (size ≡ length (contents m q))
size_there m q found size row is = by_cases (map.get m q) (sym row ∙ is)
  where
    by_cases : (o : Option (List ℕ)) → option_map length o ≡ Some size → (is_some o ≡ true) × (size ≡ length (unwrap_or o []))
    by_cases None e = cc
    by_cases (Some bytes) e = (refl, cc)

module _ {D : Type 0} (time : Timeline D) (state : D → State) (old mid new : D) where
  either : (v w : Files) (m : Files) → (recovered_view m ≡ v) ⊎ (recovered_view m ≡ w) → w ≡ v → recovered_view m ≡ v
  either v w m sees is = ⊎_elim (λ one. one) (λ two. two ∙ is) sees

  -- the names were synced, and the rest is a step that boot doesn't see
  module _ (stays : EachSince time old mid (λ m o. IsImage (state old) m × (o ≡ (state old).printed))) (files : (state mid).files ≡ (state old).files)
      (printed : (state mid).printed ≡ (state old).printed)
      (step : StepsTo time state (recovered_view (state mid).files) mid new) where
    seen : recovered_view (state mid).files ≡ recovered_view (state old).files
    seen = ap recovered_view files

    same : (m : Files) (o : List Printed) → Sees (state mid) (recovered_view (state mid).files) m o → SeesSame (state old) m o
    same m o sees = (either (recovered_view (state mid).files) _ m sees.0 refl ∙ seen, sees.1 ∙ printed)

    now : recovered_view (state new).files ≡ recovered_view (state mid).files
    now = either (recovered_view (state mid).files) _ (state new).files step.files refl

    pub settled_now : ((t : ℕ) (m : Files) → t ≤ time.clock new → IsImage (state new) m → time.since new t m (state new).printed) → IsSettled (state new)
    settled_now counts_now = record {
      firm = step.firm;
      images = λ m image. either (recovered_view (state mid).files) _ m (step.moments.each m (state new).printed (counts_now (time.clock mid) m step.moments.later image)).0 refl ∙ sym now;
    }

    pub same_from : HasOneCandidate (state mid) → SameFrom time state old new
    same_from one = record {
      synced = mid;
      until = stays;
      one = one;
      files = files;
      from = weaken time state _ (SeesSame (state old)) mid new same step.moments;
    }

    pub recovers_on : HasOneCandidate (state mid) → ((t : ℕ) (m : Files) → t ≤ time.clock new → IsImage (state new) m → time.since new t m (state new).printed) → RecoversTo time state old new
    recovers_on one counts_now = record {
      moments = joined time state (StaysOrSame (state old)) old mid new
          (weaken time state _ (StaysOrSame (state old)) old mid (λ m o was. (inl was.0, was.1)) stays)
          (weaken time state _ (StaysOrSame (state old)) mid new (λ m o sees. let one = same m o sees in (inr one.0, one.1)) step.moments);
      firm = step.firm;
      files = now ∙ seen;
      synced = inr (settled_now counts_now, same_from one);
    }

  -- the names weren't synced
  pub recovers_not : EachSince time old new (λ m o. IsImage (state old) m × (o ≡ (state old).printed)) → IsFirm (state old) → state new ≡ state old → RecoversTo time state old new
  recovers_not stays firm is = record {
    moments = weaken time state _ (StaysOrSame (state old)) old new (λ m o was. (inl was.0, was.1)) stays;
    firm = subst IsFirm (sym is) firm;
    files = ap (λ (s : State). recovered_view s.files) is;
    synced = inl (record { same = is; moments = stays });
  }

  -- of a settled machine
  pub same_all : IsSettled (state old) → EachSince time old new (StaysOrSame (state old)) → EachSince time old new (SeesSame (state old))
  same_all settled moments = weaken time state (StaysOrSame (state old)) (SeesSame (state old)) old new
      (λ m o either. (⊎_elim (λ image. settled.images m image) (λ one. one) either.0, either.1)) moments
