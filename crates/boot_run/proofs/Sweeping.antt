-- Temporary files that are taken away behind a recovery.
use Rattle.std.proofs.Common.{◌≡◌, ◌⊎◌, inl, inr, ⊎_elim, ℕ, ◌-◌, ◌≤◌, true, false, length, nat_eq, take, List, [], ◌∷◌, refl, sym, ap, ◌∙◌, subst, Result, Ok, Err, All, Contains, arith, bytes_eq, is_some}
use Rattle.std.specs.FinMap.{get}
use Rattle.std.proofs.lemmas.Bool.{and_parts, cases_Bool}
use Rattle.std.proofs.lemmas.Bool.Decides.{Decides-eqb}
use Rattle.boot_base.specs.Paths.{Path, is_temp}
use Rattle.boot_machine.specs.Prelude.{Files, State, has, is_listed, recovered_now, recovered_view, view, IsImage, Timeline, Sent}
use Rattle.boot_machine.proofs.Elapsing.{joined, weaken}
use Rattle.boot_machine.proofs.Views.{view_from}
use Rattle.tool_words.specs.declared.action.Action.{Action}
use Rattle.tool_words.specs.declared.command.Several.{Several}
use Rattle.tool_words.specs.declared.command.Several.TheVariants as several
use Rattle.boot_commands.specs.Expanding.{RefusedOrDone, StandsFor}
use Rattle.boot_commands.specs.Expansions.{expansion}
use Rattle.boot_commands.specs.Sweeps.{KeepsUnswept, MaySweep}
use Rattle.boot_commands.proofs.SweptTemps.{listed_has, not_true, temp_swept}
use Rattle.install_steps.specs.Recovery.{RecoversTo, SameFrom, SeesSame, StaysOrSame}
use Rattle.install_steps.proofs.LeftoverLemmas.{lacks_none}
use Rattle.install_steps.specs.Steps.{Keeps, KeepsTempsBut, Lacks, NoNewTemp, Sees, StepsTo}

module _ {D : Type 0} (time : Timeline D) (state : D → State) (old mid new : D) (recovers : RecoversTo time state old mid) (from : SameFrom time state old mid)
    (printed : (state mid).printed ≡ (state old).printed) (step : StepsTo time state (recovered_now (state mid)) mid new) where
  one_view : (m : Files) → (recovered_view m ≡ recovered_view (state mid).files) ⊎ (recovered_view m ≡ recovered_view (state mid).files) → recovered_view m ≡ recovered_view (state mid).files
  one_view m sees = ⊎_elim (λ one. one) (λ two. two) sees

  same : (m : Files) (o : Sent) → Sees (state mid) (recovered_now (state mid)) m o → SeesSame (state old) m o
  same m o sees = (one_view m sees.0 ∙ recovers.files, sees.1 ∙ printed)

  pub same_swept : SameFrom time state old new
  same_swept = record {
    synced = from.synced;
    until = from.until;
    one = from.one;
    files = from.files;
    from = joined time state (SeesSame (state old)) from.synced mid new from.from
        (weaken time state (Sees (state mid) (recovered_now (state mid))) (SeesSame (state old)) mid new same step.moments);
  }

  pub recovers_swept : ((t : ℕ) (m : Files) → t ≤ time.clock new → IsImage (state new) m → time.since new t m (state new).printed) → RecoversTo time state old new
  recovers_swept counts_now =
      let now : recovered_view (state new).files ≡ recovered_view (state mid).files = one_view (state new).files step.files in
      record {
        moments = joined time state (StaysOrSame (state old)) old mid new recovers.moments
            (weaken time state (Sees (state mid) (recovered_now (state mid))) (StaysOrSame (state old)) mid new
            (λ m o sees. let one = same m o sees in (inr one.0, one.1)) step.moments);
        firm = step.firm;
        files = now ∙ recovers.files;
        synced = inr (
          record {
            firm = step.firm;
            images = λ m image. one_view m (step.moments.each m (state new).printed (counts_now (time.clock mid) m step.moments.later image)).0 ∙ sym now;
          },
          same_swept,
        );
      }

-- no path is listed among none
pub none_lacks : (temps : List Path) (m : Files) → nat_eq (length temps) 0 ≡ true → Lacks temps m m
none_lacks [] m is = lacks_none m
none_lacks (temp ∷ temps) m is =
    let none : length (temp ∷ temps) ≡ 0 = (Decides-eqb (length (temp ∷ temps)) 0).0 is in
    absurd (omega arith)

-- so boot sees the same
pub same_view : (c : Several) (temps : List Path) (old new : Files) → All (MaySweep c) temps → Lacks temps old new → view new ≡ view old
same_view c temps old new may lacks = view_from new old (λ q shown. elim (cases_Bool (is_listed temps q)) [
  | inl listed ↦ absurd (not_true (sym (temp_swept c q (listed_has (MaySweep c) temps q may listed)) ∙ shown))
  | inr other ↦ lacks.files q ∙ rw other refl
])

-- and the actions are those of the command still
pub stands_on : (c : Several) (actions : List Action) (old new : State) → view new.files ≡ view old.files → StandsFor old c actions → StandsFor new c actions
stands_on c actions old new same stands = record {
  are = stands.are ∙ ap (λ v. expansion v c) (sym same);
  some = stands.some;
  unrefused = subst (λ v. RefusedOrDone v actions) (sym same) stands.unrefused;
}

-- each temporary file but those of the command is as it was
pub unswept_kept : (c : Several) (temps : List Path) (old mid listed new : State) → All (MaySweep c) temps → KeepsTempsBut [] old.files mid.files → listed ≡ mid
    → KeepsTempsBut temps listed.files new.files → KeepsUnswept c old.files new.files
unswept_kept c temps old mid listed new may first same second q temp not = elim (cases_Bool (is_listed temps q)) [
  | inl there ↦ absurd (not (listed_has (MaySweep c) temps q may there))
  | inr other ↦ second q temp other ∙ ap (λ (s : State). get s.files q) same ∙ first q temp refl
]

-- nothing has gone yet
pub kept_so_far : (c : Several) (old mid new : State) → KeepsTempsBut [] old.files mid.files → new ≡ mid → KeepsUnswept c old.files new.files
kept_so_far c old mid new first same q temp not = ap (λ (s : State). get s.files q) same ∙ first q temp refl

-- and none is new
pub none_new : (temps : List Path) (old new : State) → All (λ temp. has old.files temp ≡ true) temps → KeepsTempsBut temps old.files new.files → NoNewTemp old new
none_new temps old new there keeps q temp has_new = elim (cases_Bool (is_listed temps q)) [
  | inl listed ↦ listed_has (λ temp. has old.files temp ≡ true) temps q there listed
  | inr other ↦ ap is_some (sym (keeps q temp other)) ∙ has_new
]

pub keeps_on : (old mid listed new : State) → Keeps old mid → listed ≡ mid → Keeps listed new → Keeps old new
keeps_on old mid listed new first same second = record {
  printed = second.printed ∙ ap (λ (s : State). s.printed) same ∙ first.printed;
  input = second.input ∙ ap (λ (s : State). s.input) same ∙ first.input;
}
