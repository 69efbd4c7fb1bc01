-- A note, and the change behind it.
use Rattle.std.proofs.Common.{◌≡◌, inl, ℕ, Bool, false, List, sym, ◌∙◌, subst, Result, Ok, Err, IfOk, OnOk}
use Rattle.std.specs.declared.alloc.AllocError.{AllocError}
use Rattle.name_syncs.specs.Named.{Covers, NameWaits, RenameWaits}
use Rattle.name_syncs.specs.Waiting.{Waiting}
use Rattle.name_syncs.specs.declared.named.Named.{Named}
use Rattle.name_syncs.proofs.Syncing.{keeps_none}

-- a note was made in these words, and the change behind it is covered by them
pub note_covers : (result : Result (Unit {0}) AllocError) (before after : Bool) (noted made : Named) (new : Waiting)
    → (result ≡ Ok tt) × (after ≡ before) → OnOk result (noted ≡ made) → (before ≡ false → Covers made new)
    → after ≡ false → Covers noted new
note_covers result before after noted made new kept is covers sure =
    let here : noted ≡ made = subst (λ r. OnOk r (noted ≡ made)) kept.0 is in
    subst (λ (n : Named). Covers n new) (sym here) (covers (sym kept.1 ∙ sure))

-- what holds whatever the answer, holds if it is Ok
pub if_ok : {T E P : Type 0} (result : Result T E) → P → IfOk result (λ _. P)
if_ok (Ok _) holds = holds
if_ok (Err _) holds = tt

-- nothing comes or goes
pub name_waits_none : (waits : Waiting) (path : List ℕ) → NameWaits waits waits path
name_waits_none waits path = record {
  files = λ other waiting. waiting;
  folders = λ folder waiting. inl waiting;
  others = (keeps_none waits).others;
}

-- nothing comes or goes in a call that changed nothing
pub name_waits_same : (old new : Waiting) (path : List ℕ) → new ≡ old → NameWaits old new path
name_waits_same old new path is = subst (λ (waits : Waiting). NameWaits old waits path) (sym is) (name_waits_none old path)

pub rename_waits_same : (old new : Waiting) (from to : List ℕ) → new ≡ old → RenameWaits old new from to
rename_waits_same old new from to is = subst (λ (waits : Waiting). RenameWaits old waits from to) (sym is)
    (record {
      files = λ path waiting. inl waiting;
      folders = λ folder waiting. inl waiting;
      others = (keeps_none old).others;
    })
