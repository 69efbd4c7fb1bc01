-- What waits after notes were added and struck out.
use Rattle.std.proofs.Common.{inl, refl, ℕ, List}
use Rattle.name_syncs.specs.Named.{NameWaits}
use Rattle.memory_folder.specs.Notes.{noted_waits}
use Rattle.memory_folder.specs.declared.notes.Notes.{Notes}

pub name_waits_none : (notes : Notes) (path : List ℕ) → NameWaits (noted_waits notes) (noted_waits notes) path
name_waits_none notes path = record {
  files = λ other waits. waits;
  folders = λ folder waits. inl waits;
  others = record { left = λ sync none. none; fat = refl };
}
