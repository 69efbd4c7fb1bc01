use Rattle.name_syncs.proofs.Noted.{folders_are_above, names_are_covered, noted_are_listed, renames_are_covered, settled_are_covered}
use Rattle.name_syncs.proofs.laws.note_laws.Goals as goal

pub returns : goal.returns
returns c = record {
  above = folders_are_above;
  listed = noted_are_listed;
  names = names_are_covered;
  renames = renames_are_covered;
  settled = settled_are_covered;
}
