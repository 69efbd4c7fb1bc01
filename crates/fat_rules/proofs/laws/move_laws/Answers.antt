use Rattle.fat_rules.proofs.Entries.{names_are_of_one_entry, own_moves_are_believed}
use Rattle.fat_rules.proofs.laws.move_laws.Goals as goal

pub returns : goal.returns
returns c = record {
  names = names_are_of_one_entry;
  moves = own_moves_are_believed;
}
