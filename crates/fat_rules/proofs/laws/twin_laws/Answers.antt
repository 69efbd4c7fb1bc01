use Rattle.fat_rules.proofs.Twins.{renames_are_seen, twinless_shares_nothing}
use Rattle.fat_rules.proofs.laws.twin_laws.Goals as goal

pub returns : goal.returns
returns c = record {
  renames = renames_are_seen;
  twins = twinless_shares_nothing;
}
