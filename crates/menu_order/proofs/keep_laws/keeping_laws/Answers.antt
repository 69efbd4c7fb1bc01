-- The laws of keeping the newest.
use Rattle.menu_order.proofs.Again.{keeps_on}
use Rattle.menu_order.proofs.Counting.{keeps_few, keeps_first, keeps_good}
use Rattle.menu_order.proofs.Groups.{keeps_group}
use Rattle.menu_order.proofs.Once.{keeps_once}
use Rattle.menu_order.proofs.Parting.{parts_menu}
use Rattle.menu_order.proofs.Placing.{places_descend, places_doomed}
use Rattle.menu_order.proofs.Without.{kept_without}
use Rattle.menu_order.proofs.keep_laws.keeping_laws.Goals as goal

pub returns : goal.returns
returns c = record {
  parts = parts_menu;
  places = places_doomed;
  descend = places_descend;
  group = keeps_group;
  first = λ n per_key menu group. keeps_first n per_key group menu;
  few = λ n per_key menu group. keeps_few n per_key group menu;
  good = λ n per_key menu group. keeps_good n per_key group menu;
  once = keeps_once;
  without = kept_without;
  on = keeps_on;
}
