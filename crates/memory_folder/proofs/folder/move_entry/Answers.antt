use Rattle.std.proofs.Common.{◌≡◌, Bool, rules, tests, option_map, ap, sym, ◌∙◌, bytes_eq, true, false, refl}
use Rattle.std.proofs.lemmas.Fn.{filter_same}
use Rattle.memory_folder.specs.declared.entry.Entry.{Entry}
use Rattle.memory_folder.proofs.Kept.{kept_after_move}
use Rattle.memory_folder.proofs.Moved.{stays, none_left, moved_there}
use Rattle.std.proofs.lemmas.Slice.Eq.{bytes_eq-Decides}
use Rattle.std.proofs.lemmas.Bool.{eq-eqb, false_from_ne_true}
use Rattle.memory_folder.proofs.Place.{found_passes, found_there, place_within}
use Rattle.memory_folder.proofs.folder.move_entry.Goals as goal

pub returns : goal.returns
returns c =
    let from = c.args.from.now in
    let to = c.args.to.now in
    let old = c.index_mut-entry.result.now in
    let moved : Entry = record { path = c.args.path; kind = old.kind; bytes = old.bytes; inode = old.inode } in
    let entries = c.args.entries.now.items in
    let at = c.args.at in
    let is_at : Entry → Bool = λ (entry : Entry). bytes_eq entry.path from in
    let inside = place_within is_at entries at c.requires.place in
    let value = c.index_mut-entry.ensures.value in
    let first = found_there is_at entries at old c.requires.place inside value in
    let was : old.path ≡ from = (bytes_eq-Decides old.path from).0 (found_passes is_at entries old first) in
    let left : bytes_eq moved.path from ≡ false =
    false_from_ne_true _ (λ is. c.requires.other (sym ((bytes_eq-Decides moved.path from).0 is) ∙ c.requires.path)) in
    let here : bytes_eq moved.path to ≡ true = (bytes_eq-Decides moved.path to).1 c.requires.path in
    let there = moved_there entries at moved from to inside left here (eq-eqb old.inode old.inode refl) in
    let is = filter_same _ (stays from to old.inode) _ (λ x b f' k. search (rules, tests)) _ _ c.retain.ensures.filtered in
    record {
      there = rw is (there ∙ sym (ap (option_map (λ (entry : Entry). entry.inode)) first));
      left = rw is (none_left _ from to old.inode);
      kept = λ other not_from not_to.
          rw is (kept_after_move entries at old moved from to other value was c.requires.path not_from not_to);
    }
