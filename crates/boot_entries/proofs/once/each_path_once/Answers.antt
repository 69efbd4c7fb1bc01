-- One entry of each path is kept of the sorted ones.
use Rattle.std.proofs.Common.{rules}
use Rattle.std.proofs.lemmas.Fn.{dedup_same}
use Rattle.boot_entries.proofs.OncePaths.{same_path, once_own, once_among, once_all}
use Rattle.boot_entries.proofs.once.each_path_once.Goals as goal

pub returns-clause-own_paths : goal.returns-clause-own_paths
returns-clause-own_paths c =
    once_own c.args.items.items c.sort_by_path.new.items.items c.dedup_by.new.self.items c.in_ok-sort_by_path.ensures.same c.in_ok-sort_by_path.ensures.sorted
    (dedup_same _ same_path _ (λ x y b f' x' y' k. search rules) _ _ c.dedup_by.ensures.filtered)

pub returns-clause-among : goal.returns-clause-among
returns-clause-among c =
    once_among c.args.items.items c.sort_by_path.new.items.items c.dedup_by.new.self.items c.in_ok-sort_by_path.ensures.same c.in_ok-sort_by_path.ensures.sorted
    (dedup_same _ same_path _ (λ x y b f' x' y' k. search rules) _ _ c.dedup_by.ensures.filtered)

pub returns-clause-all : goal.returns-clause-all
returns-clause-all c =
    once_all c.args.items.items c.sort_by_path.new.items.items c.dedup_by.new.self.items c.in_ok-sort_by_path.ensures.same c.in_ok-sort_by_path.ensures.sorted
    (dedup_same _ same_path _ (λ x y b f' x' y' k. search rules) _ _ c.dedup_by.ensures.filtered)
