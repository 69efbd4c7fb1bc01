-- One of each name is kept of the sorted ones.
use Rattle.std.proofs.Common.{rules, bytes_eq}
use Rattle.std.proofs.lemmas.Fn.{dedup_same}
use Rattle.boot_entries.proofs.OnceNames.{names_distinct, names_among, names_all}
use Rattle.boot_entries.proofs.once.each_name_once.Goals as goal

pub returns-clause-distinct : goal.returns-clause-distinct
returns-clause-distinct c =
    names_distinct c.args.names.items c.sort_names.new.names.items c.dedup_by.new.self.items c.in_ok-sort_names.ensures.same c.in_ok-sort_names.ensures.sorted
    (dedup_same _ bytes_eq _ (λ x y b f' x' y' k. search rules) _ _ c.dedup_by.ensures.filtered)

pub returns-clause-among : goal.returns-clause-among
returns-clause-among c =
    names_among c.args.names.items c.sort_names.new.names.items c.dedup_by.new.self.items c.in_ok-sort_names.ensures.same c.in_ok-sort_names.ensures.sorted
    (dedup_same _ bytes_eq _ (λ x y b f' x' y' k. search rules) _ _ c.dedup_by.ensures.filtered)

pub returns-clause-all : goal.returns-clause-all
returns-clause-all c =
    names_all c.args.names.items c.sort_names.new.names.items c.dedup_by.new.self.items c.in_ok-sort_names.ensures.same c.in_ok-sort_names.ensures.sorted
    (dedup_same _ bytes_eq _ (λ x y b f' x' y' k. search rules) _ _ c.dedup_by.ensures.filtered)
