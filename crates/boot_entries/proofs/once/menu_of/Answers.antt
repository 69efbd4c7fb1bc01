-- A menu has the entries that it was made of.
use Rattle.std.proofs.lemmas.List.Sorted.{Contains-permutation, IsPermutation-sym}
use Rattle.std.proofs.lemmas.Result.{IfOk-weaker}
use Rattle.boot_entries.proofs.OncePaths.{own_moved}
use Rattle.boot_entries.proofs.once.menu_of.Goals as goal

pub returns-clause-own_paths : goal.returns-clause-own_paths
returns-clause-own_paths c =
    IfOk-weaker c.sort_menu.result _ _ (λ menu same. own_moved c.in_ok-once.once.items menu.items same c.in_ok-once.ensures.own_paths) c.sort_menu.ensures.same

pub returns-clause-among : goal.returns-clause-among
returns-clause-among c =
    IfOk-weaker c.sort_menu.result _ _
    (λ menu same item is. c.in_ok-once.ensures.among item (Contains-permutation menu.items c.in_ok-once.once.items item (IsPermutation-sym c.in_ok-once.once.items menu.items same) is))
    c.sort_menu.ensures.same

pub returns-clause-all : goal.returns-clause-all
returns-clause-all c =
    IfOk-weaker c.sort_menu.result _ _
    (λ menu same item is.
    let other = c.in_ok-once.ensures.all item is in
    (other.0, Contains-permutation c.in_ok-once.once.items menu.items other.0 same other.1, other.2))
    c.sort_menu.ensures.same
