-- The names that have the suffix are kept, each once.
use Rattle.std.proofs.Common.{◌≡◌, ℕ, List, true, sym, subst, rules, All}
use Rattle.std.proofs.lemmas.Fn.{filter_same}
use Rattle.std.proofs.lemmas.List.Elements.{filter_passes}
use Rattle.menu_order.specs.Splits.{has_suffix}
use Rattle.boot_machine.proofs.Reading.{looks_once}
use Rattle.boot_entries.specs.Scanning.{AreEntryNames}
use Rattle.boot_entries.proofs.Finding.{suffix_names}
use Rattle.boot_entries.proofs.OnceNames.{still_all, still_names}
use Rattle.boot_entries.proofs.names.names_with.Goals as goal

pub returns-in_err-names-clause-looks : goal.returns-in_err-names-clause-looks
returns-in_err-names-clause-looks g c = looks_once (g.met.M.Machine.only_now c.args.machine.now) c.names.ensures.moments (λ told. (c.names.ensures.row told).same) (search rules)

pub returns-in_err-once-clause-looks : goal.returns-in_err-once-clause-looks
returns-in_err-once-clause-looks g c = looks_once (g.met.M.Machine.only_now c.args.machine.now) c.names.ensures.moments (λ told. (c.names.ensures.row told).same) (search rules)

pub returns-clause-looks : goal.returns-clause-looks
returns-clause-looks g c = looks_once (g.met.M.Machine.only_now c.args.machine.now) c.names.ensures.moments (λ told. (c.names.ensures.row told).same) (search rules)

pub returns-clause-names : goal.returns-clause-names
returns-clause-names g c told =
    let kept = filter_same _ (has_suffix c.args.suffix) _ (λ x b f' k. search rules) _ _ c.retain.ensures.filtered in
    let once = c.in_ok-once.ensures in
    still_names c.retain.new.self.items c.in_ok-once.once.items once.distinct once.among (g.M.Machine.state c.args.machine.now).files c.args.folder.now c.args.suffix once.all
    (subst (AreEntryNames (g.M.Machine.state c.args.machine.now).files c.args.folder.now c.args.suffix) (sym kept)
    (suffix_names (g.M.Machine.state c.args.machine.now).files c.args.folder.now c.args.suffix c.in_ok-names.names.items (c.in_ok-names.ensures.row told).names))

pub returns-clause-suffix : goal.returns-clause-suffix
returns-clause-suffix g c =
    let kept = filter_same _ (has_suffix c.args.suffix) _ (λ x b f' k. search rules) _ _ c.retain.ensures.filtered in
    let once = c.in_ok-once.ensures in
    still_all c.retain.new.self.items c.in_ok-once.once.items once.distinct once.among (λ (name : List ℕ). has_suffix c.args.suffix name ≡ true)
    (subst (All (λ (name : List ℕ). has_suffix c.args.suffix name ≡ true)) (sym kept) (filter_passes (has_suffix c.args.suffix) c.in_ok-names.names.items))
