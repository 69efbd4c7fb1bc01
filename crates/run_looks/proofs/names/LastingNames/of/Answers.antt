use Rattle.std.proofs.Common.{◌≡◌, Global, true, sym, ap, ◌∙◌, rules, String, string_bytes, map-id}
use Rattle.std.specs.Vec.Iter.{into_iter_steps}
use Rattle.std.proofs.lemmas.Iterator.Adapters.{YieldsList-from_vec}
use Rattle.std.proofs.lemmas.Iterator.Consumers.{YieldsList-end}
use Rattle.std.proofs.lemmas.Iterator.{YieldsList}
use Rattle.std.proofs.lemmas.Map.Text.{hash_set_updates_text}
use Rattle.run_looks.proofs.NameSets.{adds_lasting, contains_lasting, contains_name, has_lasting, same_sets}
use Rattle.run_looks.proofs.names.LastingNames.of.Goals as goal

pub loop-name-preserved-in_ok-insert : goal.loop-name-preserved-in_ok-insert
loop-name-preserved-in_ok-insert c q =
    adds_lasting c.loop-name.yielded c.loop-name.lasting.keys c.insert.new.self.keys c.in-Some.name q (search rules)
    (hash_set_updates_text (string_bytes c.in-Some.name) c.loop-name.lasting c.insert.new.self true c.in_ok-insert.ensures.updates q)
    (c.loop-name.invariant q)

pub returns : goal.returns
returns c =
    let all : YieldsList (into_iter_steps {X = String Global} {Z = Global})
    (λ name. name) c.into_iter-name-iterator.result c.args.names.items =
    YieldsList-from_vec c.args.names.items (search rules) (search rules) in
    let items : c.loop-name.yielded ≡ c.args.names.items =
    sym (map-id c.loop-name.yielded)
    ∙ (YieldsList-end all c.loop-name.yielded c.loop-name.name-iterator c.loop-name.yielded_by _ c.next.new.self c.in-None.is c.next.ensures.steps).0 in
    same_sets _ _ (λ q. contains_name c.loop-name.lasting.keys q ∙ c.loop-name.invariant q
    ∙ ap (λ names. has_lasting names q) items ∙ sym (contains_lasting c.args.names.items q))
