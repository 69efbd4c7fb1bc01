use Rattle.std.proofs.Common.{◌≡◌, ◌∙◌, ℕ, List, ap, not, rules, bytes_eq}
use Rattle.std.proofs.lemmas.Fn.{filter_same}
use Rattle.name_syncs.specs.Paths.{paths_without}
use Rattle.memory_folder.proofs.Sets.{without_adds, without_gone}
use Rattle.memory_folder.proofs.path_set.PathSet.remove.Goals as goal

pub returns : goal.returns
returns c =
    let paths = c.args.self.now in
    let path = c.args.path.now in
    let is : c.retain.new.self.items ≡ paths_without paths path =
    filter_same _ (λ (known : List ℕ). not (bytes_eq known path)) _ (λ x b f' k. search rules) _ _ c.retain.ensures.filtered
    ∙ ap (λ (known : List (List ℕ)). paths_without known path) c.self.view_is in
    record {
      rest = is;
      gone = rw is (without_gone paths path);
      adds = rw is (without_adds paths path);
    }
