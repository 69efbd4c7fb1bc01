use Rattle.std.proofs.Common.{◌≡◌, ℕ, List, take, map, bytes_eq, nat_cmp}
use Rattle.std.specs.BTreeSet.{contains}
use Rattle.std.specs.Cmp.Lexicographic.{pointwise, slice_cmp}
use Rattle.std.specs.List.{list_any}
use Rattle.pcr_values.specs.Prelude.{phase_words}
use Rattle.command_plans.specs.Prelude.{without_repeats}
use Rattle.command_plans.proofs.choices.paths_named.Given as goal

abbrev pub invariant-loop-text : goal.invariant-loop-text
invariant-loop-text l = record {
  value : l.paths.items ≡ without_repeats (pointwise bytes_eq) (map phase_words (take l.text-index l.texts));
  seen : (path : List (List ℕ)) → contains (slice_cmp (slice_cmp nat_cmp)) l.seen path ≡ list_any (λ kept. pointwise bytes_eq kept path) l.paths.items;
}
