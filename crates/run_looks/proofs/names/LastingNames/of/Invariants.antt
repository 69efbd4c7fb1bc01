use Rattle.std.proofs.Common.{◌≡◌, ℕ, List}
use Rattle.run_looks.proofs.NameSets.{has_lasting, has_name}
use Rattle.run_looks.proofs.names.LastingNames.of.Given as goal

-- of the names so far those of temporary files are left out
abbrev pub invariant-loop-name : goal.invariant-loop-name
invariant-loop-name l = (q : List ℕ) → has_name l.lasting.keys q ≡ has_lasting l.yielded q
