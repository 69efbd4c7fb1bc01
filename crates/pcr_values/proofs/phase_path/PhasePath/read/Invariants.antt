use Rattle.std.proofs.Common.{◌≡◌, filter, map, string_bytes}
use Rattle.pcr_values.specs.Prelude.{is_phase_word}
use Rattle.pcr_values.proofs.phase_path.PhasePath.read.Given as goal

abbrev pub invariant-loop-word : goal.invariant-loop-word
invariant-loop-word l = map string_bytes l.words.items ≡ filter is_phase_word (map (λ word. word.now) l.yielded)
