use Rattle.std.proofs.Common.{◌↔◌, ◌≤◌, ◌+◌, ◌*◌, ◌⊎◌, length, IfSome}
use Rattle.std.specs.Option.{option_map, option_map_or}
use Rattle.boot_texts.specs.PatternSteps.{MatchesLater, SearchMatches}
use Rattle.boot_texts.specs.Patterns.{PatternMatches}
use Rattle.boot_texts.proofs.pattern.matches.Given as goal

abbrev pub invariant-steps : goal.invariant-steps
invariant-steps l = record {
  same : PatternMatches l.pattern l.text ↔ (PatternMatches l.rest l.left ⊎ SearchMatches (option_map (λ start. (start.0.now, start.1.now)) l.star));
  kept : SearchMatches (option_map (λ start. (start.0.now, start.1.now)) l.star) → MatchesLater l.rest l.left;
  rest_within : length l.rest ≤ length l.pattern;
  star_within : IfSome l.star (λ start. (length start.0.now ≤ length l.pattern) × (length l.left ≤ length start.1.now));
}

abbrev pub decreases-steps : goal.decreases-steps
decreases-steps l = option_map_or (λ start. length start.1.now) l.star (length l.left) * (length l.pattern + 1) + length l.rest
