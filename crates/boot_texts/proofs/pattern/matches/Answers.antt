-- A pattern that can't be read has no match, and a new `*` takes the place of the one before.
use Rattle.std.proofs.Common.{inl, inr, arith}
use Rattle.std.proofs.lemmas.Bool.{false≢true}
use Rattle.boot_texts.specs.Patterns.{PatternMatches}
use Rattle.boot_texts.proofs.PatternSearch.{never_behind, run_behind}
use Rattle.boot_texts.proofs.pattern.matches.Goals as goal

pub returns-in-Never : goal.returns-in-Never
returns-in-Never c = (
  λ t. absurd (false≢true t),
  λ m. absurd (elim (c.steps.invariant.same.0 m) as (λ _. ⊥) [
    | inl here ↦ c.in-Never.ensures c.steps.left.now here
    | inr later ↦ never_behind c.steps.rest.now c.in-Never.ensures c.steps.left.now (c.steps.invariant.kept later)
  ]),
)

pub steps-preserved-in-Run : goal.steps-preserved-in-Run
steps-preserved-in-Run c =
    let run = c.in-Run.ensures.1 in
    let here : PatternMatches c.args.pattern.now c.args.text.now → PatternMatches c.steps.rest.now c.steps.left.now = λ m. elim (c.steps.invariant.same.0 m) as (λ _. PatternMatches c.steps.rest.now c.steps.left.now) [
      | inl here ↦ here
      | inr later ↦ run_behind c.steps.rest.now c.in-Run.behind.now run c.steps.left.now (c.steps.invariant.kept later)
    ] in
    record {
      same = (λ m. (run c.steps.left.now).0 (here m), λ m. c.steps.invariant.same.1 (inl ((run c.steps.left.now).1 m)));
      kept = λ m. m;
      rest_within = omega (arith, c.in-Run.ensures.0, c.steps.invariant.rest_within);
      star_within = (omega (arith, c.in-Run.ensures.0, c.steps.invariant.rest_within), omega arith);
    }
