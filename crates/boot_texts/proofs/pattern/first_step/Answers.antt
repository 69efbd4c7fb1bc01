-- Each arm is one lemma on the pattern's first item.
use Rattle.std.proofs.Common.{◌≡◌, ℕ, List, [], ◌∷◌, length, sym, ap, ◌∙◌, subst, rules, arith, eqb-true}
use Rattle.boot_texts.specs.PatternSteps.{MatchesLater}
use Rattle.boot_texts.specs.Patterns.{PatternMatches}
use Rattle.boot_texts.specs.PatternItems.{item_of}
use Rattle.boot_texts.proofs.PatternSearch.{match_never, match_empty, run_step, short_fails, other_fails, on_match, on_behind, none_of_it, some_of_it}
use Rattle.boot_texts.proofs.pattern.first_step.Goals as goal

pub returns-then-not-is_empty : goal.returns-then-not-is_empty
returns-then-not-is_empty c =
    match_never c.args.pattern.now (sym c.in_default.ensures.value) (some_of_it c.args.pattern.now (sym c.is_empty.ensures ∙ c.if-not-is_empty.true))

pub returns-then-not-is_empty-2 : goal.returns-then-not-is_empty-2
returns-then-not-is_empty-2 c =
    let ends : c.args.pattern.now ≡ [] = none_of_it c.args.pattern.now (eqb-true (length c.args.pattern.now) 0 (sym c.is_empty.ensures ∙ c.if-not-is_empty.false)) in
    λ m. some_of_it c.args.text.now (sym c.is_empty-in_default.ensures ∙ c.if-not-is_empty-2.true)
    (match_empty c.args.text.now (subst (λ (pattern : List ℕ). PatternMatches pattern c.args.text.now) ends m))

pub returns-then-is_any_run : goal.returns-then-is_any_run
returns-then-is_any_run c =
    (c.in-Some.ensures.shorter, run_step c.args.pattern.now (item_of c.in-Some.item) c.in-Some.behind.now (sym c.in-Some.ensures.value) (sym c.is_any_run.ensures ∙ c.if-is_any_run.true))

pub returns-in_default-split_first : goal.returns-in_default-split_first
returns-in_default-split_first c = λ m.
    short_fails c.args.pattern.now (item_of c.in-Some.item) c.in-Some.behind.now (sym c.in-Some.ensures.value) (sym c.is_any_run.ensures ∙ c.if-is_any_run.false)
    (subst (λ (text : List ℕ). PatternMatches c.args.pattern.now text) (none_of_it c.args.text.now c.in_default-split_first.ensures.cases) m)

pub returns-then-takes : goal.returns-then-takes
returns-then-takes c =
    let single = sym c.is_any_run.ensures ∙ c.if-is_any_run.false in
    let is : c.args.text.now ≡ c.in-Some-split_first.byte.now ∷ c.in-Some-split_first.rest.now = search rules in
    let takes_it = sym c.takes.ensures ∙ c.if-takes.true in
    let match = on_match c.args.pattern.now (item_of c.in-Some.item) c.in-Some.behind.now (sym c.in-Some.ensures.value) single c.in-Some-split_first.byte.now c.in-Some-split_first.rest.now takes_it in
    let behind = on_behind c.args.pattern.now (item_of c.in-Some.item) c.in-Some.behind.now (sym c.in-Some.ensures.value) single c.in-Some-split_first.byte.now c.in-Some-split_first.rest.now in (
      c.in-Some.ensures.shorter,
      omega (arith, ap length is),
      (λ m. match.0 (subst (λ (text : List ℕ). PatternMatches c.args.pattern.now text) is m), λ m. subst (λ (text : List ℕ). PatternMatches c.args.pattern.now text) (sym is) (match.1 m)),
      λ m. behind (subst (λ (text : List ℕ). MatchesLater c.args.pattern.now text) is m),
    )

pub returns-else-takes : goal.returns-else-takes
returns-else-takes c =
    let is : c.args.text.now ≡ c.in-Some-split_first.byte.now ∷ c.in-Some-split_first.rest.now = search rules in
    λ m. other_fails c.args.pattern.now (item_of c.in-Some.item) c.in-Some.behind.now (sym c.in-Some.ensures.value) (sym c.is_any_run.ensures ∙ c.if-is_any_run.false)
    c.in-Some-split_first.byte.now c.in-Some-split_first.rest.now (sym c.takes.ensures ∙ c.if-takes.false)
    (subst (λ (text : List ℕ). PatternMatches c.args.pattern.now text) is m)
