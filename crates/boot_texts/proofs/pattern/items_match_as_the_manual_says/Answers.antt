use Rattle.std.proofs.Common.{List, ℕ, [], sym, subst}
use Rattle.boot_texts.specs.Patterns.{PatternMatches}
use Rattle.boot_texts.proofs.PatternSearch.{match_empty, match_ends}
use Rattle.boot_texts.proofs.PatternLaws.{escape_matches, members_are_between, one_reading, plain_matches, question_matches, set_matches, star_matches, unreadable}
use Rattle.boot_texts.proofs.pattern.items_match_as_the_manual_says.Goals as goal

pub returns-clause-empty : goal.returns-clause-empty
returns-clause-empty c = λ text. (match_empty text, λ is. subst (λ (text : List ℕ). PatternMatches [] text) (sym is) match_ends)

pub returns-clause-star : goal.returns-clause-star
returns-clause-star c = star_matches

pub returns-clause-question : goal.returns-clause-question
returns-clause-question c = question_matches

pub returns-clause-set : goal.returns-clause-set
returns-clause-set c = set_matches

pub returns-clause-members : goal.returns-clause-members
returns-clause-members c = members_are_between

pub returns-clause-escape : goal.returns-clause-escape
returns-clause-escape c = escape_matches

pub returns-clause-plain : goal.returns-clause-plain
returns-clause-plain c = plain_matches

pub returns-clause-unreadable : goal.returns-clause-unreadable
returns-clause-unreadable c = unreadable

pub returns-clause-once : goal.returns-clause-once
returns-clause-once c = one_reading
