use Rattle.std.proofs.Common.{◌∙◌, ap, sym, subst, ℕ, Option, length, ◌≡◌, MatchOption}
use Rattle.std.specs.Option.{option_or}
use Rattle.boot_texts.specs.ConfChoice.{IsDefaultEntry, default_place, first_place, match_place}
use Rattle.boot_texts.proofs.ConfChoices.{entry_at}
use Rattle.boot_texts.proofs.conf_choice.default_place.Goals as goal

pub returns-clause-entry : goal.returns-clause-entry
unfolding default_place
returns-clause-entry c =
    let default = c.args.conf.now.default in
    let ids = c.args.ids.now in
    let place : c.or.result ≡ option_or (match_place default ids) (first_place ids) =
    c.or.ensures ∙ ap (λ found. option_or found c.first_place.result) c.match_place.ensures ∙ ap (option_or (match_place default ids)) c.first_place.ensures in
    subst (λ (place : Option ℕ). MatchOption place (length ids ≡ 0) (λ place. IsDefaultEntry default ids place)) (sym place) (entry_at default ids)
