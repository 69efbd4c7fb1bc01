use Rattle.std.proofs.Common.{◌∙◌, ap, sym, string_bytes}
use Rattle.type1_install.specs.Installing.{place_in}
use Rattle.type1_install.proofs.Planned.{few_read, fields_read}
use Rattle.type1_install.proofs.Words.{plan_is}
use Rattle.type1_install.proofs.install_words.install_plan.Goals as goal

pub returns-clause-texts : goal.returns-clause-texts
returns-clause-texts c =
    let words = c.args.words.now in
    let name = string_bytes c.in_ok-name.name in
    let placed = ap (λ w. place_in w name) (sym c.as_str.ensures) ∙ ap (place_in c.as_str.result.now) (sym c.as_str-2.ensures.value) ∙ c.in_ok-place.ensures.means in
    fields_read words _ (plan_is words name c.in_ok-files.files c.in_ok-place.place c.in_ok-name.ensures c.in_ok-files.ensures placed c.in_ok-check_sources.ensures)

pub returns-clause-few : goal.returns-clause-few
returns-clause-few c =
    let words = c.args.words.now in
    let name = string_bytes c.in_ok-name.name in
    let placed = ap (λ w. place_in w name) (sym c.as_str.ensures) ∙ ap (place_in c.as_str.result.now) (sym c.as_str-2.ensures.value) ∙ c.in_ok-place.ensures.means in
    few_read words _ (plan_is words name c.in_ok-files.files c.in_ok-place.place c.in_ok-name.ensures c.in_ok-files.ensures placed c.in_ok-check_sources.ensures)
