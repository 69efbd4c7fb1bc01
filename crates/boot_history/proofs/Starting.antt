-- A history begins on a settled machine.
use Rattle.std.proofs.Common.{sym, ◌∙◌, subst}
use Rattle.boot_machine.specs.Prelude.{IsIn, candidates, recovered_now}
use Rattle.boot_machine.proofs.Seeing.{candidate_image, from_views, latest_view-recovered_views, recovered_now_in}
use Rattle.boot_history.specs.Histories.{StartLaw}

pub start_law : StartLaw
start_law s settled = record {
  some = λ none. subst (IsIn (recovered_now s)) none (recovered_now_in s);
  one = λ v is.
      let from = from_views (candidates s) v is in
      from.2 ∙ settled.images from.0 (candidate_image s from.0 from.1) ∙ sym (latest_view-recovered_views s);
}
