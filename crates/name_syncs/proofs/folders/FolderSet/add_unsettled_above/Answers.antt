use Rattle.std.proofs.Common.{rules, ◌∙◌, ◌++◌, [], ◌∷◌, sym, ap}
use Rattle.name_syncs.specs.Folders.{folders_above, unsettled_above, with_folders}
use Rattle.name_syncs.proofs.Above.{parts_none, unsettled_step}
use Rattle.name_syncs.proofs.folders.FolderSet.add_unsettled_above.Goals as goal

pub loop-above-preserved : goal.loop-above-preserved
loop-above-preserved c =
    let settled = c.args.settled.now in
    let above = c.in-Some.above.now in (
      search rules,
      ap (λ folders. with_folders folders (unsettled_above settled above (folders_above above))) c.in_ok-add_unless_settled.ensures
          ∙ sym (unsettled_step c.loop-above.self settled c.loop-above.below.now above _ c.in-Some.ensures)
          ∙ c.loop-above.invariant.1,
    )

pub returns : goal.returns
returns c =
    let settled = c.args.settled.now in
    let below = c.loop-above.below.now in
    let last = ap (λ parts. with_folders c.loop-above.self (unsettled_above settled below (parts ++ [] ∷ []))) (parts_none below c.in_default.ensures) in
    rw (sym c.loop-above.invariant.1 ∙ last) c.add_unless_settled-2.ensures
