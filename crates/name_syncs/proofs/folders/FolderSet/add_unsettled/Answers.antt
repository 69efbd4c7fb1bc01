use Rattle.std.proofs.Common.{◌∙◌, ◌++◌, [], ◌∷◌, sym, ap}
use Rattle.name_syncs.specs.Folders.{folders_above, unsettled, unsettled_above, with_folders}
use Rattle.name_syncs.proofs.Above.{parts_cut, parts_none}
use Rattle.name_syncs.proofs.folders.FolderSet.add_unsettled.Goals as goal

pub returns-in_ok-add-in-Some : goal.returns-in_ok-add-in-Some
returns-in_ok-add-in-Some c =
    let settled = c.args.settled.now in
    let folder = c.in-Some.folder.now in
    let parts = ap (λ parts. with_folders c.args.self.now (unsettled settled (parts ++ [] ∷ []))) (parts_cut c.args.path.now folder _ c.in-Some.ensures) in
    let first = ap (λ folders. with_folders folders (unsettled_above settled folder (folders_above folder))) c.in_ok-add-in-Some.ensures.ok in
    rw (parts ∙ sym first) c.add_unsettled_above.ensures

pub returns-in-None : goal.returns-in-None
returns-in-None c =
    sym (ap (λ parts. with_folders c.args.self.now (unsettled c.args.settled.now (parts ++ [] ∷ []))) (parts_none c.args.path.now c.in-None.ensures))
