use Rattle.std.proofs.Common.{sym, ap, ◌∙◌}
use Rattle.boot_base.proofs.LastComponent.{file_name_of-found, file_name_of-whole}
use Rattle.name_syncs.specs.Folders.{nearest}
use Rattle.name_syncs.proofs.Above.{cut_found, no_slash, parts_cut, parts_none}
use Rattle.name_syncs.proofs.folders.parted.Goals as goal

pub returns-in-Some-clause-folder : goal.returns-in-Some-clause-folder
returns-in-Some-clause-folder c =
    let cut = c.in-Some.ensures.cases in
    cut.3 ∙ sym (ap nearest (parts_cut c.args.path.now _ _ (cut_found c.args.path.now cut.0 cut.1 cut.2.0 cut.2.1)))

pub returns-in-Some-clause-name : goal.returns-in-Some-clause-name
returns-in-Some-clause-name c =
    let cut = c.in-Some.ensures.cases in cut.4 ∙ sym (file_name_of-found c.args.path.now cut.0 cut.1 cut.2.0 cut.2.1)

pub returns-in-None-clause-folder : goal.returns-in-None-clause-folder
returns-in-None-clause-folder c =
    sym (ap nearest (parts_none c.args.path.now (no_slash c.args.path.now c.in-None.ensures.cases)))

pub returns-in-None-clause-name : goal.returns-in-None-clause-name
returns-in-None-clause-name c = sym (file_name_of-whole c.args.path.now c.in-None.ensures.cases)
