use Rattle.std.proofs.Common.{◌≡◌, not, sym, ap, ◌∙◌, bytes_eq}
use Rattle.boot_base.specs.Paths.{file_name_of}
use Rattle.name_syncs.specs.Folders.{parent_folder, path_in}
use Rattle.fat_rules.specs.Twins.{may_be_of_one_file}
use Rattle.folder_calls.specs.Calls.{is_twin, names_twin}
use Rattle.folder_changes.proofs.NoTwin.{no_second}
use Rattle.folder_changes.proofs.twins.twin_by_name.Goals as goal

pub returns-else-branch-clause-none : goal.returns-else-branch-clause-none
returns-else-branch-clause-none g c none tells =
    let path = c.args.sought.now.path.now in
    let found = c.args.sought.now.found.now in
    let tree = g.C.Calls.tree c.args.calls.now in
    let at : c.as_str.result.now ≡ path_in (parent_folder path) c.args.other.now =
    c.as_str.ensures.value ∙ c.in_ok-other.ensures ∙ ap (λ folder. path_in folder c.args.other.now) c.parted.ensures.folder in
    no_second (not (bytes_eq c.args.other.now c.args.sought.now.but.now)) (names_twin tree path found c.args.other.now)
    (no_second (may_be_of_one_file (file_name_of path) c.args.other.now)
    (is_twin tree found (tree.stands (path_in (parent_folder path) c.args.other.now)))
    (ap (λ p. is_twin tree found (tree.stands p)) (sym at) ∙ sym (c.in_ok-is_twin.ensures tells) ∙ c.if-branch.false))
