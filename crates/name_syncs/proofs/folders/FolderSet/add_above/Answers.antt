use Rattle.std.proofs.Common.{rules, ◌∙◌, [], ◌∷◌, sym, ap}
use Rattle.name_syncs.specs.Folders.{parts_before_slashes, with_folder, with_folders}
use Rattle.name_syncs.proofs.Above.{add_step, parts_none, with_folders-append}
use Rattle.name_syncs.proofs.folders.FolderSet.add_above.Goals as goal

pub loop-folder-preserved : goal.loop-folder-preserved
loop-folder-preserved c = (
  search rules,
  ap (λ folders. with_folders folders (parts_before_slashes c.in-Some.folder.now)) c.in_ok-add.ensures.ok
      ∙ sym (add_step c.loop-folder.self c.loop-folder.below.now c.in-Some.folder.now _ c.in-Some.ensures)
      ∙ c.loop-folder.invariant.1,
)

pub returns : goal.returns
returns c =
    let done = sym (ap (with_folders c.loop-folder.self) (parts_none c.loop-folder.below.now c.in_default.ensures)) in
    ap (λ folders. with_folder folders []) (done ∙ c.loop-folder.invariant.1)
    ∙ sym (with_folders-append c.args.self.now (parts_before_slashes c.args.path.now) ([] ∷ []))
