use Rattle.folder_changes.proofs.Clearing.{known_at_start}
use Rattle.folder_changes.proofs.changes.Changes.new.Goals as goal

pub invariant_of-result : goal.invariant_of-result
invariant_of-result g c tells =
    known_at_start c.new-2.result c.new-3.result (g.C.Calls.waits c.args.calls) (c.requires tells)
    c.new-3.ensures.folders c.new-3.ensures.near c.new-3.ensures.clear
