use Rattle.std.proofs.Common.{take, ◌+◌, ◌∙◌, sym, subst, ◌≡◌, List, ℕ, All}
use Rattle.std.proofs.lemmas.List.{take_all}
use Rattle.name_syncs.specs.Waiting.{ShowsTruth}
use Rattle.name_syncs.proofs.Syncing.{one_more, seen_push, seen_skip, settles_some, unchanged}
use Rattle.name_syncs.proofs.sync.settle_seen.Goals as goal
use Rattle.name_syncs.proofs.sync.settle_seen.Goals.{then-not-has+in_ok-settle_looked, else-not-has}

pub loop-folder-preserved : goal.loop-folder-preserved
loop-folder-preserved g c tells =
    let changed = c.args.changed.now in
    let folders = c.args.folders.now in
    let i = c.loop-folder.folder-index in
    let folder = c.as_str-folder.result.now in
    let more = one_more folders i c.folder-item.result folder c.loop-folder-test.true c.folder-item.is c.as_str-folder.ensures in
    let start = g.D.Disk.state c.args.disk.now in
    let here = g.D.Disk.state c.loop-folder.disk in
    let before = c.args.settled.now in
    let middle = c.loop-folder.settled in
    elim c.if-not-has.branch [
      | then-not-has+in_ok-settle_looked w ↦
          rw (w.disk-is, w.settled-is) (
            seen_push changed (take i folders) (take (i + 1) folders) folder more start here (g.D.Disk.state w.settle_looked.new.disk) before middle w.settle_looked.new.settled
                (c.loop-folder.invariant tells).0 (sym c.has.ensures ∙ w.if-not-has.true) (w.in_ok-settle_looked.ensures.kept tells)
                (w.in_ok-settle_looked.ensures.shown tells) (w.in_ok-settle_looked.ensures.settled tells),
            w.in_ok-settle_looked.ensures.names tells ∙ (c.loop-folder.invariant tells).1,
          )
      | else-not-has w ↦
          rw (w.disk-is, w.settled-is) (
            seen_skip changed (take i folders) (take (i + 1) folders) folder more start here here before middle middle
                (c.loop-folder.invariant tells).0 (sym c.has.ensures ∙ w.if-not-has.false),
            (c.loop-folder.invariant tells).1,
          )
    ]

pub returns-in_err-settle_looked-clause-settled : goal.returns-in_err-settle_looked-clause-settled
returns-in_err-settle_looked-clause-settled g c tells =
    let folders = c.args.folders.now in
    let i = c.loop-folder.folder-index in
    let folder = c.as_str-folder.result.now in
    settles_some folders i folder (g.D.Disk.state c.loop-folder.disk) (g.D.Disk.state c.settle_looked.new.disk)
    c.args.settled.now c.loop-folder.settled c.settle_looked.new.settled
    (one_more folders i c.folder-item.result folder c.loop-folder-test.true c.folder-item.is c.as_str-folder.ensures)
    (c.in_err-settle_looked.ensures.kept tells) (c.loop-folder.invariant tells).0.settles (c.in_err-settle_looked.ensures.settled tells)

pub returns-clause-shown : goal.returns-clause-shown
returns-clause-shown g c tells =
    let folders = c.args.folders.now in
    let whole : take c.loop-folder.folder-index folders ≡ folders = take_all c.loop-folder.folder-index folders c.loop-folder-test.false in
    subst (λ (some : List (List ℕ)). All (ShowsTruth (g.D.Disk.state c.loop-folder.disk)) (unchanged c.args.changed.now some)) whole
    (c.loop-folder.invariant tells).0.shown
