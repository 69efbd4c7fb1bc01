use Rattle.std.proofs.Common.{[]}
use Rattle.std.proofs.lemmas.List.Elements.{All-push, All-weaker}
use Rattle.name_syncs.specs.Waiting.{ShowsTruth}
use Rattle.name_syncs.proofs.Syncing.{seen_none, seen_passed, seen_root, shows_still, unchanged}
use Rattle.name_syncs.proofs.sync.sync_seen.Goals as goal
use Rattle.name_syncs.proofs.sync.sync_seen.Goals.{then-named+then-not-named+in_ok-settle_looked, else-named, else-named-via-then-named+else-not-named, else-named-via-else-named}

pub returns-clause-shown : goal.returns-clause-shown
returns-clause-shown g c tells =
    let changed = c.args.named.now.changed in
    let seen = c.args.named.now.seen in
    let here = g.D.Disk.state c.settle_seen.new.disk in
    let below = rw c.as_slice.ensures at (c.in_ok-settle_seen.ensures.shown tells) in
    elim c.if-named.branch [
      | then-named+then-not-named+in_ok-settle_looked w ↦
          let new = g.D.Disk.state w.settle_looked.new.disk in
          rw (w.disk-is, seen_root changed seen w.if-named.true w.if-not-named.true)
          (All-push (ShowsTruth new) (unchanged changed seen.below) []
          (All-weaker (ShowsTruth here) (ShowsTruth new) (shows_still here new (w.in_ok-settle_looked.ensures.kept tells))
          (unchanged changed seen.below) below) (w.in_ok-settle_looked.ensures.shown tells))
      | else-named w ↦ elim w.else-named.branch [
        | else-named-via-then-named+else-not-named w' ↦
            rw (w.disk-is, seen_passed changed seen w'.if-named.true w'.if-not-named.false) below
        | else-named-via-else-named w' ↦ rw (w.disk-is, seen_none changed seen w'.if-named.false) below
      ]
    ]
