use Rattle.std.proofs.Common.{◌≡◌, ◌≤◌, ℕ, List, Err, rules}
use Rattle.run_looks.specs.Names.{lasting}
use Rattle.run_looks.specs.declared.identity.Listing.{Listing}
use Rattle.run_looks.proofs.Checks.{map_holds, none_left, says_whole}
use Rattle.run_looks.proofs.check.check_listings.Goals as goal

pub returns-in_err-check_listing : goal.returns-in_err-check_listing
returns-in_err-check_listing g c tells =
    let P : List ℕ → Listing → Type 0 = λ folder listing. c.args.reply ≤ listing.reply
    → lasting ((g.D.LiveDisk.stands c.args.disk.now).names folder) ≡ listing.names in
    let fault : c.from_residual.result ≡ Err c.in_err-check_listing.field-0.0 = search rules in
    let all = c.iter-folder-items in
    let same : c.into_iter-folder-iterator.result ≡ all.result = search rules in
    rw fault (says_whole P all.result c.loop-folder.folder-iterator c.next.new.self c.as_str.result.now
    (c.in-Some.folder.now, c.in-Some.first.now) c.args.listings.now c.in_err-check_listing.field-0.0 all.ensures.entries all.ensures.each_once
    c.in-Some.ensures.steps c.as_str.ensures.value (rw same at (c.loop-folder.invariant tells))
    (c.in_err-check_listing.ensures tells))

pub returns : goal.returns
returns g c tells =
    let P : List ℕ → Listing → Type 0 = λ folder listing. c.args.reply ≤ listing.reply
    → lasting ((g.D.LiveDisk.stands c.args.disk.now).names folder) ≡ listing.names in
    let all = c.iter-folder-items in
    let same : c.into_iter-folder-iterator.result ≡ all.result = search rules in
    map_holds P all.result c.args.listings.now all.ensures.entries
    (none_left P all.result c.loop-folder.folder-iterator c.in-None.ensures.steps.0 (rw same at
    (c.loop-folder.invariant tells)))
