use Rattle.std.proofs.Common.{◌≡◌, ℕ, List, Err, rules}
use Rattle.run_looks.specs.declared.identity.Look.{Look}
use Rattle.run_looks.proofs.Checks.{map_holds, none_left, says_whole}
use Rattle.run_looks.proofs.check.check_files.Goals as goal

pub returns-in_err-check_look : goal.returns-in_err-check_look
returns-in_err-check_look g c tells =
    let P : List ℕ → Look → Type 0 = λ path look. (g.D.LiveDisk.stands c.args.disk.now).files path ≡ look.found in
    let fault : c.from_residual.result ≡ Err c.in_err-check_look.field-0.0 = search rules in
    let all = c.iter-path-items in
    let same : c.into_iter-path-iterator.result ≡ all.result = search rules in
    rw fault (says_whole P all.result c.loop-path.path-iterator c.next.new.self c.as_str.result.now
    (c.in-Some.path.now, c.in-Some.first.now) c.args.files.now c.in_err-check_look.field-0.0 all.ensures.entries all.ensures.each_once
    c.in-Some.ensures.steps c.as_str.ensures.value (rw same at (c.loop-path.invariant tells))
    (c.in_err-check_look.ensures tells))

pub returns : goal.returns
returns g c tells =
    let P : List ℕ → Look → Type 0 = λ path look. (g.D.LiveDisk.stands c.args.disk.now).files path ≡ look.found in
    let all = c.iter-path-items in
    let same : c.into_iter-path-iterator.result ≡ all.result = search rules in
    map_holds P all.result c.args.files.now all.ensures.entries
    (none_left P all.result c.loop-path.path-iterator c.in-None.ensures.steps.0 (rw same at
    (c.loop-path.invariant tells)))
