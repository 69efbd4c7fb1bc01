use Rattle.std.proofs.Common.{◌≡◌, false, arith, take, drop, sym, ◌∙◌, bytes_eq}
use Rattle.folder_calls.proofs.SameStart.{differ_there, same_more}
use Rattle.folder_calls.proofs.same_bytes.have_same_start.Goals as goal

pub returns-then-not-branch : goal.returns-then-not-branch
returns-then-not-branch g c tells =
    let one = (g.C.Calls.tree c.args.calls.now).bytes (g.C.Calls.inode c.args.file.now) in
    let other = (g.C.Calls.tree c.args.calls.now).bytes (g.C.Calls.inode c.args.other.now) in
    let n = c.min-count.result in
    let piece : bytes_eq (take n (drop c.loop-at.at one)) (take n (drop c.loop-at.at other)) ≡ false =
    sym (c.in_ok-is_same_piece.ensures tells) ∙ c.if-not-branch.true in
    sym (differ_there one other c.loop-at.at n c.args.length (omega (arith, c.min-count.ensures, c.loop-at-test.true)) piece)

pub loop-at-preserved : goal.loop-at-preserved
loop-at-preserved g c = record {
  within = omega (arith, c.min-count.ensures, c.loop-at-test.true);
  same = λ tells.
      same_more _ _ c.loop-at.at c.min-count.result (c.loop-at.invariant.same tells)
      (sym (c.in_ok-is_same_piece.ensures tells) ∙ c.if-not-branch.false);
}
