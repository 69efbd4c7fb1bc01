use Rattle.std.proofs.Common.{◌≡◌, ℕ, List, ◌++◌, Bor, take, drop, length, ◌-◌, sym, ap, ◌∙◌}
use Rattle.std.proofs.KnownBytes.{Appends-kept, Appends-trans}
use Rattle.folder_calls.proofs.Written.{moved_on}
use Rattle.folder_calls.proofs.writes.write_all_bytes.Goals.{in-Ok, in-Err}
use Rattle.folder_calls.proofs.writes.write_all_bytes.Goals as goal

pub loop-preserved : goal.loop-preserved
loop-preserved g c =
    let (start, split, appended) = c.loop.invariant in
    let rest = c.loop.rest.now in
    elim c.match-write.branch [
      | in-Ok w ↦
          let n = w.in-Ok.count in
          let left : c.match-write.rest.now ≡ take (length rest - n) (drop n rest) = ap (λ (r : Bor (List ℕ)). r.now) w.rest-is in (
            start ++ take n rest,
            moved_on c.args.bytes.now start rest n split ∙ ap (λ l. (start ++ take n rest) ++ l) (sym left),
            Appends-trans _ _ _ _ _ appended w.in-Ok.ensures.bytes,
          )
      | in-Err w ↦
          let left : c.match-write.rest.now ≡ rest = ap (λ (r : Bor (List ℕ)). r.now) w.rest-is in
          (start, split ∙ ap (λ l. start ++ l) (sym left), Appends-kept _ _ _ _ appended w.in-Err.ensures.bytes)
    ]
