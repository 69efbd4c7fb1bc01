use Rattle.std.proofs.Common.{◌∙◌, All, List, refl, subst, ℕ}
use Rattle.std.proofs.lemmas.List.{take_all}
use Rattle.folder_calls.specs.Ready.{HasNoneReplaced}
use Rattle.folder_changes.proofs.Clearing.{others_then, replaced_push}
use Rattle.folder_changes.proofs.changes.Changes.clear_each_below.Goals as goal

pub returns-in_err-clear_below-clause-asks : goal.returns-in_err-clear_below-clause-asks
returns-in_err-clear_below-clause-asks g c tells =
    others_then (g.C.Calls.waits c.args.self.now) (g.C.Calls.waits c.loop-above.self) (g.C.Calls.waits c.clear_below.new.self)
    (c.loop-above.invariant.asks tells) (c.in_err-clear_below.ensures.asks tells)

pub loop-above-preserved : goal.loop-above-preserved
loop-above-preserved g c = record {
  asks = λ tells.
      others_then (g.C.Calls.waits c.args.self.now) (g.C.Calls.waits c.loop-above.self) (g.C.Calls.waits c.clear_below.new.self)
      (c.loop-above.invariant.asks tells) (c.in_ok-clear_below.ensures.asks tells);
  names = λ tells. c.in_ok-clear_below.ensures.names tells refl ∙ c.loop-above.invariant.names tells;
  near = λ tells.
      replaced_push c.args.near.now c.loop-above.above-index c.above-item.result c.as_str.result.now
      (g.C.Calls.waits c.loop-above.self) (g.C.Calls.waits c.clear_below.new.self)
      c.loop-above-test.true c.above-item.is c.as_str.ensures (c.in_ok-clear_below.ensures.asks tells).asks.kept.others
      (c.loop-above.invariant.near tells) (c.in_ok-clear_below.ensures.near tells);
}

pub returns-clause-near : goal.returns-clause-near
returns-clause-near g c tells =
    subst (λ (near : List (List ℕ)). All (HasNoneReplaced (g.C.Calls.waits c.loop-above.self)) near)
    (take_all c.loop-above.above-index c.args.near.now c.loop-above-test.false) (c.loop-above.invariant.near tells)
