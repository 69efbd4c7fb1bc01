use Rattle.std.proofs.Common.{◌∙◌, All, List, String, refl, Global, map, string_bytes, subst}
use Rattle.std.proofs.lemmas.List.{take_all}
use Rattle.folder_changes.specs.Clear.{IsClear}
use Rattle.folder_changes.proofs.Clearing.{clear_push, others_then}
use Rattle.folder_changes.proofs.changes.Changes.clear_names.Goals as goal

pub returns-in_err-clear_name-clause-asks : goal.returns-in_err-clear_name-clause-asks
returns-in_err-clear_name-clause-asks g c tells =
    others_then (g.C.Calls.waits c.args.self.now) (g.C.Calls.waits c.loop-name.self) (g.C.Calls.waits c.clear_name.new.self)
    (c.loop-name.invariant.asks tells) (c.in_err-clear_name.ensures.asks tells)

pub loop-name-preserved : goal.loop-name-preserved
loop-name-preserved g c = record {
  asks = λ tells.
      others_then (g.C.Calls.waits c.args.self.now) (g.C.Calls.waits c.loop-name.self) (g.C.Calls.waits c.clear_name.new.self)
      (c.loop-name.invariant.asks tells) (c.in_ok-clear_name.ensures.asks tells);
  names = λ tells. c.in_ok-clear_name.ensures.names tells refl ∙ c.loop-name.invariant.names tells;
  clear = λ tells.
      clear_push c.args.folder.now c.args.names.now c.loop-name.name-index c.name-item.result c.as_str.result.now
      (g.C.Calls.waits c.loop-name.self) (g.C.Calls.waits c.clear_name.new.self)
      c.loop-name-test.true c.name-item.is c.as_str.ensures.value (c.in_ok-clear_name.ensures.asks tells).asks.kept.others
      (c.loop-name.invariant.clear tells) (c.in_ok-clear_name.ensures.clear tells);
}

pub returns-clause-clear : goal.returns-clause-clear
returns-clause-clear g c tells =
    subst (λ (names : List (String Global)). All (IsClear (g.C.Calls.waits c.loop-name.self) c.args.folder.now) (map string_bytes names))
    (take_all c.loop-name.name-index c.args.names.now c.loop-name-test.false) (c.loop-name.invariant.clear tells)
