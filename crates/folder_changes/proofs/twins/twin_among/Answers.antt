use Rattle.std.proofs.Common.{◌≡◌, ℕ, false, subst, List, String, Global, string_bytes, map, All, take_all}
use Rattle.folder_changes.specs.Sought.{is_twins_name}
use Rattle.folder_changes.proofs.NoTwin.{all_more}
use Rattle.folder_changes.proofs.twins.twin_among.Goals as goal

pub loop-other-preserved : goal.loop-other-preserved
loop-other-preserved g c tells =
    let apart : List ℕ → Type 0 = λ name. is_twins_name (g.C.Calls.tree c.args.calls.now) c.args.sought.now name ≡ false in
    all_more apart c.args.names.now c.loop-other.other-index c.other-item.result c.loop-other-test.true c.other-item.is
    (subst apart c.as_str.ensures.value (c.in_ok-twin.ensures.none c.in_default.is tells)) (c.loop-other.invariant tells)

pub returns : goal.returns
returns g c none tells =
    let apart : List ℕ → Type 0 = λ name. is_twins_name (g.C.Calls.tree c.args.calls.now) c.args.sought.now name ≡ false in
    subst (λ (names : List (String Global)). All apart (map string_bytes names))
    (take_all c.loop-other.other-index c.args.names.now c.loop-other-test.false) (c.loop-other.invariant tells)
