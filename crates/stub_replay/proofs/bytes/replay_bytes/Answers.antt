use Rattle.std.proofs.Common.{◌∙◌, arith}
use Rattle.stub_replay.proofs.Turns.{name_at, value_more}
use Rattle.stub_replay.proofs.bytes.replay_bytes.Goals as goal

pub loop-name-preserved : goal.loop-name-preserved
loop-name-preserved c =
    let before = c.loop-name.invariant in
    let at = name_at c.measured_names-name-items.result.now c.loop-name.name-index _ c.measured_names-name-items.ensures (omega arith) in
    record {
      bank = c.in_ok-pcr.ensures.bank ∙ before.bank;
      value = value_more c.args.bank _ c.args.bytes.now _ _ _ c.loop-name.name-index before.bank at before.value c.in_ok-pcr.ensures.value;
    }
