use Rattle.std.proofs.Common.{◌≡◌}
use Rattle.pcr_values.specs.Prelude.{fold_of, pcr_bank, pcr_bytes}
use Rattle.stub_replay.proofs.Turns.{items_until}
use Rattle.stub_replay.proofs.bytes.replay_bytes.Given as goal

abbrev pub invariant-loop-name : goal.invariant-loop-name
invariant-loop-name l = record {
  bank : pcr_bank l.pcr ≡ l.fn.bank;
  value : pcr_bytes l.pcr ≡ fold_of l.fn.bank (items_until l.bytes l.name-index);
}
