use Rattle.std.proofs.Common.{◌≤◌, rules, arith, ap, length, take, ◌∙◌}
use Rattle.std.proofs.lemmas.List.{take-replicate}
use Rattle.stub_replay.proofs.Taking.{zeros_more}
use Rattle.stub_replay.specs.proofs.TakingLaws.{takes_none}
use Rattle.stub_replay.proofs.pieces.take_from_zeros.Goals as goal

pub loop-done-init : goal.loop-done-init
loop-done-init c = record {
  within = omega arith;
  zeros = takes_none c.args.registers.now;
}

pub loop-done-preserved : goal.loop-done-preserved
loop-done-preserved c =
    let room = c.min-room.result in
    let within : room ≤ length c.args.zeros.now = search rules in
    record {
      within = search rules;
      zeros = zeros_more c.loop-done.done room _ c.args.registers.now c.loop-done.registers c.update_all.new.registers
          (ap (take room) c.requires.zeros ∙ take-replicate room (length c.args.zeros.now) 0 within) c.loop-done.invariant.zeros c.update_all.ensures;
    }
