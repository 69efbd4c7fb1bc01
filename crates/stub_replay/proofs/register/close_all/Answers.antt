use Rattle.std.proofs.Common.{arith}
use Rattle.pcr_values.specs.declared.bank.Bank.{Bank}
use Rattle.stub_replay.specs.declared.register.Register.{Register}
use Rattle.stub_replay.specs.Registers.{Closes, Holds}
use Rattle.stub_replay.proofs.Zips.{up_to_more, up_to_all, up_to_partner}
use Rattle.stub_replay.proofs.register.close_all.Goals as goal

pub close-requires : goal.close-requires
close-requires c =
    let held = c.requires in
    let here = up_to_partner (Closes c.args.name.now) (λ (register : Register) (bank : Bank). Holds register bank held.1 held.2) c.loop-register.register-index c.args.registers.now
    c.loop-register.registers held.0 _ (omega arith) c.loop-register.invariant held.3 in
    (here.0, held.1, held.2, here.1)

pub loop-register-preserved : goal.loop-register-preserved
loop-register-preserved c =
    up_to_more (Closes c.args.name.now) c.loop-register.register-index c.args.registers.now c.loop-register.registers _ c.close.new.self (omega arith) c.close.ensures c.loop-register.invariant

pub returns : goal.returns
returns c =
    up_to_all (Closes c.args.name.now) c.loop-register.register-index c.args.registers.now c.loop-register.registers (omega arith) c.loop-register.invariant
