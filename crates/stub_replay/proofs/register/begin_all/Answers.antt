use Rattle.std.proofs.Common.{[], arith, subst, sym, List, take, ◌+◌}
use Rattle.pcr_values.specs.declared.bank.Bank.{Bank}
use Rattle.stub_replay.specs.declared.register.Register.{Register}
use Rattle.stub_replay.specs.Registers.{AllHold, Holds}
use Rattle.stub_replay.proofs.Zips.{zip_more}
use Rattle.stub_replay.proofs.register.begin_all.Goals as goal

pub loop-bank-preserved : goal.loop-bank-preserved
loop-bank-preserved c =
    let P = λ (l : List Register). AllHold l (take (c.loop-bank.bank-index + 1) c.args.banks.now) [] [] in
    subst P (sym {A = List Register} c.in_ok-push.ensures.items)
    (zip_more (λ (register : Register) (bank : Bank). Holds register bank [] []) c.loop-bank.registers.items c.args.banks.now c.loop-bank.bank-index c.new.result _ (omega arith) c.loop-bank.invariant c.new.ensures)
