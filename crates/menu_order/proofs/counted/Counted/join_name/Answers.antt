-- A DONE of 0 isn't written, and a written name is read as what it was written of.
use Rattle.std.proofs.Common.{◌≡◌, IfOk, string_bytes, sym, subst, rules}
use Rattle.std.proofs.lemmas.Result.{IfOk-weaker}
use Rattle.menu_order.specs.Counter.{IsCounted, written_name}
use Rattle.menu_order.proofs.CounterWritten.{written_reads}
use Rattle.menu_order.proofs.counted.Counted.join_name.Goals as goal

pub returns-then-done-eq0-clause-written : goal.returns-then-done-eq0-clause-written
returns-then-done-eq0-clause-written c = rw c.if-done-eq0.true (search rules)

pub returns-then-done-eq0-clause-counted : goal.returns-then-done-eq0-clause-counted
returns-then-done-eq0-clause-counted c =
    let written : IfOk c.format.result (λ name. string_bytes name ≡ written_name c.args.base.now c.args.left c.args.done c.args.suffix) = rw c.if-done-eq0.true (search rules) in
    IfOk-weaker _ _ _
    (λ name is. subst (λ text. IsCounted text c.args.base.now c.args.left c.args.done c.args.suffix) (sym is)
    (written_reads c.args.base.now c.args.left c.args.done c.args.suffix c.requires.base c.requires.left c.requires.done))
    written

pub returns-else-done-eq0-clause-counted : goal.returns-else-done-eq0-clause-counted
returns-else-done-eq0-clause-counted c =
    let written : IfOk c.format-else-done-eq0.result (λ name. string_bytes name ≡ written_name c.args.base.now c.args.left c.args.done c.args.suffix) = search rules in
    IfOk-weaker _ _ _
    (λ name is. subst (λ text. IsCounted text c.args.base.now c.args.left c.args.done c.args.suffix) (sym is)
    (written_reads c.args.base.now c.args.left c.args.done c.args.suffix c.requires.base c.requires.left c.requires.done))
    written
