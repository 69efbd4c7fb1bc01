use Rattle.std.proofs.Common.{◌≡◌, true, not, sym, ap, ◌∙◌, rules, IsTrue}
use Rattle.boot_machine.specs.Prelude.{State, has, OnlyReads}
use Rattle.boot_machine.proofs.Reading.{looks_once, reads_on, reads_once}
use Rattle.install_steps.proofs.RefusedLemmas.{has-sized, told_at}
use Rattle.install_steps.proofs.MachineLemmas.{only_here}
use Rattle.install_steps.proofs.moves.allow_move.Given as given
use Rattle.install_steps.proofs.moves.allow_move.Goals.{After-is_some, After-size-2}
use Rattle.install_steps.proofs.moves.allow_move.Goals as goal

module _ (g : given.Over) where
  open g.M.Machine use {tells, time, state}

  -- the first file is there, and the second where it has a size
  sized : (c : After-is_some g) → IsTrue tells → (has (state c.args.machine.now).files c.args.from.now ≡ true)
      × (has (state c.args.machine.now).files c.args.to.now ≡ c.is_some.result)
  sized c told =
      let first = told_at _ _ _ _ c.file.ensures.path (c.in_ok-size.ensures.row told).answer in
      let second = told_at _ _ _ _ c.file-2.ensures.path (c.in_ok-size-2.ensures.row told).answer in
      let same = ap (λ (t : State). has t.files c.args.to.now) (sym (c.size.ensures.row told).same) in (
        has-sized (state c.args.machine.now).files c.args.from.now c.in_ok-size.field-0 first ∙ c.is_none.ensures ∙ ap not c.if-is_none.false,
        same ∙ has-sized (state c.size.new.self).files c.args.to.now c.in_ok-size-2.field-0 second ∙ sym c.is_some.ensures,
      )

  read_twice : (c : After-size-2 g) → IsTrue tells → OnlyReads time state c.args.machine.now c.size-2.new.self
  read_twice c told =
      let here = only_here g.met.M.Machine told in
      let first = reads_once time state _ _ (here c.args.machine.now) (c.size.ensures.moments told) (c.size.ensures.row told).same in
      let second = reads_once time state _ _ (here c.size.new.self) (c.size-2.ensures.moments told) (c.size-2.ensures.row told).same in
      reads_on time state _ _ _ first second

pub returns-then-is_none-clause-not_found : goal.returns-then-is_none-clause-not_found
returns-then-is_none-clause-not_found g c = λ err told.
    let answer = told_at _ _ _ _ c.file.ensures.path (c.in_ok-size.ensures.row told).answer in
    has-sized (g.M.Machine.state c.args.machine.now).files c.args.from.now c.in_ok-size.field-0 answer ∙ c.is_none.ensures ∙ ap not c.if-is_none.true

pub returns-then-is_some-clause-exists : goal.returns-then-is_some-clause-exists
returns-then-is_some-clause-exists g c = λ err told.
    let both = sized g (goal.at.returns-then-is_some-clause-exists g c).After-is_some told in
    (both.0, both.1 ∙ c.if-is_some.true)

pub returns-clause-found : goal.returns-clause-found
returns-clause-found g c told =
    let both = sized g (goal.at.returns-clause-found g c).After-is_some told in
    (both.0, both.1 ∙ c.if-is_some.false)

pub returns-in_err-size-clause-looks : goal.returns-in_err-size-clause-looks
returns-in_err-size-clause-looks g c =
    looks_once (g.met.M.Machine.only_now c.args.machine.now) c.size.ensures.moments (λ told. (c.size.ensures.row told).same) (search rules)

pub returns-then-is_none-clause-looks : goal.returns-then-is_none-clause-looks
returns-then-is_none-clause-looks g c =
    looks_once (g.met.M.Machine.only_now c.args.machine.now) c.size.ensures.moments (λ told. (c.size.ensures.row told).same) (search rules)

pub returns-in_err-size-2-clause-looks : goal.returns-in_err-size-2-clause-looks
returns-in_err-size-2-clause-looks g c =
    record { reads = read_twice g (goal.at.returns-in_err-size-2-clause-looks g c).After-size-2; counted = search rules }

pub returns-then-is_some-clause-looks : goal.returns-then-is_some-clause-looks
returns-then-is_some-clause-looks g c =
    record { reads = read_twice g (goal.at.returns-then-is_some-clause-looks g c).After-size-2; counted = search rules }

pub returns-clause-looks : goal.returns-clause-looks
returns-clause-looks g c =
    record { reads = read_twice g (goal.at.returns-clause-looks g c).After-size-2; counted = search rules }
