use Rattle.std.proofs.Common.{◌≡◌, ℕ, ◌∙◌, ap, sym, arith}
use Rattle.boot_commands.specs.Demonstration.{DemoState, demo_start, demo_text, demo_turn, demo_turns}
use Rattle.boot_commands.proofs.Turning.{done_few, one_turn, refused_few}
use Rattle.boot_commands.proofs.demo.demonstrate.Goals as goal

pub turn-requires-clause-done : goal.turn-requires-clause-done
turn-requires-clause-done c =
    let done = ap (λ (s : DemoState). s.done) c.loop.invariant.state in
    omega (arith, done_few c.loop.counter c.args.seed, done, c.loop-test.true, c.requires)

pub turn-requires-clause-refused : goal.turn-requires-clause-refused
turn-requires-clause-refused c =
    let refused = ap (λ (s : DemoState). s.refused) c.loop.invariant.state in
    omega (arith, refused_few c.loop.counter c.args.seed, refused, c.loop-test.true, c.requires)

pub loop-preserved : goal.loop-preserved
loop-preserved c = record {
  state = c.in_ok-turn.ensures.turn ∙ ap demo_turn c.loop.invariant.state ∙ sym (one_turn c.loop.counter (demo_start c.args.seed));
  ready = c.in_ok-turn.ensures.ready;
}

pub returns : goal.returns
returns c =
    let all : c.loop.counter ≡ c.args.count = omega (arith, c.loop-test.false, c.loop.auto.counter-end) in
    c.in_ok-text.ensures
    ∙ ap (λ (s : DemoState). demo_text c.args.seed c.args.count s) (c.loop.invariant.state ∙ ap (λ (n : ℕ). demo_turns n (demo_start c.args.seed)) all)
