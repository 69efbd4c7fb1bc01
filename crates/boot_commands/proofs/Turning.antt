-- The turns of a demonstration, and the counts that they make.
use Rattle.std.proofs.Common.{◌≡◌, ℕ, zero, suc, ◌+◌, ◌≤◌, Bool, true, false, not, List, ap, ◌∙◌, arith}
use Rattle.boot_machine.specs.Prelude.{Files}
use Rattle.tool_words.specs.declared.command.One.{One}
use Rattle.command_plans.specs.Prelude.{Answer, is_refusal}
use Rattle.boot_commands.specs.Demonstration.{DemoState, after_command, count_if, demo_start, demo_turn, demo_turns, next_command, run_drawn, third_number}
use Rattle.boot_commands.specs.DemoRuns.{demo_state}
use Rattle.boot_commands.specs.declared.demo_turns.Demo.{Demo}
use Rattle.boot_commands.specs.Replies.{one_reply}

count_few : (here : Bool) (count : ℕ) → count_if here count ≤ suc count
count_few true count = omega arith
count_few false count = omega arith

-- so many turns count no more commands
pub done_few : (turns : ℕ) (seed : ℕ) → (demo_turns turns (demo_start seed)).done ≤ turns
done_few zero seed = omega arith
done_few (suc turns) seed =
    let so_far = done_few turns seed in
    let state = demo_turns turns (demo_start seed) in
    omega (arith, so_far, count_few (not (is_refusal (one_reply state.files (next_command state.number state.entry)).outcome)) state.done)

pub refused_few : (turns : ℕ) (seed : ℕ) → (demo_turns turns (demo_start seed)).refused ≤ turns
refused_few zero seed = omega arith
refused_few (suc turns) seed =
    let so_far = refused_few turns seed in
    let state = demo_turns turns (demo_start seed) in
    omega (arith, so_far, count_few (is_refusal (one_reply state.files (next_command state.number state.entry)).outcome) state.refused)

pub one_turn : (turns : ℕ) (state : DemoState) → demo_turns (turns + 1) state ≡ demo_turn (demo_turns turns state)
one_turn turns state =
    let next : turns + 1 ≡ suc turns = omega arith in
    ap (λ (n : ℕ). demo_turns n state) next

-- a command and its reply
pub counted : (state : DemoState) (number : ℕ) (c : One) (answer : Answer) (now : DemoState)
    → answer ≡ one_reply state.files c → now ≡ after_command state number c answer → now ≡ run_drawn state number c
counted state number c answer now answer_is is = is ∙ ap (λ (a : Answer). after_command state number c a) answer_is

-- what three draws change
pub record IsDrawn (old mid : Demo) : Type 0 where
  pub number : mid.draws.number ≡ third_number old.draws.number
  pub entry : mid.entry ≡ old.entry
  pub done : mid.done ≡ old.done
  pub refused : mid.refused ≡ old.refused

pub turned : (old mid : Demo) (files : Files) (c : One) (now : DemoState) → IsDrawn old mid → c ≡ next_command old.draws.number old.entry
    → now ≡ run_drawn (demo_state mid files) mid.draws.number c → now ≡ demo_turn (demo_state old files)
turned old mid files c now drawn c_is is =
    let of : ℕ → List ℕ → ℕ → ℕ → One → DemoState =
    λ number entry done refused c. run_drawn (record { number = number; entry = entry; done = done; refused = refused; files = files }) number c in
    is
    ∙ ap (λ (n : ℕ). of n mid.entry mid.done mid.refused c) drawn.number
    ∙ ap (λ (e : List ℕ). of (third_number old.draws.number) e mid.done mid.refused c) drawn.entry
    ∙ ap (λ (d : ℕ). of (third_number old.draws.number) old.entry d mid.refused c) drawn.done
    ∙ ap (λ (r : ℕ). of (third_number old.draws.number) old.entry old.done r c) drawn.refused
    ∙ ap (λ (d : One). of (third_number old.draws.number) old.entry old.done old.refused d) c_is
