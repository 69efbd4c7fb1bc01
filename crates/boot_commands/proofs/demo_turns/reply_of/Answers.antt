use Rattle.std.proofs.Common.{ℕ, List, ◌-◌, ◌∙◌, ap, drop, length, map, refl, take}
use Rattle.boot_machine.specs.Prelude.{Sent, seen}
use Rattle.boot_machine.specs.declared.machine.Printed.{Printed}
use Rattle.memory_machine.specs.Memory.{mem_state}
use Rattle.boot_commands.specs.Replies.{one_reply}
use Rattle.boot_commands.proofs.Replied.{replied}
use Rattle.boot_commands.proofs.demo_turns.reply_of.Goals as goal

pub returns-clause-reply : goal.returns-clause-reply
returns-clause-reply c =
    let old = mem_state c.args.machine.now in
    let now = mem_state c.run_one.new.machine in
    let performs = c.in-Ok.ensures.performs refl c.requires.ready.firm in
    let bytes : Sent → List ℕ = λ sent. map (λ (p : Printed). p.byte) sent in
    replied old now (one_reply (seen old) c.args.command.now) c.in-Ok.outcome c.in_ok-text.text.items performs.ok
    (record { firm = performs.firm; rested = c.in-Ok.ensures.rests refl })
    (c.in_ok-text.ensures
    ∙ ap (λ (sent : Sent). bytes (take (length c.printed_bytes.result.now - length sent) (drop (length sent) c.printed_bytes.result.now))) c.printed_bytes-before.ensures
    ∙ ap (λ (sent : Sent). bytes (take (length sent - length old.printed) (drop (length old.printed) sent))) c.printed_bytes.ensures)
