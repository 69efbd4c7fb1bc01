use Rattle.std.proofs.Common.{List, ℕ, Result, ap, ◌∙◌, subst, rules}
use Rattle.boot_base.specs.declared.refusal.Refusal.{Refusal}
use Rattle.boot_machine.specs.Prelude.{State, seen}
use Rattle.boot_machine.proofs.Reading.{looks_on}
use Rattle.command_plans.specs.Prelude.{Says}
use Rattle.loader_commands.proofs.Limits.{conf_read}
use Rattle.loader_commands.proofs.places.conf_bytes.Goals as goal

pub returns-in-Some-2-clause-looks : goal.returns-in-Some-2-clause-looks
returns-in-Some-2-clause-looks g c = looks_on c.in_ok-seen_size.ensures.looks c.file_part.ensures.looks (search rules)

pub returns-in-Some-2-clause-says : goal.returns-in-Some-2-clause-says
returns-in-Some-2-clause-says g c told =
    let old = g.M.Machine.state c.args.machine.now in
    let reads = c.in_ok-seen_size.ensures.looks.reads told in
    subst (λ (meant : Result (List ℕ) Refusal). Says (λ bytes. bytes.items) c.file_part.result meant)
    (conf_read (seen old) (seen (g.M.Machine.state c.seen_size.new.machine)) c.args.path.now c.in-Some.size (ap (λ (s : State). seen s) reads.same)
    (c.in_ok-seen_size.ensures.size told ∙ c.in-Some.is) c.if-size-gt-TEXT_LIMIT.false)
    (c.file_part.ensures.says told)
