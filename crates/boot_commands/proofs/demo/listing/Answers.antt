use Rattle.std.proofs.Common.{ℕ, List, false, ◌∙◌, ap}
use Rattle.std.proofs.lemmas.Result.{IfOk-weaker}
use Rattle.boot_machine.specs.Prelude.{seen}
use Rattle.memory_machine.specs.Memory.{mem_state}
use Rattle.tool_words.specs.declared.command.One.TheVariants as one
use Rattle.boot_commands.specs.Replies.{one_reply}
use Rattle.boot_commands.proofs.demo.listing.Goals as goal

pub returns : goal.returns
returns c = IfOk-weaker c.reply_of-reply.result _ _ (λ reply is.
    is ∙ ap (λ (esp : List ℕ). one_reply (seen (mem_state c.args.machine.now)) (one.List esp false)) c.in_ok-esp.ensures) c.reply_of-reply.ensures.reply
