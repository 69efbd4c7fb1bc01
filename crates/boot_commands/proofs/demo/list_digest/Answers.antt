use Rattle.std.proofs.Common.{ℕ, List, ◌∙◌, ap}
use Rattle.hex.specs.Hex.{encode_lower}
use Rattle.boot_machine.specs.Prelude.{seen}
use Rattle.pcr_values.specs.declared.bank.Bank.TheVariants as banks
use Rattle.pcr_values.specs.Prelude.{digest_of}
use Rattle.command_plans.specs.Prelude.{Answer}
use Rattle.memory_machine.specs.Memory.{mem_state}
use Rattle.boot_commands.specs.Demonstration.{listed_on_out}
use Rattle.boot_commands.proofs.demo.list_digest.Goals as goal

pub returns : goal.returns
returns c =
    c.in_ok-text.ensures
    ∙ ap encode_lower (c.bytes.ensures.value ∙ c.of-digest.ensures.bytes
    ∙ ap (λ (l : List ℕ). digest_of banks.Sha256 l) (c.on_out.ensures (seen (mem_state c.listing.new.machine))
    ∙ ap (λ (a : Answer). listed_on_out a) c.in_ok-reply.ensures))
