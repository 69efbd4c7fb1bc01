use Rattle.std.proofs.Common.{◌∙◌, arith}
use Rattle.type1_install.proofs.Payloads.{hex_name}
use Rattle.type1_install.proofs.payload.digits.Goals as goal

pub returns-clause-name : goal.returns-clause-name
returns-clause-name c = hex_name c.args.bytes.now _ c.requires (λ i. omega (arith, c.type_inv.bytes i)) (c.from.ensures ∙ c.in_ok-encode.ensures)
