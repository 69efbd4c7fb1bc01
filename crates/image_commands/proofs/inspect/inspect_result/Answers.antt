use Rattle.std.proofs.Common.{ℕ, List, ap, arith, rules}
use Rattle.boot_machine.specs.Prelude.{seen}
use Rattle.pe_reader.specs.Prelude.{pe_of}
use Rattle.image_commands.proofs.Taking.{named_at}
use Rattle.image_commands.specs.Taking.{all_raw_length}
use Rattle.boot_machine.proofs.Reading.{looks_none}
use Rattle.image_commands.proofs.inspect.inspect_result.Goals as goal

pub returns-in_err-path-clause-looks : goal.returns-in_err-path-clause-looks
returns-in_err-path-clause-looks g c = looks_none (g.met.M.Machine.only_now c.args.machine.now) (search rules)

pub returns-clause-taken : goal.returns-clause-taken
returns-clause-taken g c told =
    omega (
      arith,
      c.inspection.ensures.taken told,
      ap (λ (bytes : List ℕ). all_raw_length (pe_of bytes))
          (named_at (seen (g.M.Machine.state c.args.machine.now)) c.args.file.now c.in_ok-path.path c.in_ok-path.ensures),
    )
