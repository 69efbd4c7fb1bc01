use Rattle.std.proofs.Common.{rules}
use Rattle.std.proofs.lemmas.Result.{IfOk-weaker}
use Rattle.boot_machine.proofs.Reading.{looks_on, reads_on}
use Rattle.pe_reader.proofs.Joined.{head_joined}
use Rattle.pe_reader.proofs.stages.head_in.Goals as goal

pub returns-in_err-coff-clause-looks : goal.returns-in_err-coff-clause-looks
returns-in_err-coff-clause-looks g c = looks_on c.place_in.ensures.looks c.coff_in.ensures.looks (search rules)

pub returns-clause-looks : goal.returns-clause-looks
returns-clause-looks g c = record {
  reads = λ told. reads_on g.M.Machine.time g.M.Machine.state _ _ _ (reads_on g.M.Machine.time g.M.Machine.state _ _ _ (c.place_in.ensures.looks.reads told) (c.coff_in.ensures.looks.reads told)) (c.optional_in.ensures.looks.reads told);
  counted = search rules;
}

pub returns-clause-read : goal.returns-clause-read
returns-clause-read g c =
    IfOk-weaker c.optional_in.result _ _ (λ head. head_joined c.args.size c.in_ok-place.place c.in_ok-coff.coff head c.in_ok-place.ensures.read c.in_ok-coff.ensures.read) c.optional_in.ensures.read
