use Rattle.std.proofs.Common.{ap, arith, option_map}
use Rattle.serde_json.specs.Data.{number}
use Rattle.serde_json.proofs.Numbers.{number_of-decimal}
use Rattle.list_json.proofs.member.write_number.Goals as goal

pub returns-in_err-key-clause-reads : goal.returns-in_err-key-clause-reads
returns-in_err-key-clause-reads c = ap (option_map number) (number_of-decimal c.args.number (omega arith))

pub returns-clause-reads : goal.returns-clause-reads
returns-clause-reads c = ap (option_map number) (number_of-decimal c.args.number (omega arith))
