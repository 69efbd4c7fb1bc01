use Rattle.image_commands.proofs.JsonReadBack.{calculations_read_back, inspections_read_back, measurements_read_back}
use Rattle.image_commands.proofs.laws.printed_json_reads_back.Goals as goal

pub returns-clause-inspections : goal.returns-clause-inspections
returns-clause-inspections c = inspections_read_back

pub returns-clause-measurements : goal.returns-clause-measurements
returns-clause-measurements c = measurements_read_back

pub returns-clause-calculations : goal.returns-clause-calculations
returns-clause-calculations c = calculations_read_back
