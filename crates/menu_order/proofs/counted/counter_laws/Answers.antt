-- The laws of counted names.
use Rattle.menu_order.proofs.CounterReadings.{one_reading}
use Rattle.menu_order.proofs.CounterWritten.{written_reads, shortest_rewrites}
use Rattle.menu_order.proofs.counted.counter_laws.Goals as goal

pub returns : goal.returns
returns c = record { one_reading = one_reading; written_reads = written_reads; shortest_rewrites = shortest_rewrites }
