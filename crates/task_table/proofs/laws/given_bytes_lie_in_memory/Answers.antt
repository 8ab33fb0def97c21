use Rattle.task_table.proofs.model.Ranges as ranges
use Rattle.task_table.proofs.laws.given_bytes_lie_in_memory.Goals as goal

pub returns-clause-byte : goal.returns-clause-byte
returns-clause-byte c = λ g m i right a placed h. ranges.within-given g m i right a placed h

pub returns-clause-ram_byte : goal.returns-clause-ram_byte
returns-clause-ram_byte c = λ g m i a placed h. ranges.within_ram-given g m i a placed h

pub returns-clause-range : goal.returns-clause-range
returns-clause-range c = λ m base n small h. ranges.within-bytes m base n small h

pub returns-clause-ram_range : goal.returns-clause-ram_range
returns-clause-ram_range c = λ m base n h. ranges.within_ram-bytes m base n h
