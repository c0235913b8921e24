-- The faults of shards and seats by their numbers.
use Rattle.std.specs.Prelude.{ℕ}
use Rattle.coord_shards.specs.declared.fault.ShardFault.{ShardFault}
use Rattle.coord_shards.specs.declared.fault.ShardFault.TheVariants.{BadNumber, NoSeat, NoMemory, Unequal}

-- the number that a program prints for a fault
abbrev pub fault_number : ShardFault → ℕ
fault_number BadNumber = 1
fault_number NoSeat = 2
fault_number NoMemory = 3
fault_number Unequal = 4
