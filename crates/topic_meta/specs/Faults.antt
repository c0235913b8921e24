-- The faults of a list of topics.
use Rattle.std.specs.Prelude.{ℕ}
use Rattle.topic_meta.specs.declared.image_fault.ImageFault.{ImageFault}
use Rattle.topic_meta.specs.declared.image_fault.ImageFault.TheVariants.{DuplicateName, DuplicateId, TooMany, BadCount, NoMemory}

-- the number that a program prints for a fault
abbrev pub fault_number : ImageFault → ℕ
fault_number DuplicateName = 1
fault_number DuplicateId = 2
fault_number TooMany = 3
fault_number BadCount = 4
fault_number NoMemory = 5
