-- The faults by number; the Kafka protocol guide gives none, so they are this crate's own.
use Rattle.std.specs.Prelude.{ℕ}
use Rattle.flex_wire.specs.declared.fault.WireFault.{WireFault}
use Rattle.flex_wire.specs.declared.fault.WireFault.TheVariants.{Short, NotShortest, TooLong, NotUtf8, TagOrder, BadCount, BadMark, NoMemory}

-- 1 to 8, in the order of the variants
abbrev pub number_of : WireFault → ℕ
number_of Short = 1
number_of NotShortest = 2
number_of TooLong = 3
number_of NotUtf8 = 4
number_of TagOrder = 5
number_of BadCount = 6
number_of BadMark = 7
number_of NoMemory = 8
