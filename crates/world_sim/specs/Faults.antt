-- The faults of the code: their numbers, and what a member's fault is to the world.
use Rattle.std.specs.Prelude.{ℕ}
use Rattle.member_core.specs.declared.fault.BeatFault as member
use Rattle.member_core.specs.declared.fault.BeatFault.TheVariants as beats
use Rattle.world_sim.specs.declared.fault.WorldFault.{WorldFault}
use Rattle.world_sim.specs.declared.fault.WorldFault.TheVariants.{NoSuchClient, NoSuchMessage, WrongState, NoMemory, TooLarge, Forgotten}

abbrev pub world_fault_number : WorldFault → ℕ
world_fault_number NoSuchClient = 1
world_fault_number NoSuchMessage = 2
world_fault_number WrongState = 3
world_fault_number NoMemory = 4
world_fault_number TooLarge = 5
world_fault_number Forgotten = 6

abbrev pub fault_of_beat : member.BeatFault → WorldFault
fault_of_beat beats.NoInstance = WrongState
fault_of_beat beats.TooLarge = TooLarge
fault_of_beat beats.Spent = WrongState
fault_of_beat beats.NoMemory = NoMemory
