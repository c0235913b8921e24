-- Why an entry has no spelling.
use Rattle.std.specs.Prelude.{◌<◌, ◌^◌}
use Rattle.flex_wire.specs.declared.fault.WireFault.{WireFault}
use Rattle.flex_wire.specs.declared.fault.WireFault.TheVariants as wire
use Rattle.replica_entries.specs.declared.fault.EntryFault.{EntryFault}
use Rattle.replica_entries.specs.declared.fault.EntryFault.TheVariants.{Wire, UnknownVersion, UnknownKind, BadNumber, BadBody, LeftOver, NoMemory}
use Rattle.replica_entries.specs.Values.{EntryValue}
use Rattle.replica_entries.specs.Spelling.{FitsNumbers, FitsBody, FitsTopics}

-- a field's fault is one of its topics: a name or their number is too long
abbrev pub MisfitsByField : WireFault → EntryValue → Type 0
MisfitsByField wire.TooLong v = ¬ FitsTopics v.content
MisfitsByField wire.Short v = ⊥
MisfitsByField wire.NotShortest v = ⊥
MisfitsByField wire.NotUtf8 v = ⊥
MisfitsByField wire.TagOrder v = ⊥
MisfitsByField wire.BadCount v = ⊥
MisfitsByField wire.BadMark v = ⊥
MisfitsByField wire.NoMemory v = ⊥

-- what of the entry has no spelling, by the fault
abbrev pub Misfits : EntryFault → EntryValue → Type 0
Misfits (Wire fault) v = MisfitsByField fault v
Misfits BadNumber v = ¬ ((v.leadership < 2 ^ 31) × FitsNumbers v.content)
Misfits BadBody v = ¬ FitsBody v.content
Misfits UnknownVersion v = ⊥
Misfits UnknownKind v = ⊥
Misfits LeftOver v = ⊥
Misfits NoMemory v = ⊥
