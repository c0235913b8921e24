use Rattle.std.proofs.Common.{map, drop}
use Rattle.offset_guard.specs.Listing.{entry_of}
use Rattle.replica_snapshots.specs.Spelling.{offset_fields, FitsOffset}
use Rattle.replica_snapshots.proofs.Puts.{AreLeft}
use Rattle.replica_snapshots.proofs.parts.put_each_offset.Given as goal

abbrev pub invariant-loop-at : goal.invariant-loop-at
invariant-loop-at l = AreLeft FitsOffset FitsOffset offset_fields l.fn.out.items l.out.items (map entry_of l.list) (map entry_of (drop l.at-index l.list))
