use Rattle.std.proofs.Common.{◌≡◌, ◌*◌, ◌≤◌, take}
use Rattle.topic_meta.specs.Images.{entries_of, partitions_in}
use Rattle.topic_meta.proofs.image.all_partitions.Given as goal

abbrev pub invariant-loop-entry : goal.invariant-loop-entry
invariant-loop-entry l = record {
  total : l.all ≡ partitions_in (entries_of (take l.entry-index l.list));
  small : l.all ≤ 4294967296 * l.entry-index;
}
