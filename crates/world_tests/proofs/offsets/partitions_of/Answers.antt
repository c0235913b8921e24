use Rattle.std.proofs.Common.{[], ◌∷◌, map}
use Rattle.std.proofs.lemmas.List.{map-append}
use Rattle.std.proofs.lemmas.List.Elements.{All-push}
use Rattle.kip_msgs.specs.Views.{commit_request_partition_value}
use Rattle.kip_msgs.specs.Writable.{IsWritableCommitRequestPartition}
use Rattle.world_tests.proofs.offsets.partitions_of.Goals as goal

-- the one that is pushed can be written, too
pub loop-place-preserved : goal.loop-place-preserved
loop-place-preserved c =
    rw c.in_ok-push.ensures.items
    (rw (map-append commit_request_partition_value c.loop-place.partitions (c.offset_of.result ∷ []))
    (All-push IsWritableCommitRequestPartition (map commit_request_partition_value c.loop-place.partitions) (commit_request_partition_value c.offset_of.result) c.loop-place.invariant c.offset_of.ensures))
