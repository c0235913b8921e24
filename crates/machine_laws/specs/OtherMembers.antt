-- KIP-848, "Current Assignment": a heartbeat changes what its own member may read, and nobody else's.
use Rattle.std.specs.Prelude.{◌≡◌, ◌≢◌, Some}
use Rattle.std.specs.FinMap as finite
use Rattle.group_types.specs.declared.partition.Partition.{Partition}
use Rattle.group_types.specs.Text.{Text}
use Rattle.group_types.specs.Sets.{has}
use Rattle.group_types.specs.Group.{Record, Group}
use Rattle.group_types.specs.HeartbeatStep.{Answer, Arrival, HeartbeatStep}
use Rattle.group_types.specs.Sound.{IsSound}

-- whoever else is a member before and after it, away or not, is granted the partitions that it was
abbrev pub OthersKeepTheirGrants : Type 0
OthersKeepTheirGrants =
    (g : Group) (a : Arrival) (answer : Answer) (new : Group) (n : Text) (before after : Record) (p : Partition)
    → IsSound g → HeartbeatStep g a answer new → n ≢ a.heartbeat.member
    → finite.get g.records n ≡ Some before → finite.get new.records n ≡ Some after → has new.grants (n, p) ≡ has g.grants (n, p)
