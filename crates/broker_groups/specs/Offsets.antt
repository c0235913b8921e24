-- What is told of a committed offset (Kafka protocol guide, "OffsetFetch API").
use Rattle.std.specs.Prelude.{◌≡◌, ℕ, ℤ, negsuc, List, Option, Some, None, option_map, string_bytes}
use Rattle.group_types.specs.Group.{Committed}
use Rattle.broker_groups.specs.declared.offset_fetch.FetchedPartition.{FetchedPartition}

-- The offset, the leader's epoch and the metadata that were last committed, or -1, -1 and no metadata.
pub record TellsOf (index : ℤ) (offset leader_epoch : ℤ) (metadata : Option (List ℕ)) (found : FetchedPartition) : Type 0 where
  pub same_index : found.index ≡ index
  pub same_offset : found.offset ≡ offset
  pub same_epoch : found.leader_epoch ≡ leader_epoch
  pub same_metadata : option_map string_bytes found.metadata ≡ metadata

abbrev pub Tells : ℤ → Option Committed → FetchedPartition → Type 0
Tells index (Some committed) found = TellsOf index committed.offset committed.leader_epoch committed.metadata found
Tells index None found = TellsOf index (negsuc 0) (negsuc 0) None found
