-- The APIs of the broker, how a request's header names them, and the versions of each that are spoken.
use Rattle.std.specs.Prelude.{ℤ, pos, ◌≤ℤ◌}
use Rattle.broker_messages.specs.declared.api.BrokerApi.{BrokerApi}
use Rattle.broker_messages.specs.declared.api.BrokerApi.TheVariants.{Produce, Fetch, ListOffsets, Metadata, OffsetCommit, OffsetFetch, FindCoordinator, ListGroups, ApiVersions, InitProducerId, OffsetForLeaderEpoch, ConsumerGroupHeartbeat, ConsumerGroupDescribe}

-- The API key (Kafka protocol guide, "Api Keys").
abbrev pub key_of : BrokerApi → ℤ
key_of Produce = pos 0
key_of Fetch = pos 1
key_of ListOffsets = pos 2
key_of Metadata = pos 3
key_of OffsetCommit = pos 8
key_of OffsetFetch = pos 9
key_of FindCoordinator = pos 10
key_of ListGroups = pos 16
key_of ApiVersions = pos 18
key_of InitProducerId = pos 22
key_of OffsetForLeaderEpoch = pos 23
key_of ConsumerGroupHeartbeat = pos 68
key_of ConsumerGroupDescribe = pos 69

-- The lowest version that is spoken (ours).
abbrev pub lowest_of : BrokerApi → ℤ
lowest_of Produce = pos 3
lowest_of Fetch = pos 4
lowest_of ListOffsets = pos 1
lowest_of Metadata = pos 0
lowest_of OffsetCommit = pos 9
lowest_of OffsetFetch = pos 9
lowest_of FindCoordinator = pos 0
lowest_of ListGroups = pos 0
lowest_of ApiVersions = pos 0
lowest_of InitProducerId = pos 0
lowest_of OffsetForLeaderEpoch = pos 2
lowest_of ConsumerGroupHeartbeat = pos 0
lowest_of ConsumerGroupDescribe = pos 0

-- The highest version that is spoken (ours).
abbrev pub highest_of : BrokerApi → ℤ
highest_of Produce = pos 8
highest_of Fetch = pos 11
highest_of ListOffsets = pos 5
highest_of Metadata = pos 12
highest_of OffsetCommit = pos 9
highest_of OffsetFetch = pos 9
highest_of FindCoordinator = pos 4
highest_of ListGroups = pos 5
highest_of ApiVersions = pos 3
highest_of InitProducerId = pos 4
highest_of OffsetForLeaderEpoch = pos 3
highest_of ConsumerGroupHeartbeat = pos 1
highest_of ConsumerGroupDescribe = pos 1

-- The first version whose messages are flexible (KIP-482; Kafka protocol guide, each message's schema).
abbrev pub first_flexible_of : BrokerApi → ℤ
first_flexible_of Produce = pos 9
first_flexible_of Fetch = pos 12
first_flexible_of ListOffsets = pos 6
first_flexible_of Metadata = pos 9
first_flexible_of OffsetCommit = pos 8
first_flexible_of OffsetFetch = pos 6
first_flexible_of FindCoordinator = pos 3
first_flexible_of ListGroups = pos 3
first_flexible_of ApiVersions = pos 3
first_flexible_of InitProducerId = pos 2
first_flexible_of OffsetForLeaderEpoch = pos 4
first_flexible_of ConsumerGroupHeartbeat = pos 0
first_flexible_of ConsumerGroupDescribe = pos 0

-- A version that is spoken.
abbrev pub IsSpoken : BrokerApi → ℤ → Type 0
IsSpoken api version = (lowest_of api ≤ℤ version) × (version ≤ℤ highest_of api)
