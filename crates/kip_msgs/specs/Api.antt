-- The APIs, and how a request's header names them.
use Rattle.std.specs.Prelude.{ℤ, pos, negsuc, Option, Some, None, ◌==◌, if◌then◌else◌}
use Rattle.kip_msgs.specs.declared.api.Api.{Api}
use Rattle.kip_msgs.specs.declared.api.Api.TheVariants.{Heartbeat, Commit}

-- The API key (Kafka protocol guide, "Api Keys")
abbrev pub key_of : Api → ℤ
key_of Heartbeat = pos 68
key_of Commit = pos 8

-- The version that is spoken: ConsumerGroupHeartbeat's first, and OffsetCommit's first with a member epoch (KIP-848).
abbrev pub version_of : Api → ℤ
version_of Heartbeat = pos 0
version_of Commit = pos 9

-- The API of a key, where there is one.
abbrev pub api_with_key : ℤ → Option Api
api_with_key (pos key) = if key == 68 then Some Heartbeat else (if key == 8 then Some Commit else None)
api_with_key (negsuc _) = None
