-- What a member asks for, and its request (KIP-848, "ConsumerGroupHeartbeat API").
use Rattle.std.specs.Prelude.{◌≡◌, ℕ, suc, ℤ, pos, Bool, true, false, not, ◌&&◌, if◌then◌else◌, nat_lt, is_some, List, [], Option, Some, None, unwrap_or}
use Rattle.std.specs.Option.{option_map}
use Rattle.group_types.specs.declared.partition.Partition.{Partition}
use Rattle.group_types.specs.Text.{Text}
use Rattle.group_types.specs.Sets.{nothing, in_order}
use Rattle.group_types.specs.Request.{Heartbeat, LEAVES_AT, GOES_AWAY_AT, SAME_TIMEOUT}
use Rattle.kip_msgs.specs.Values.{RequestHeaderValue, HeartbeatRequestValue, RequestValue, heartbeat_request}
use Rattle.kip_msgs.specs.Spelling.{SpellsRequest}
use Rattle.member_core.specs.Limits.{GREATEST_NUMBER}
use Rattle.member_core.specs.Listing.{listed}
use Rattle.member_core.specs.Client.{Place, Outside, Inside, Gone, Client}

-- how much a beat says
pub data Fullness : Type 0 where
  Short : Fullness  -- nothing but the member epoch
  Owned : Fullness  -- the partitions that it owns
  Full : Fullness

pub data Ask : Type 0 where
  Join : Ask
  Beat : Fullness → Ask
  Leave : Ask
  GoAway : Ask  -- for a while, as a static member

-- ---- the heartbeat

-- the heartbeat that says the least, at a member epoch
abbrev pub short_heartbeat : Client → ℤ → Heartbeat
short_heartbeat c epoch =
    record {
      group = c.settings.group;
      member = unwrap_or c.id [];
      epoch = epoch;
      instance = None;
      rack = None;
      rebalance_timeout = SAME_TIMEOUT;
      names = None;
      assignor = None;
      owned = None;
    }

-- the one that says everything, with the partitions that it reports
abbrev pub full_heartbeat : Client → ℤ → List Partition → Heartbeat
full_heartbeat c epoch owned =
    record (short_heartbeat c epoch) {
      instance = c.settings.instance;
      rack = c.settings.rack;
      rebalance_timeout = pos c.settings.rebalance_timeout;
      names = Some c.settings.names;
      assignor = c.settings.assignor;
      owned = Some owned;
    }

abbrev pub beat_of : Client → Fullness → Heartbeat
beat_of c Short = short_heartbeat c (pos c.epoch)
beat_of c Owned = record (short_heartbeat c (pos c.epoch)) { owned = Some (in_order c.own) }
beat_of c Full = full_heartbeat c (pos c.epoch) (in_order c.own)

-- after a request that was given up, everything is said once more (ours)
abbrev pub fullness_of : Client → Fullness → Fullness
fullness_of c fullness = if c.says_all then Full else fullness

-- a join reports that it owns nothing, and names the id that the member has, if any
abbrev pub heartbeat_for : Client → Ask → Heartbeat
heartbeat_for c Join = full_heartbeat c (pos 0) []
heartbeat_for c (Beat fullness) = beat_of c (fullness_of c fullness)
heartbeat_for c Leave = short_heartbeat c LEAVES_AT
heartbeat_for c GoAway = record (short_heartbeat c GOES_AWAY_AT) { instance = c.settings.instance }

-- ---- its message

-- the message that says a heartbeat: no field is tagged
abbrev pub heartbeat_value : Heartbeat → HeartbeatRequestValue
heartbeat_value q =
    record {
      group_id = q.group;
      member_id = q.member;
      member_epoch = q.epoch;
      instance_id = q.instance;
      rack_id = q.rack;
      rebalance_timeout_ms = q.rebalance_timeout;
      subscribed_topic_names = q.names;
      server_assignor = q.assignor;
      topic_partitions = option_map listed q.owned;
      tags = [];
    }

-- the correlation id is the request's number, and no client id is given (ours)
abbrev pub header_of : ℕ → RequestHeaderValue
header_of number = record { correlation_id = pos number; client_id = None; tags = [] }

abbrev pub request_value : ℕ → Heartbeat → RequestValue
request_value number q = heartbeat_request (header_of number) (heartbeat_value q)

-- its request, under the number that it gets
abbrev pub request_for : Client → Ask → RequestValue
request_for c ask = request_value (suc c.number) (heartbeat_for c ask)

-- ---- the step

-- A member joins from outside and asks for all else from inside; only one with an instance goes away for a while.
abbrev pub may_ask_at : Place → Ask → Option Text → Bool
may_ask_at Outside Join instance = true
may_ask_at Outside (Beat fullness) instance = false
may_ask_at Outside Leave instance = false
may_ask_at Outside GoAway instance = false
may_ask_at Inside Join instance = false
may_ask_at Inside (Beat fullness) instance = true
may_ask_at Inside Leave instance = true
may_ask_at Inside GoAway instance = is_some instance
may_ask_at Gone ask instance = false

-- It asks for one thing at a time, as often as there are numbers.
abbrev pub may_ask : Client → Ask → Bool
may_ask c ask = not c.waits && nat_lt c.number GREATEST_NUMBER && may_ask_at c.place ask c.settings.instance

abbrev pub after_sending : Client → Client
after_sending c = record c { number = suc c.number; waits = true; says_all = false }

-- one that leaves or goes away doesn't wait for the reply
abbrev pub after_quitting : Client → Client
after_quitting c = record c { number = suc c.number; place = Gone; own = nothing }

abbrev pub after_asking : Client → Ask → Client
after_asking c Join = after_sending c
after_asking c (Beat fullness) = after_sending c
after_asking c Leave = after_quitting c
after_asking c GoAway = after_quitting c

-- the member makes a request with this body
pub record Asks (c : Client) (ask : Ask) (body : List ℕ) (new : Client) : Type 0 where
  pub may : may_ask c ask ≡ true
  pub spells : SpellsRequest (request_for c ask) body
  pub after : new ≡ after_asking c ask

-- it waits no longer for the reply
abbrev pub after_giving_up : Client → Client
after_giving_up c = record c { waits = false; says_all = true }
