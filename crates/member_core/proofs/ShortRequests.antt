-- The texts of a member's requests are short enough.
use Rattle.std.proofs.Common.{◌≡◌, ℕ, ℤ, pos, List, [], Option, Some, None, All, unwrap_or, subst, sym, arith}
use Rattle.std.proofs.lemmas.List.Elements.{All-from_recursion}
use Rattle.flex_wire.specs.Spelling.{FitsTaggedFields}
use Rattle.flex_wire.proofs.TagLaws.{no_tags_fit}
use Rattle.group_types.specs.declared.partition.Partition.{Partition}
use Rattle.group_types.specs.Sets.{in_order}
use Rattle.group_types.specs.Request.{LEAVES_AT}
use Rattle.kip_msgs.specs.Values.{TopicPartitionsValue}
use Rattle.kip_msgs.specs.Writable.{IsShort, IsShortIfAny}
use Rattle.kip_msgs.proofs.ListingLemmas.{HaveNoTags-listed_by}
use Rattle.member_core.specs.Asking.{Ask, Join, Beat, Leave, GoAway, Fullness, Short, Owned, Full, heartbeat_value, short_heartbeat, full_heartbeat, beat_of, fullness_of, heartbeat_for}
use Rattle.member_core.specs.Client.{Client}
use Rattle.member_core.specs.Listing.{listed}
use Rattle.member_core.specs.Views.{HasShortTexts}
use Rattle.member_core.specs.Writing.{HasShortHeartbeat}

-- what a client's texts keep to
pub record IsLimited (c : Client) : Type 0 where
  pub settings : HasShortTexts c.settings
  pub id : IsShortIfAny c.id

short_or_empty : (id : Option (List ℕ)) → IsShortIfAny id → IsShort (unwrap_or id [])
short_or_empty None h = omega arith
short_or_empty (Some text) h = h

fit_listed : (ps : List Partition) → All (λ t. FitsTaggedFields t.tags) (listed ps)
fit_listed ps k d low =
    subst FitsTaggedFields (sym (All-from_recursion (λ (t : TopicPartitionsValue). t.tags ≡ []) (listed ps) (HaveNoTags-listed_by (λ (p : Partition). p.topic) (λ (p : Partition). p.index) ps) k d low)) no_tags_fit

short_least : (c : Client) (epoch : ℤ) → IsLimited c → HasShortHeartbeat (heartbeat_value (short_heartbeat c epoch))
short_least c epoch limited =
    record {
      group_id = limited.settings.group;
      member_id = short_or_empty c.id limited.id;
      instance_id = tt;
      rack_id = tt;
      subscribed_topic_names = tt;
      server_assignor = tt;
      topic_partitions = tt;
      tags = no_tags_fit;
    }

short_full : (c : Client) (epoch : ℤ) (ps : List Partition) → IsLimited c → HasShortHeartbeat (heartbeat_value (full_heartbeat c epoch ps))
short_full c epoch ps limited =
    record {
      group_id = limited.settings.group;
      member_id = short_or_empty c.id limited.id;
      instance_id = limited.settings.instance;
      rack_id = limited.settings.rack;
      subscribed_topic_names = limited.settings.names;
      server_assignor = limited.settings.assignor;
      topic_partitions = fit_listed ps;
      tags = no_tags_fit;
    }

short_beat : (c : Client) (fullness : Fullness) → IsLimited c → HasShortHeartbeat (heartbeat_value (beat_of c fullness))
short_beat c Short limited = short_least c (pos c.epoch) limited
short_beat c Owned limited =
    record {
      group_id = limited.settings.group;
      member_id = short_or_empty c.id limited.id;
      instance_id = tt;
      rack_id = tt;
      subscribed_topic_names = tt;
      server_assignor = tt;
      topic_partitions = fit_listed (in_order c.own);
      tags = no_tags_fit;
    }
short_beat c Full limited = short_full c (pos c.epoch) (in_order c.own) limited

pub short_heartbeat_for : (c : Client) (ask : Ask) → IsLimited c → HasShortHeartbeat (heartbeat_value (heartbeat_for c ask))
short_heartbeat_for c Join limited = short_full c (pos 0) [] limited
short_heartbeat_for c (Beat fullness) limited = short_beat c (fullness_of c fullness) limited
short_heartbeat_for c Leave limited = short_least c LEAVES_AT limited
short_heartbeat_for c GoAway limited =
    record {
      group_id = limited.settings.group;
      member_id = short_or_empty c.id limited.id;
      instance_id = limited.settings.instance;
      rack_id = tt;
      subscribed_topic_names = tt;
      server_assignor = tt;
      topic_partitions = tt;
      tags = no_tags_fit;
    }
