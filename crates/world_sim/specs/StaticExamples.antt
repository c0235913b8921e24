-- That the laws speak of static members too (KIP-848, "Static Membership"): in worlds that acts lead to one goes away, another client
-- takes its place over, and a client joins under the id of a former member.
use Rattle.std.specs.Prelude.{◌≡◌, ◌≢◌, ℕ, pos, List, Option, Some, None, IsTrue}
use Rattle.std.specs.Option.{option_and_then}
use Rattle.std.specs.FinMap as finite
use Rattle.kip_msgs.specs.Values.{HeartbeatReplyValue}
use Rattle.group_types.specs.declared.epoch.Epoch.TheVariants.{At, Away}
use Rattle.group_types.specs.declared.partition.Partition.{Partition}
use Rattle.group_types.specs.Text.{Text}
use Rattle.group_types.specs.Sets.{has}
use Rattle.group_types.specs.Members.{is_remembered, members_of}
use Rattle.group_types.specs.Group.{Group, Record}
use Rattle.member_core.specs.Client.{Client}
use Rattle.world_sim.specs.World.{World, Request, granted, numbered}
use Rattle.world_sim.specs.Acts.{Act, Deliver, Outcome, IsReplied, ActStep, Run}
use Rattle.world_sim.specs.Reached.{IsReached}
use Rattle.world_sim.specs.Examples.{Holder}

-- some list of acts leads from one world to the other
abbrev pub LeadsTo : World → World → Type 0
LeadsTo w new = (acts : List Act) × (outcomes : List Outcome) × Run w acts outcomes new

-- a client's request is delivered, and answered with no error
pub record IsDelivered (w new : World) : Type 0 where
  pub request : ℕ
  pub sent : Request
  pub is_sent : numbered w.requests request ≡ Some sent
  pub reply : ℕ
  pub said : HeartbeatReplyValue
  pub delivers : ActStep w (Deliver request) (IsReplied reply said) new
  pub succeeds : said.error_code ≡ pos 0

-- the record of a member id in a group
abbrev pub record_in : World → Text → Text → Option Record
record_in w name m = option_and_then (λ (g : Group). finite.get g.records m) (finite.get w.coordinator.groups name)

-- the group remembers the id, and it has no record
pub record IsFormer (w : World) (name m : Text) : Type 0 where
  pub group : Group
  pub of_group : finite.get w.coordinator.groups name ≡ Some group
  pub absent : finite.get group.records m ≡ None
  pub remembered : IsTrue (is_remembered (members_of group) m)

-- A member with the instance, that is granted the partition, goes away, and is granted it still.
pub record GoesAway (w : World) (name m instance : Text) (p : Partition) (new : World) : Type 0 where
  pub answered : IsDelivered w new
  pub before : Record
  pub was : record_in w name m ≡ Some before
  pub epoch : ℕ
  pub present : before.epoch ≡ At epoch
  pub static : before.instance ≡ Some instance
  pub granted_before : IsTrue (has (granted w.coordinator name m) p)
  pub after : Record
  pub is : record_in new name m ≡ Some after
  pub away : after.epoch ≡ Away
  pub granted_after : IsTrue (has (granted new.coordinator name m) p)

-- Under an id that had no record a client has the instance of a member that was away, and is granted its partition. That
-- member's id is a former one.
pub record TakesOver (w : World) (name old instance : Text) (p : Partition) (m : Text) (new : World) : Type 0 where
  pub answered : IsDelivered w new
  pub before : Record
  pub was : record_in w name old ≡ Some before
  pub away : before.epoch ≡ Away
  pub static : before.instance ≡ Some instance
  pub granted_before : IsTrue (has (granted w.coordinator name old) p)
  pub absent : record_in w name m ≡ None
  pub after : Record
  pub is : record_in new name m ≡ Some after
  pub same_instance : after.instance ≡ Some instance
  pub granted_after : IsTrue (has (granted new.coordinator name m) p)
  pub former : IsFormer new name old

-- a client that has the id of a former member joins under it
pub record JoinsAgain (w : World) (name m : Text) (new : World) : Type 0 where
  pub answered : IsDelivered w new
  pub client : Client
  pub is_client : numbered w.clients answered.sent.sender ≡ Some client
  pub is_id : client.id ≡ Some m
  pub former : IsFormer w name m
  pub after : Record
  pub is : record_in new name m ≡ Some after

-- One after the other, in one run of acts. The one that took the place over, and the one that joined again, hold a
-- partition then: they are what the laws of Exclusivity speak of.
pub record SomeStaticMemberIsTakenOver : Type 0 where
  pub name : Text
  pub instance : Text
  pub partition : Partition
  pub present : World
  pub reached : IsReached present
  pub member : Text
  pub deserted : World
  pub goes_away : GoesAway present name member instance partition deserted
  pub before : World
  pub until : LeadsTo deserted before
  pub heir : Text
  pub taken : World
  pub takes_over : TakesOver before name member instance partition heir taken
  pub another : goes_away.answered.sent.sender ≢ takes_over.answered.sent.sender
  pub holding : World
  pub leads_to_holding : LeadsTo taken holding
  pub holder : Holder holding
  pub is_heir : holder.id ≡ heir
  pub left : World
  pub leads_to_left : LeadsTo holding left
  pub former : Text
  pub back : World
  pub joins_again : JoinsAgain left name former back
  pub last : World
  pub leads_to_last : LeadsTo back last
  pub again : Holder last
  pub is_former : again.id ≡ former
