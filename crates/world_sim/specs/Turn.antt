-- What one heartbeat, and a tick, do to a group, as far as the group's clients can tell: all that the world's invariant
-- needs of the machine.
use Rattle.std.specs.Prelude.{◌≡◌, ◌≢◌, ◌⊎◌, ℕ, suc, ◌<◌, ◌≤◌, ◌^◌, pos, true, false, [], Option, Some, None, IsTrue, int_le}
use Rattle.std.specs.List.{Contains}
use Rattle.std.specs.Option.{option_or, option_and_then}
use Rattle.std.specs.FinMap as finite
use Rattle.group_types.specs.declared.assignor_name.AssignorName.{AssignorName}
use Rattle.group_types.specs.declared.code.Code.TheVariants as codes
use Rattle.group_types.specs.declared.epoch.Epoch.TheVariants.{At, Away}
use Rattle.group_types.specs.declared.partition.Partition.{Partition}
use Rattle.group_types.specs.declared.stamp.Stamp.{Stamp}
use Rattle.group_types.specs.Text.{Text}
use Rattle.group_types.specs.Sets.{has}
use Rattle.group_types.specs.Partition.{Partitions}
use Rattle.group_types.specs.MemberId.{made_id}
use Rattle.group_types.specs.Topics as topics
use Rattle.group_types.specs.AssignorName.{assignor_named}
use Rattle.group_types.specs.Request.{Heartbeat, LEAVES_AT, GOES_AWAY_AT, is_invalid, is_unsupported, reported}
use Rattle.group_types.specs.Join.{names_after}
use Rattle.group_types.specs.Group.{Group, Record, Grants}
use Rattle.group_types.specs.Leave.{last_epoch}
use Rattle.group_types.specs.Checks.{is_late}
use Rattle.group_types.specs.HeartbeatStep.{Answer, Replied, Reply}

abbrev pub Holds : Grants → Text → Partition → Type 0
Holds grants m p = IsTrue (has grants (m, p))

-- the last accepted stamp of an id that has a record, or is a former member's
abbrev pub Seen : Group → Text → Stamp → Type 0
Seen g m s = ((r : Record) × (finite.get g.records m ≡ Some r) × (r.stamp ≡ s)) ⊎ Contains g.past (m, s)

abbrev pub IsLater : Stamp → Stamp → Type 0
IsLater stamp last = is_late stamp last ≡ false

-- no other id than m holds the partition
abbrev pub IsFreeFor : Grants → Text → Partition → Type 0
IsFreeFor grants m p = (n : Text) → Holds grants n p → n ≡ m

-- The partition is among those reported. Where nothing is reported, none was given up.
abbrev pub IsReported : Option Partitions → Partition → Type 0
IsReported None p = Unit {0}
IsReported (Some owned) p = IsTrue (has owned p)

-- the heartbeat names the id
abbrev pub Names : Heartbeat → Text → Type 0
Names q m = (q.member ≡ m) × (q.member ≢ [])

-- the id is made of the serial, which is used up
pub record IsMadeNow (g new : Group) (serial : ℕ) (m : Text) : Type 0 where
  pub made : m ≡ made_id g.salt serial
  pub from : g.serial ≤ serial
  pub fits : serial < 2 ^ 64
  pub next : new.serial ≡ suc serial

-- a join's id: the one that it names, or one that is made
abbrev pub IsNamedBy : Group → Heartbeat → Group → Text → Type 0
IsNamedBy g q new m = Names q m ⊎ ((q.member ≡ []) × (serial : ℕ) × IsMadeNow g new serial m)

-- ---- whose settings a record has

-- the record's names and assignor are those that the heartbeat gives, and else what was stored
pub record IsGiven (q : Heartbeat) (stored_names : topics.Names) (stored_assignor : Option AssignorName) (r : Record) : Type 0 where
  pub names : r.names ≡ names_after stored_names q.names
  pub assignor : r.assignor ≡ option_or (option_and_then assignor_named q.assignor) stored_assignor

-- a member's record has what its heartbeat gives, or what it had before
abbrev pub Gives : Heartbeat → Record → Record → Type 0
Gives q before r = IsGiven q before.names before.assignor r ⊎ ((r.names ≡ before.names) × (r.assignor ≡ before.assignor))

-- the record has what a join gives that was neither invalid nor unsupported
pub record GivesFirst (q : Heartbeat) (r : Record) : Type 0 where
  pub valid : is_invalid q ≡ false
  pub supported : is_unsupported q ≡ false
  pub stored_names : topics.Names
  pub stored_assignor : Option AssignorName
  pub given : IsGiven q stored_names stored_assignor r

-- ---- how a record came to be as it is

-- the heartbeat wasn't its member's
pub record KeepsRecord (g new : Group) (m : Text) (r : Record) : Type 0 where
  pub before : finite.get g.records m ≡ Some r
  pub holds : (p : Partition) → has new.grants (m, p) ≡ has g.grants (m, p)

-- The member beat, rejoined or went away. What it held and reported it holds; its epoch is as it was or rises, and
-- it gives nothing up but where its epoch rises.
pub record HasActed (g : Group) (q : Heartbeat) (stamp : Stamp) (new : Group) (m : Text) (r : Record) : Type 0 where
  pub named : Names q m
  pub before : Record
  pub was : finite.get g.records m ≡ Some before
  pub later : IsLater stamp before.stamp
  pub stamped : r.stamp ≡ stamp
  pub epoch : last_epoch before ≤ last_epoch r
  pub rises : (last_epoch before < last_epoch r) ⊎ ((p : Partition) → Holds g.grants m p → Holds new.grants m p)
  pub keeps : (p : Partition) → IsReported (reported q) p → Holds g.grants m p → Holds new.grants m p
  pub gets : (p : Partition) → Holds new.grants m p → IsFreeFor g.grants m p
  pub instance : (r.instance ≡ before.instance) ⊎ ((q.epoch ≡ pos 0) × (r.instance ≡ q.instance))
  pub settings : Gives q before r
  pub away : r.epoch ≡ Away → q.epoch ≡ GOES_AWAY_AT

-- a new member begins above the target's epoch
pub record IsNew (g : Group) (q : Heartbeat) (stamp : Stamp) (new : Group) (m : Text) (r : Record) : Type 0 where
  pub joins : q.epoch ≡ pos 0
  pub named : IsNamedBy g q new m
  pub absent : finite.get g.records m ≡ None
  pub later : (s : Stamp) → Seen g m s → IsLater stamp s
  pub stamped : r.stamp ≡ stamp
  pub epoch : g.target_epoch < last_epoch r
  pub gets : (p : Partition) → Holds new.grants m p → (n : Text) → ¬ Holds g.grants n p
  pub instance : r.instance ≡ q.instance
  pub settings : GivesFirst q r
  pub present : r.epoch ≡ At (last_epoch r)

-- A static member came back under another id, with what the old one had: it was away, and no epoch falls.
pub record HasTakenOver (g : Group) (q : Heartbeat) (stamp : Stamp) (new : Group) (m : Text) (r : Record) : Type 0 where
  pub joins : q.epoch ≡ pos 0
  pub named : IsNamedBy g q new m
  pub absent : finite.get g.records m ≡ None
  pub later : (s : Stamp) → Seen g m s → IsLater stamp s
  pub stamped : r.stamp ≡ stamp
  pub old : Text
  pub before : Record
  pub was : finite.get g.records old ≡ Some before
  pub away : before.epoch ≡ Away
  pub given : Text
  pub same_instance : (before.instance ≡ Some given) × (q.instance ≡ Some given)
  pub instance : r.instance ≡ q.instance
  pub settings : GivesFirst q r
  pub epoch : last_epoch before ≤ last_epoch r
  pub gets : (p : Partition) → Holds new.grants m p → IsFreeFor g.grants old p
  pub present : r.epoch ≡ At (last_epoch r)

pub data Came (g : Group) (q : Heartbeat) (stamp : Stamp) (new : Group) (m : Text) (r : Record) : Type 0 where
  Kept : KeepsRecord g new m r → Came g q stamp new m r
  Acted : HasActed g q stamp new m r → Came g q stamp new m r
  New : IsNew g q stamp new m r → Came g q stamp new m r
  TookOver : HasTakenOver g q stamp new m r → Came g q stamp new m r

-- ---- what a reply promises

-- A reply of success at an epoch of 0 or more, so to a join or a beat, is the last word of its id's record, and shows what the id holds.
pub record Promises (q : Heartbeat) (stamp : Stamp) (new : Group) (reply : Reply) : Type 0 where
  pub id : Text
  pub is_id : reply.member ≡ Some id
  pub named : q.member ≢ [] → id ≡ q.member
  pub after : Record
  pub has_record : finite.get new.records id ≡ Some after
  pub stamped : after.stamp ≡ stamp
  pub number : ℕ
  pub at : after.epoch ≡ At number
  pub said : reply.epoch ≡ pos number
  pub shows : (shown : Partitions) (p : Partition) → reply.assignment ≡ Some shown → IsTrue (has shown p) → Holds new.grants id p

-- ---- all of it

-- how an id came to be a former member's: it was one, it left by this heartbeat, or it was away and was taken over
pub data Went (g : Group) (q : Heartbeat) (stamp : Stamp) (m : Text) (s : Stamp) : Type 0 where
  WasPast : Contains g.past (m, s) → Went g q stamp m s
  Left : q.epoch ≡ LEAVES_AT → Names q m → s ≡ stamp → (r : Record) → finite.get g.records m ≡ Some r → IsLater stamp r.stamp → Went g q stamp m s
  WasAway : (r : Record) → finite.get g.records m ≡ Some r → r.epoch ≡ Away → r.stamp ≡ s → Went g q stamp m s

pub record Turn (g : Group) (q : Heartbeat) (stamp : Stamp) (answer : Answer) (new : Group) : Type 0 where
  pub salt : new.salt ≡ g.salt
  pub serial : g.serial ≤ new.serial
  pub target_epoch : g.target_epoch ≤ new.target_epoch
  pub came : (m : Text) (r : Record) → finite.get new.records m ≡ Some r → Came g q stamp new m r
  pub went : (m : Text) (s : Stamp) → Contains new.past (m, s) → Went g q stamp m s
  pub replies : (reply : Reply) → answer ≡ Replied reply → reply.code ≡ codes.NoError → int_le (pos 0) reply.epoch ≡ true → Promises q stamp new reply

-- A tick, a commit: some members may go, and are former members with their last stamps; the others are kept.
pub record Pass (g new : Group) : Type 0 where
  pub salt : new.salt ≡ g.salt
  pub serial : g.serial ≤ new.serial
  pub target_epoch : g.target_epoch ≤ new.target_epoch
  pub kept : (m : Text) (r : Record) → finite.get new.records m ≡ Some r → KeepsRecord g new m r
  pub went : (m : Text) (s : Stamp) → Contains new.past (m, s) → Seen g m s
