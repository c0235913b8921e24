-- That the laws of one group aren't empty: what they speak of is there in groups to which events led from a new one.
use Rattle.std.specs.Prelude.{◌≡◌, ℕ, ℤ, suc, pos, ◌<◌, false, List, Some, None}
use Rattle.std.specs.FinMap as finite
use Rattle.std.specs.declared.cmp.Ordering.TheVariants.{Greater}
use Rattle.group_types.specs.Limits.{GREATEST_EPOCH}
use Rattle.group_types.specs.Text.{Text}
use Rattle.group_types.specs.Images.{AreImageTopics}
use Rattle.group_types.specs.Stamp.{stamp_cmp}
use Rattle.group_types.specs.Request.{is_invalid, is_unsupported}
use Rattle.group_types.specs.Group.{Committed, Group, Record, starting_group}
use Rattle.group_types.specs.Leave.{last_epoch}
use Rattle.group_types.specs.HeartbeatStep.{Answer, Arrival, HeartbeatStep}
use Rattle.group_types.specs.Sound.{IsSound}
use Rattle.group_types.specs.Laws.{GroupEvent, IsGroupRun}
use Rattle.group_types.specs.Fencing.{IsAcceptedAs}
use Rattle.group_types.specs.Deadlines.{HasToGiveUp}
use Rattle.group_types.specs.StoredOffsets.{last_committed}

-- A member beats, in order and later than before, and is accepted, where some events led to the group from a new one. That meets the
-- premises of the laws on targets, sessions, releases, epochs, previous epochs, stored requests, fences and clocks.
pub record Beats (g : Group) (m : Text) (before after : Record) (new : Group) : Type 0 where
  pub events : List GroupEvent
  pub run : IsGroupRun (starting_group 0 0) events g
  pub sound : IsSound g
  pub arrival : Arrival
  pub topics : AreImageTopics arrival.image
  pub answer : Answer
  pub step : HeartbeatStep g arrival answer new
  pub accepted : IsAcceptedAs m answer
  pub sender : arrival.heartbeat.member ≡ m
  pub epoch : ℕ
  pub is_epoch : arrival.heartbeat.epoch ≡ pos (suc epoch)
  pub valid : is_invalid arrival.heartbeat ≡ false
  pub supported : is_unsupported arrival.heartbeat ≡ false
  pub was : finite.get g.records m ≡ Some before
  pub is : finite.get new.records m ≡ Some after
  pub later : stamp_cmp arrival.stamp before.stamp ≡ Greater
  pub below : new.epoch < GREATEST_EPOCH

-- A member is asked to give up what its target doesn't give it, and gets a deadline. By its next beat it gives that up: it goes on
-- to the target's epoch, and the deadline is gone.
pub record SomeMemberGivesUp : Type 0 where
  pub member : Text
  pub start : Group
  pub holder : Record
  pub asked : Group
  pub owing : Record
  pub asks : Beats start member holder owing asked
  pub unasked : holder.release_deadline ≡ None
  pub owes : HasToGiveUp asked member
  pub deadline : ℕ
  pub is_deadline : owing.release_deadline ≡ Some deadline
  pub next : Group
  pub released : Record
  pub last : Group
  pub gives_up : Beats next member owing released last
  pub rises : last_epoch owing < last_epoch released
  pub over : released.release_deadline ≡ None

-- an offset is committed and answered with no error
pub record SomeOffsetIsStored : Type 0 where
  pub events : List GroupEvent
  pub group : Group
  pub run : IsGroupRun (starting_group 0 0) events group
  pub name : Text
  pub index : ℤ
  pub committed : Committed
  pub last : last_committed name index events ≡ Some committed
