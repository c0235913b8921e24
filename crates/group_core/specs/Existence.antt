-- That what comes to a group has an answer there: the machine's definition forgets no case.
use Rattle.group_types.specs.Topics.{Topics}
use Rattle.group_types.specs.Group.{Group, Target, Records}
use Rattle.group_types.specs.Renewal.{IsTarget}
use Rattle.group_types.specs.HeartbeatStep.{Answer, Arrival, HeartbeatStep}
use Rattle.group_types.specs.Images.{AreImageTopics}

-- KIP-848, "Target Assignment": whatever the members and the former owners, there is a target over the topics of an image.
-- Where two topics had one id a partition could have two owners under range.
abbrev pub TargetsExist : Type 0
TargetsExist = (records : Records) (view : Topics) (former : Target) → AreImageTopics view → (target : Target) × IsTarget records view former target

-- there is an answer, and a group that is left
pub record IsAnswered (Step : Answer → Group → Type 0) : Type 0 where
  pub answer : Answer
  pub new : Group
  pub step : Step answer new

-- Every heartbeat, at whatever stamp and moment, is answered in every group. Of the topics, those that the group has stored
-- and those that the node has, it is asked that they are an image's: the target is renewed over the one or the other.
-- Nothing else is asked of the group, not even that it is sound.
abbrev pub HasAnAnswer : Type 0
HasAnAnswer = (g : Group) (h : Arrival) → AreImageTopics g.view → AreImageTopics h.image → IsAnswered (HeartbeatStep g h)
