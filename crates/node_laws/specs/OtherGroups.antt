-- What an event changes of the groups of a node.
use Rattle.std.specs.Prelude.{◌≡◌, ℕ, ℤ, List, All, Some, None}
use Rattle.std.specs.FinMap as finite
use Rattle.kip_msgs.specs.Values.{RequestValue, heartbeat_request, commit_request}
use Rattle.group_types.specs.declared.code.Code.{Code}
use Rattle.group_types.specs.declared.code.Code.TheVariants.{GroupIdNotFound}
use Rattle.group_types.specs.declared.stamp.Stamp.{Stamp}
use Rattle.group_types.specs.Text.{Text}
use Rattle.group_types.specs.Topics.{Topics}
use Rattle.group_types.specs.Group.{Group}
use Rattle.group_types.specs.Commit.{Commit, CommitReply}
use Rattle.coord_node.specs.Coordinator.{Coordinator, Frame, Image, Answer}
use Rattle.coord_node.specs.Steps.{CommitAt, IsRequest, Step}

-- the group that a request names
abbrev pub group_named : RequestValue → Text
group_named (heartbeat_request header v) = v.group_id
group_named (commit_request header v) = v.group_id

-- Each other group is as it was, and no group goes; nor do the topics change, nor the salt.
pub record StaysBeside (c new : Coordinator) (named : Text → Type 0) : Type 0 where
  pub others : (name : Text) → ¬ named name → finite.get new.groups name ≡ finite.get c.groups name
  pub goes_on : (name : Text) (g : Group) → finite.get c.groups name ≡ Some g → (h : Group) × (finite.get new.groups name ≡ Some h)
  pub image : new.image ≡ c.image
  pub salt : new.salt ≡ c.salt

-- the body is a request that names the group
abbrev pub Names : List ℕ → Text → Type 0
Names body name = (v : RequestValue) × IsRequest v body × (group_named v ≡ name)

abbrev pub OtherGroupsStay : Type 0
OtherGroupsStay =
    (c : Coordinator) (body : List ℕ) (stamp : Stamp) (moment : ℕ) (answer : Answer) (new : Coordinator)
    → Step c (Frame body stamp moment) answer new → StaysBeside c new (Names body)

-- the groups stay, and so does the salt
pub record HasImage (c new : Coordinator) (topics : Topics) : Type 0 where
  pub image : new.image ≡ topics
  pub groups : (name : Text) → finite.get new.groups name ≡ finite.get c.groups name
  pub salt : new.salt ≡ c.salt

abbrev pub ImagesChangeTheImageAlone : Type 0
ImagesChangeTheImageAlone =
    (c : Coordinator) (topics : Topics) (answer : Answer) (new : Coordinator) → Step c (Image topics) answer new → HasImage c new topics

-- Kafka protocol guide, "Error Codes": each partition of the commit is answered with GROUP_ID_NOT_FOUND, and nothing has changed
pub record IsToldOfNoGroup (c : Coordinator) (reply : CommitReply) (new : Coordinator) : Type 0 where
  pub codes : All (λ (t : Text × List (ℤ × Code)). All (λ (x : ℤ × Code). x.1 ≡ GroupIdNotFound) t.1) reply
  pub same : new ≡ c

abbrev pub CommitsOfNoGroupAreTold : Type 0
CommitsOfNoGroupAreTold =
    (c : Coordinator) (r : Commit) (reply : CommitReply) (new : Coordinator)
    → finite.get c.groups r.group ≡ None → CommitAt (finite.get c.groups r.group) c r reply new → IsToldOfNoGroup c reply new
