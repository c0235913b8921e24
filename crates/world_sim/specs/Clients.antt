-- What the code's client and commit are as the world's.
use Rattle.std.specs.Prelude.{◌≡◌, ℕ, ◌≤◌, true, is_some, List, length, string_bytes}
use Rattle.kip_msgs.specs.Values.{CommitRequestTopicValue}
use Rattle.kip_msgs.specs.Spelling.{SpellsRequest}
use Rattle.group_types.specs.Limits.{LARGEST_BODY}
use Rattle.member_core.specs.Client.{Client}
use Rattle.member_core.specs.Asking as asking
use Rattle.member_core.specs.Asking.{Ask}
use Rattle.member_core.specs.Committing.{commit_for, may_commit_at}
use Rattle.world_sim.specs.declared.client.Client.TheInside.{Inside}
use Rattle.world_sim.specs.World.{Commit}
use Rattle.world_sim.specs.Acts.{commit_by}
use Rattle.world_sim.specs.Standing.{client_of}

-- what is kept beside a member: its group's name, the number of its latest request, and whether it has an instance id
pub record IsClient (c : Inside) : Type 0 where
  pub group : string_bytes c.group ≡ (client_of c.standing).settings.group
  pub number : c.requests ≡ (client_of c.standing).number
  pub instance : c.is_static ≡ is_some (client_of c.standing).settings.instance

-- the client makes a request with this body, which isn't too large
pub record AsksWithin (c : Client) (ask : Ask) (body : List ℕ) (new : Client) : Type 0 where
  pub asks : asking.Asks c ask body new
  pub limit : length body ≤ LARGEST_BODY

-- it is the client's commit of these topics under a number, and isn't too large
pub record IsCommitOf (c : Client) (number : ℕ) (topics : List CommitRequestTopicValue) (k : Commit) : Type 0 where
  pub may : may_commit_at c.place ≡ true
  pub spells : SpellsRequest (commit_for c number topics) k.body
  pub is : k ≡ commit_by c k.body
  pub limit : length k.body ≤ LARGEST_BODY
