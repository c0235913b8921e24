-- What holds in the world after every act, beside Exclusivity: why it holds.
use Rattle.std.specs.Prelude.{◌≡◌, ◌≢◌, ◌⊎◌, ℕ, ◌<◌, ◌≤◌, ◌^◌, pos, negsuc, true, false, List, [], Option, Some, None, unwrap_or, IsTrue}
use Rattle.std.specs.List.{Contains}
use Rattle.std.specs.Option.{option_or, option_and_then}
use Rattle.std.specs.FinMap as finite
use Rattle.kip_msgs.specs.Values.{CommitRequestTopicValue, commit_request}
use Rattle.kip_msgs.specs.Spelling.{SpellsRequest}
use Rattle.group_types.specs.declared.epoch.Epoch.TheVariants.{Away}
use Rattle.group_types.specs.declared.partition.Partition.{Partition}
use Rattle.group_types.specs.declared.stamp.Stamp.{Stamp}
use Rattle.group_types.specs.Text.{Text}
use Rattle.group_types.specs.Images.{AreImageTopics}
use Rattle.group_types.specs.Sets.{nothing, has, of_list}
use Rattle.group_types.specs.Partition.{Partitions}
use Rattle.group_types.specs.MemberId.{made_id}
use Rattle.group_types.specs.AssignorName.{assignor_named}
use Rattle.group_types.specs.Request.{Heartbeat, is_unknown, reported}
use Rattle.group_types.specs.Group.{Group, Record, new_group}
use Rattle.group_types.specs.Leave.{last_epoch}
use Rattle.group_types.specs.Sound.{IsSound}
use Rattle.coord_node.specs.Coordinator.{Coordinator}
use Rattle.member_core.specs.Settings.{Settings}
use Rattle.member_core.specs.Client.{Client, Outside, Inside, Gone}
use Rattle.member_core.specs.Asking.{header_of, request_value}
use Rattle.member_core.specs.Taking.{Accepts, Tells}
use Rattle.member_core.specs.Committing.{commit_value}
use Rattle.world_sim.specs.World.{World, Request, Reply, Commit, numbered}
use Rattle.world_sim.specs.Turn.{Holds, Seen, IsLater}

-- the clients of a group, by their numbers
abbrev pub Clients : Type 1
Clients = ℕ → Client → Type 0

-- an id that the group made
pub record IsMade (g : Group) (m : Text) : Type 0 where
  pub serial : ℕ
  pub below : serial < g.serial
  pub fits : serial < 2 ^ 64
  pub made : m ≡ made_id g.salt serial

-- An id is one client's: wherever it is seen, its last stamp is that client's, and no later than the client's latest.
pub record IsOf (g : Group) (m : Text) (n : ℕ) (number : ℕ) : Type 0 where
  pub made : IsMade g m
  pub owner : (s : Stamp) → Seen g m s → s.connection ≡ n
  pub latest : (s : Stamp) → Seen g m s → s.frame ≤ number

-- a client's latest request was the last that came under the id: it asks for nothing any more
abbrev pub IsOver : Client → Stamp → Type 0
IsOver c s = (c.place ≡ Gone) × (c.number ≤ s.frame)

-- The id has gone at this epoch or later, and might come back by a take-over: then whoever has its instance now is above
-- the epoch, or its client asks for nothing any more.
abbrev pub Lags : Group → Clients → Text → ℕ → Type 0
Lags g clients m epoch =
    (s : Stamp) (c : Client) (heir instance : Text) (r : Record) → Contains g.past (m, s) → clients s.connection c
    → c.settings.instance ≡ Some instance → finite.get g.records heir ≡ Some r → r.instance ≡ Some instance
    → IsOver c s ⊎ (epoch < last_epoch r)

-- ---- settings

-- A record is of a client whose group has a name, and whose assignor, if it names one, is one that there is. It has the
-- client's names, and that assignor: what the client says of them again leaves it as it is. (Where the client names no
-- assignor, a take-over leaves the old one's.)
pub record IsOfSettings (s : Settings) (r : Record) : Type 0 where
  pub group : s.group ≢ []
  pub supported : is_unknown s.assignor ≡ false
  pub names : r.names ≡ of_list s.names
  pub assignor : option_or (option_and_then assignor_named s.assignor) r.assignor ≡ r.assignor

-- a request says its client's names and assignor, or nothing of them; a join says them
pub record SaysSettings (s : Settings) (q : Heartbeat) : Type 0 where
  pub group : q.group ≡ s.group
  pub names : (q.names ≡ None) ⊎ (q.names ≡ Some s.names)
  pub assignor : (q.assignor ≡ None) ⊎ (q.assignor ≡ s.assignor)
  pub joins : q.epoch ≡ pos 0 → (q.names ≡ Some s.names) × (q.assignor ≡ s.assignor)

-- ---- the group

pub record GroupKeeps (g : Group) (clients : Clients) : Type 0 where
  pub sound : IsSound g
  pub made : (m : Text) (s : Stamp) → Seen g m s → IsMade g m
  pub owner : (m : Text) (s : Stamp) → Seen g m s → (c : Client) × clients s.connection c
  -- a record's instance is its client's, and the client of a record that is away asks for nothing any more
  pub instance : (m : Text) (r : Record) (c : Client) → finite.get g.records m ≡ Some r → clients r.stamp.connection c
      → r.instance ≡ c.settings.instance
  pub away : (m : Text) (r : Record) (c : Client) → finite.get g.records m ≡ Some r → r.epoch ≡ Away
      → clients r.stamp.connection c → IsOver c r.stamp
  pub settings : (m : Text) (r : Record) (c : Client) → finite.get g.records m ≡ Some r → clients r.stamp.connection c
      → IsOfSettings c.settings r

-- ---- the clients

-- A client under the number n: its id is its own, it reads what the id holds, and knows no later epoch than the id's.
pub record ClientKeeps (g : Group) (clients : Clients) (n : ℕ) (c : Client) : Type 0 where
  pub its : (m : Text) → c.id ≡ Some m → IsOf g m n c.number
  pub holds : (m : Text) (r : Record) (p : Partition) → c.id ≡ Some m → finite.get g.records m ≡ Some r
      → IsTrue (has c.own p) → Holds g.grants m p
  pub behind : (m : Text) (r : Record) → c.id ≡ Some m → finite.get g.records m ≡ Some r → c.epoch ≤ last_epoch r
  pub below : c.epoch ≤ g.target_epoch
  pub lags : (m : Text) → c.id ≡ Some m → Lags g clients m c.epoch
  pub inside : c.place ≡ Inside → (m : Text) × (c.id ≡ Some m) × (0 < c.epoch)
  pub empty : c.place ≢ Inside → c.own ≡ nothing
  pub outside : c.place ≡ Outside → c.epoch ≡ 0
  pub gone : c.place ≡ Gone → c.waits ≡ false

-- ---- the requests

-- the client who sent a request, and may have sent more since
pub record SenderKeeps (g : Group) (n number : ℕ) (q : Heartbeat) (c : Client) : Type 0 where
  pub sent : number ≤ c.number
  -- Where its id is seen, and it comes after that, it reports at least what the client reads. (Of a forgotten id nothing is
  -- said: its joins aren't delivered.)
  pub reports : (owned : Partitions) (p : Partition) (s : Stamp) → c.id ≡ Some q.member → reported q ≡ Some owned
      → Seen g q.member s → IsLater (record { connection = n; frame = number }) s
      → IsTrue (has c.own p) → IsTrue (has owned p)
  -- and where such a request is a join, the client is outside: it owns nothing and knows no epoch
  pub outside : (s : Stamp) → c.id ≡ Some q.member → q.epoch ≡ pos 0 → Seen g q.member s
      → IsLater (record { connection = n; frame = number }) s → c.epoch ≡ 0
  pub names : c.waits ≡ true → number ≡ c.number → q.member ≡ unwrap_or c.id []
  pub instance : q.epoch ≡ pos 0 → q.instance ≡ c.settings.instance
  pub leaves : (below : ℕ) → q.epoch ≡ negsuc below → (c.place ≡ Gone) × (number ≡ c.number)
  pub settings : SaysSettings c.settings q

pub record RequestKeeps (g : Group) (clients : Clients) (n number : ℕ) (q : Heartbeat) : Type 0 where
  pub owner : q.member ≢ [] → (s : Stamp) → Seen g q.member s → s.connection ≡ n
  pub made : q.member ≢ [] → IsMade g q.member
  pub sender : (c : Client) → clients n c → SenderKeeps g n number q c

-- ---- the replies

-- the client who may still take a reply: it is the last that came of its id, and shows what the id holds
pub record TakerKeeps (g : Group) (n : ℕ) (c : Client) (m : Text) (epoch : ℕ) (shown : Option Partitions) : Type 0 where
  pub same : (id : Text) → c.id ≡ Some id → m ≡ id
  pub answers : (s : Stamp) → Seen g m s → s ≡ record { connection = n; frame = c.number }
  pub shows : (set : Partitions) (r : Record) (p : Partition) → shown ≡ Some set → finite.get g.records m ≡ Some r
      → IsTrue (has set p) → Holds g.grants m p
  pub behind : (r : Record) → finite.get g.records m ≡ Some r → epoch ≤ last_epoch r

pub record ReplyKeeps (g : Group) (clients : Clients) (n number : ℕ) (m : Text) (epoch : ℕ) (shown : Option Partitions) : Type 0 where
  pub made : IsMade g m
  pub owner : (s : Stamp) → Seen g m s → s.connection ≡ n
  pub below : epoch ≤ g.target_epoch
  pub lags : Lags g clients m epoch
  pub sent : (c : Client) → clients n c → number ≤ c.number
  pub taker : (c : Client) → clients n c → c.waits ≡ true → number ≡ c.number → TakerKeeps g n c m epoch shown

-- ---- the commits

-- A commit is at or below its id's epoch, and at it only while all that its maker read has been granted since.
pub record CommitKeeps (g : Group) (clients : Clients) (k : Commit) : Type 0 where
  pub made : IsMade g k.id
  pub below : k.epoch ≤ g.target_epoch
  pub behind : (r : Record) → finite.get g.records k.id ≡ Some r → k.epoch ≤ last_epoch r
  pub still : (r : Record) (p : Partition) → finite.get g.records k.id ≡ Some r → k.epoch ≡ last_epoch r
      → IsTrue (has k.own p) → IsTrue (has k.since p)
  pub within : (p : Partition) → IsTrue (has k.since p) → Holds g.grants k.id p
  pub lags : Lags g clients k.id k.epoch

-- ---- the world

-- a group that isn't there is a new one
abbrev pub group_at : Coordinator → Text → Group
group_at c name = unwrap_or (finite.get c.groups name) (new_group c.salt)

-- the clients of a group
abbrev pub clients_of : List Client → Text → Clients
clients_of all name n c = (numbered all n ≡ Some c) × (c.settings.group ≡ name)

-- a pooled request is of its sender's group, and says this
pub record Says (coordinator : Coordinator) (all : List Client) (q : Request) : Type 0 where
  pub heartbeat : Heartbeat
  pub spells : SpellsRequest (request_value q.stamp.frame heartbeat) q.body
  pub connection : q.stamp.connection ≡ q.sender
  pub client : Client
  pub sender : clients_of all heartbeat.group q.sender client
  pub keeps : RequestKeeps (group_at coordinator heartbeat.group) (clients_of all heartbeat.group) q.sender q.stamp.frame heartbeat

-- a pooled commit is as its maker was
pub record Committed (coordinator : Coordinator) (all : List Client) (k : Commit) : Type 0 where
  pub number : ℕ
  pub topics : List CommitRequestTopicValue
  pub spells : SpellsRequest (commit_request (header_of number) (commit_value k.group k.id k.epoch topics)) k.body
  pub keeps : CommitKeeps (group_at coordinator k.group) (clients_of all k.group) k

pub record Keeps (w : World) : Type 0 where
  pub image : AreImageTopics w.coordinator.image
  pub groups : (name : Text) → GroupKeeps (group_at w.coordinator name) (clients_of w.clients name)
  pub clients : (n : ℕ) (c : Client) → numbered w.clients n ≡ Some c → ClientKeeps (group_at w.coordinator c.settings.group) (clients_of w.clients c.settings.group) n c
  pub requests : (q : Request) → Contains w.requests q → Says w.coordinator w.clients q
  pub replies : (r : Reply) (c : Client) (number : ℕ) (m : Text) (epoch : ℕ) (shown : Option Partitions) → Contains w.replies r
      → numbered w.clients r.request.sender ≡ Some c → Tells number r.body (Accepts m epoch shown)
      → ReplyKeeps (group_at w.coordinator c.settings.group) (clients_of w.clients c.settings.group) r.request.sender number m epoch shown
  pub takers : (r : Reply) → Contains w.replies r → (c : Client) × (numbered w.clients r.request.sender ≡ Some c)
  pub commits : (k : Commit) → Contains w.commits k → Committed w.coordinator w.clients k
