-- The world keeps what it knows where its coordinator goes on.
use Rattle.std.proofs.Common.{◌≡◌, ◌⊎◌, ℕ, map, Option, Some, refl, sym, subst, ◌∙◌, inl, inr}
use Rattle.std.specs.List.{Contains}
use Rattle.group_types.specs.Text.{Text}
use Rattle.group_types.specs.Images.{AreImageTopics}
use Rattle.group_types.specs.Sets.{common}
use Rattle.group_types.specs.Partition.{Partitions}
use Rattle.group_types.specs.Request.{Heartbeat}
use Rattle.group_types.specs.Group.{Group, held}
use Rattle.group_types.specs.HeartbeatStep.{Answer}
use Rattle.group_types.specs.Sound.{IsSound}
use Rattle.group_types.proofs.Lookups.{some_is}
use Rattle.coord_node.specs.Coordinator.{Coordinator}
use Rattle.coord_node.specs.Laws.{IsServing}
use Rattle.member_core.specs.Client.{Client}
use Rattle.member_core.specs.Taking.{Accepts, Tells}
use Rattle.world_sim.specs.World.{World, Request, Reply, Commit, numbered, cut, with_coordinator, with_reply, with_request, with_commit}
use Rattle.world_sim.specs.Turn.{Pass, Turn}
use Rattle.world_sim.specs.Invariant.{Clients, GroupKeeps, ClientKeeps, RequestKeeps, ReplyKeeps, CommitKeeps, Committed, Keeps, Says, clients_of, group_at}
use Rattle.world_sim.proofs.Lists.{from_in, in_map, to_in}
use Rattle.world_sim.proofs.Numbered.{one_more}
use Rattle.world_sim.proofs.Groups.{granted_at, sound_groups}
use Rattle.world_sim.proofs.KeptByTurns as heart
use Rattle.world_sim.proofs.KeptByTurns.{IsIn}
use Rattle.world_sim.proofs.KeptByPasses as passing

-- how a group goes on
pub data Goes (g new : Group) (clients : Clients) : Type 0 where
  Passing : Pass g new → Goes g new clients
  Turning : (n number : ℕ) (q : Heartbeat) (answer : Answer) → IsIn g clients n number q → Turn g q (record { connection = n; frame = number }) answer new → Goes g new clients

module _ (g new : Group) (clients : Clients) (group : GroupKeeps g clients) (sound : IsSound new) where
  go_group : Goes g new clients → GroupKeeps new clients
  go_group (Passing pass) = passing.group_passes g new clients group pass sound
  go_group (Turning n number q answer it turn) = heart.group_keeps g new clients n number q answer it turn sound

  go_client : Goes g new clients → (k : ℕ) (c : Client) → clients k c → ClientKeeps g clients k c → ClientKeeps new clients k c
  go_client (Passing pass) k c is keeps = passing.client_passes g new clients group pass sound k c keeps
  go_client (Turning n number q answer it turn) k c is keeps = heart.client_keeps g new clients n number q answer it turn k c is keeps

  go_request : Goes g new clients → (k j : ℕ) (q : Heartbeat) → ((c : Client) → clients k c → ClientKeeps g clients k c) → RequestKeeps g clients k j q → RequestKeeps new clients k j q
  go_request (Passing pass) k j q client keeps = passing.request_passes g new clients group pass k j q keeps
  go_request (Turning n number q' answer it turn) k j q client keeps = heart.request_keeps g new clients n number q' answer it turn k j q client keeps

  go_reply : Goes g new clients → (k j : ℕ) (m : Text) (epoch : ℕ) (shown : Option Partitions) → ReplyKeeps g clients k j m epoch shown → ReplyKeeps new clients k j m epoch shown
  go_reply (Passing pass) k j m epoch shown keeps = passing.reply_passes g new clients group pass sound k j m epoch shown keeps
  go_reply (Turning n number q answer it turn) k j m epoch shown keeps = heart.reply_keeps g new clients n number q answer it turn k j m epoch shown keeps

  go_commit : Goes g new clients → (k : Commit) → CommitKeeps g clients k → CommitKeeps new clients (record k { since = common k.since (held new.grants k.id) })
  go_commit (Passing pass) k keeps = passing.commit_passes g new clients group pass sound k keeps
  go_commit (Turning n number q answer it turn) k keeps = heart.commit_keeps g new clients n number q answer it turn k keeps

-- the coordinator serves
pub serving : (w : World) → Keeps w → IsServing w.coordinator
serving w keeps = record { groups = sound_groups w.coordinator (λ name. (keeps.groups name).sound); image = keeps.image }

-- one client has a number
pub one_client : (w : World) (name : Text) (k : ℕ) (c d : Client) → clients_of w.clients name k c → clients_of w.clients name k d → c ≡ d
one_client w name k c d one other = some_is c d (sym one.0 ∙ other.0)

-- what is known of a client of a group
pub client_in : (w : World) → Keeps w → (name : Text) (k : ℕ) (c : Client) → clients_of w.clients name k c → ClientKeeps (group_at w.coordinator name) (clients_of w.clients name) k c
client_in w keeps name k c is =
    subst (λ (x : Text). ClientKeeps (group_at w.coordinator x) (clients_of w.clients x) k c) is.1 (keeps.clients k c is.0)

module _ (w : World) (keeps : Keeps w) (c : Coordinator) (image : AreImageTopics c.image) (sound : (name : Text) → IsSound (group_at c name))
    (goes : (name : Text) → Goes (group_at w.coordinator name) (group_at c name) (clients_of w.clients name)) where
  request_goes : (q : Request) → Says w.coordinator w.clients q → Says c w.clients q
  request_goes q old =
      let name = old.heartbeat.group in
      record {
        heartbeat = old.heartbeat;
        spells = old.spells;
        connection = old.connection;
        client = old.client;
        sender = old.sender;
        keeps = go_request (group_at w.coordinator name) (group_at c name) (clients_of w.clients name) (keeps.groups name) (sound name) (goes name)
            q.sender q.stamp.frame old.heartbeat (client_in w keeps name q.sender) old.keeps;
      }

  commit_goes : (k : Commit) → Committed w.coordinator w.clients k → Committed c w.clients (cut c k)
  commit_goes k old =
      record {
        number = old.number;
        topics = old.topics;
        spells = old.spells;
        keeps = subst (λ (held_now : Partitions). CommitKeeps (group_at c k.group) (clients_of w.clients k.group) (record k { since = common k.since held_now }))
            (sym (granted_at c k.group k.id))
            (go_commit (group_at w.coordinator k.group) (group_at c k.group) (clients_of w.clients k.group) (keeps.groups k.group) (sound k.group) (goes k.group) k old.keeps);
      }

  pub coordinator_keeps : Keeps (with_coordinator w c)
  coordinator_keeps =
      record {
        image = image;
        groups = λ name. go_group (group_at w.coordinator name) (group_at c name) (clients_of w.clients name) (keeps.groups name) (sound name) (goes name);
        clients = λ n x is.
            let name = x.settings.group in
            go_client (group_at w.coordinator name) (group_at c name) (clients_of w.clients name) (keeps.groups name) (sound name) (goes name) n x (is, refl) (keeps.clients n x is);
        requests = λ q there. request_goes q (keeps.requests q there);
        replies = λ r x number m epoch shown there is tells.
            let name = x.settings.group in
            go_reply (group_at w.coordinator name) (group_at c name) (clients_of w.clients name) (keeps.groups name) (sound name) (goes name)
            r.request.sender number m epoch shown (keeps.replies r x number m epoch shown there is tells);
        takers = keeps.takers;
        commits = λ k there.
            let before = in_map (cut c) w.commits k (to_in (map (cut c) w.commits) k there) in
            subst (λ (x : Commit). Committed c w.clients x) before.2 (commit_goes before.0 (keeps.commits before.0 (from_in w.commits before.0 before.1)));
      }

-- ---- one more message

pub with_request_keeps : (w : World) → Keeps w → (q : Request) → Says w.coordinator w.clients q → Keeps (with_request w q)
with_request_keeps w keeps q says =
    record {
      image = keeps.image;
      groups = keeps.groups;
      clients = keeps.clients;
      requests = λ x there. by x (one_more w.requests q x there);
      replies = keeps.replies;
      takers = keeps.takers;
      commits = keeps.commits;
    }
  where
    by : (x : Request) → Contains w.requests x ⊎ (x ≡ q) → Says w.coordinator w.clients x
    by x (inl there) = keeps.requests x there
    by x (inr is) = subst (λ (y : Request). Says w.coordinator w.clients y) (sym is) says

pub with_commit_keeps : (w : World) → Keeps w → (k : Commit) → Committed w.coordinator w.clients k → Keeps (with_commit w k)
with_commit_keeps w keeps k committed =
    record {
      image = keeps.image;
      groups = keeps.groups;
      clients = keeps.clients;
      requests = keeps.requests;
      replies = keeps.replies;
      takers = keeps.takers;
      commits = λ x there. by x (one_more w.commits k x there);
    }
  where
    by : (x : Commit) → Contains w.commits x ⊎ (x ≡ k) → Committed w.coordinator w.clients x
    by x (inl there) = keeps.commits x there
    by x (inr is) = subst (λ (y : Commit). Committed w.coordinator w.clients y) (sym is) committed

-- what a new reply has to be
pub record IsReplyIn (w : World) (r : Reply) : Type 0 where
  pub keeps : (c : Client) (number : ℕ) (m : Text) (epoch : ℕ) (shown : Option Partitions)
      → numbered w.clients r.request.sender ≡ Some c → Tells number r.body (Accepts m epoch shown)
      → ReplyKeeps (group_at w.coordinator c.settings.group) (clients_of w.clients c.settings.group) r.request.sender number m epoch shown
  pub taker : (c : Client) × (numbered w.clients r.request.sender ≡ Some c)

pub with_reply_keeps : (w : World) → Keeps w → (r : Reply) → IsReplyIn w r → Keeps (with_reply w r)
with_reply_keeps w keeps r is_in =
    record {
      image = keeps.image;
      groups = keeps.groups;
      clients = keeps.clients;
      requests = keeps.requests;
      replies = λ x c number m epoch shown there. by x c number m epoch shown (one_more w.replies r x there);
      takers = λ x there. taker x (one_more w.replies r x there);
      commits = keeps.commits;
    }
  where
    by : (x : Reply) (c : Client) (number : ℕ) (m : Text) (epoch : ℕ) (shown : Option Partitions) → Contains w.replies x ⊎ (x ≡ r)
        → numbered w.clients x.request.sender ≡ Some c → Tells number x.body (Accepts m epoch shown)
        → ReplyKeeps (group_at w.coordinator c.settings.group) (clients_of w.clients c.settings.group) x.request.sender number m epoch shown
    by x c number m epoch shown (inl there) is tells = keeps.replies x c number m epoch shown there is tells
    by x c number m epoch shown (inr same) is tells =
        subst (λ (y : Reply). ReplyKeeps (group_at w.coordinator c.settings.group) (clients_of w.clients c.settings.group) y.request.sender number m epoch shown) (sym same)
        (is_in.keeps c number m epoch shown (subst (λ (y : Reply). numbered w.clients y.request.sender ≡ Some c) same is)
        (subst (λ (y : Reply). Tells number y.body (Accepts m epoch shown)) same tells))

    taker : (x : Reply) → Contains w.replies x ⊎ (x ≡ r) → (c : Client) × (numbered w.clients x.request.sender ≡ Some c)
    taker x (inl there) = keeps.takers x there
    taker x (inr same) = subst (λ (y : Reply). (c : Client) × (numbered w.clients y.request.sender ≡ Some c)) (sym same) is_in.taker
