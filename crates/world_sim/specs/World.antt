-- The world: one coordinator, its clients, and every message that was ever sent between them. A message never leaves its
-- pool, so it may be delivered never, once or many times, in any order.
use Rattle.std.specs.Prelude.{ℕ, zero, suc, List, [], ◌∷◌, ◌++◌, map, set, slice_get, Option, None}
use Rattle.std.specs.Option.{option_map_or}
use Rattle.std.specs.FinMap as finite
use Rattle.group_types.specs.declared.stamp.Stamp.{Stamp}
use Rattle.group_types.specs.Text.{Text}
use Rattle.group_types.specs.Sets.{nothing, common}
use Rattle.group_types.specs.Partition.{Partitions}
use Rattle.group_types.specs.Group.{held}
use Rattle.coord_node.specs.Coordinator.{Coordinator, opening}
use Rattle.member_core.specs.Settings.{Settings}
use Rattle.member_core.specs.Client.{Client, new_client}

-- ---- the pools

pub record Request : Type 0 where
  pub sender : ℕ  -- the client's number, from 1
  pub stamp : Stamp
  pub body : List ℕ

pub record Reply : Type 0 where
  pub request : Request  -- that it answers
  pub body : List ℕ

-- A commit, with its maker's group, id, member epoch and own set when it was made. `since` has what of the own set has
-- been granted to the id from then on, without a break.
pub record Commit : Type 0 where
  pub body : List ℕ
  pub group : Text
  pub id : Text
  pub epoch : ℕ
  pub own : Partitions
  pub since : Partitions

pub record World : Type 0 where
  pub coordinator : Coordinator
  pub clock : ℕ
  pub clients : List Client  -- numbered from 1, as each pool is
  pub requests : List Request
  pub replies : List Reply
  pub commits : List Commit

-- with clients that haven't asked for anything yet
abbrev pub new_world : ℕ → List Settings → World
new_world salt clients =
    record {
      coordinator = opening salt;
      clock = 0;
      clients = map new_client clients;
      requests = [];
      replies = [];
      commits = [];
    }

-- ---- look-ups

-- what has a number, from 1
abbrev pub numbered : {X : Type 0} → List X → ℕ → Option X
numbered xs zero = None
numbered xs (suc n) = slice_get xs n

-- the partitions that an id is granted in a group: none where the group isn't there
abbrev pub granted : Coordinator → Text → Text → Partitions
granted c group id = option_map_or (λ g. held g.grants id) (finite.get c.groups group) nothing

-- ---- changes

-- the list with something else under a number
abbrev pub renumbered : {X : Type 0} → List X → ℕ → X → List X
renumbered xs zero x = xs
renumbered xs (suc n) x = set xs n x

-- a commit without what its id isn't granted now
abbrev pub cut : Coordinator → Commit → Commit
cut c k = record k { since = common k.since (granted c k.group k.id) }

-- the coordinator has gone on: of each commit's `since` only what is granted still is left
abbrev pub with_coordinator : World → Coordinator → World
with_coordinator w c = record w { coordinator = c; commits = map (cut c) w.commits }

abbrev pub with_client : World → ℕ → Client → World
with_client w n c = record w { clients = renumbered w.clients n c }

abbrev pub with_request : World → Request → World
with_request w q = record w { requests = w.requests ++ q ∷ [] }

abbrev pub with_reply : World → Reply → World
with_reply w r = record w { replies = w.replies ++ r ∷ [] }

abbrev pub with_commit : World → Commit → World
with_commit w k = record w { commits = w.commits ++ k ∷ [] }
