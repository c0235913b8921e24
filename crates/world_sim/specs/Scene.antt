-- What the code's scene is as a world.
use Rattle.std.specs.Prelude.{◌≡◌, ℕ, ◌+◌, ◌<◌, length, slice_get, Some}
use Rattle.coord_node.specs.Nodes.{coordinator_of}
use Rattle.world_sim.specs.declared.mail.Reply as answer
use Rattle.world_sim.specs.declared.scene.Scene.{Scene}
use Rattle.world_sim.specs.World.{World}
use Rattle.world_sim.specs.Mail.{requests_of, reply_value, replies_of}

abbrev pub scene_view : Scene → World
scene_view s =
    record {
      coordinator = coordinator_of s.node;
      clock = s.clock;
      clients = s.clients.items;
      requests = requests_of s.requests.items;
      replies = replies_of s.requests.items s.replies.items;
      commits = s.commits.items;
    }

-- the place of the client whose request the reply at a place answers
abbrev pub IsTaker : Scene → ℕ → ℕ → Type 0
IsTaker s place client =
    (r : answer.Reply) → slice_get s.replies.items place ≡ Some r
    → ((reply_value s.requests.items r).request.sender ≡ client + 1) × (client < length s.clients.items)
