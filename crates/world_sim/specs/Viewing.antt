-- What is seen of a client, and of a reply.
use Rattle.std.specs.Prelude.{◌≡◌, ℕ, List, Some}
use Rattle.std.specs.List.{Contains}
use Rattle.std.specs.Option.{option_copied}
use Rattle.kip_msgs.specs.Values.{ResponseHeaderValue, HeartbeatReplyValue, heartbeat_reply}
use Rattle.kip_msgs.specs.Spelling.{SpellsReply}
use Rattle.member_core.specs.Client.{Client, state_of}
use Rattle.world_sim.specs.declared.view.ClientView.{ClientView}
use Rattle.world_sim.specs.World.{World, Reply, numbered}
use Rattle.world_sim.specs.Standing.{state_value}

-- it shows the client under the number
pub record IsView (w : World) (n : ℕ) (view : ClientView) : Type 0 where
  pub client : Client
  pub is_client : numbered w.clients n ≡ Some client
  pub state : state_value view.state ≡ state_of client
  pub id : option_copied view.id ≡ client.id
  pub epoch : view.epoch ≡ client.epoch
  pub own : view.own.now ≡ client.own

-- it is the body of the reply under the number, and spells a reply to a heartbeat
pub record IsReplyBody (w : World) (n : ℕ) (body : List ℕ) : Type 0 where
  pub reply : Reply
  pub is_reply : numbered w.replies n ≡ Some reply
  pub same : body ≡ reply.body
  pub header : ResponseHeaderValue
  pub said : HeartbeatReplyValue
  pub spells : SpellsReply (heartbeat_reply header said) body

-- every reply in its pool spells a reply to a heartbeat
abbrev pub RepliesAreSpelled : World → Type 0
RepliesAreSpelled w =
    (r : Reply) → Contains w.replies r
    → (header : ResponseHeaderValue) × (said : HeartbeatReplyValue) × SpellsReply (heartbeat_reply header said) r.body
