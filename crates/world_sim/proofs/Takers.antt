-- The client whose request a reply answers is there.
use Rattle.std.proofs.Common.{◌≡◌, ℕ, zero, suc, ◌+◌, ◌<◌, List, [], length, slice_get, Option, Some, unwrap_or, sym, ap, ◌∙◌, arith}
use Rattle.std.proofs.lemmas.Option.{slice_get_within}
use Rattle.group_types.proofs.Lookups.{not_none}
use Rattle.world_sim.specs.declared.mail.Request as mail
use Rattle.world_sim.specs.declared.mail.Reply as answer
use Rattle.world_sim.specs.declared.scene.Scene.{Scene}
use Rattle.world_sim.specs.World.{Request, numbered}
use Rattle.world_sim.specs.Acts.{no_stamp}
use Rattle.world_sim.specs.Invariant.{Keeps}
use Rattle.world_sim.specs.Mail.{request_value, reply_value, replies_of}
use Rattle.world_sim.specs.Scene.{scene_view}
use Rattle.world_sim.proofs.Numbered.{numbered_in}
use Rattle.world_sim.proofs.SceneLemmas.{mapped}

-- a number under which something stands
pub placed : {X : Type 0} (xs : List X) (n : ℕ) (x : X) → numbered xs n ≡ Some x → (0 < n) × (n < length xs + 1)
placed xs zero x is = absurd (not_none x is)
placed xs (suc n) x is = let below : n < length xs = slice_get_within xs n x is in (omega (arith), omega (arith, below))

module _ (s : Scene) (place : ℕ) (r : answer.Reply) (there : slice_get s.replies.items place ≡ Some r) where
  pub request_there : r.request < length s.requests.items
  request_there = s.named r (numbered_in s.replies.items (suc place) r there)

  pub pooled_reply : slice_get (replies_of s.requests.items s.replies.items) place ≡ Some (reply_value s.requests.items r)
  pooled_reply = mapped (reply_value s.requests.items) s.replies.items place r there

  module _ (q : mail.Request) (at : slice_get s.requests.items r.request ≡ Some q) where
    pub sender_is : (reply_value s.requests.items r).request.sender ≡ q.stamp.connection
    sender_is = ap (λ (o : Option Request). (unwrap_or o (record { sender = 0; stamp = no_stamp; body = [] })).sender) (mapped request_value s.requests.items r.request q at)

    pub sender_placed : Keeps (scene_view s) → (0 < q.stamp.connection) × (q.stamp.connection < length s.clients.items + 1)
    sender_placed keeps =
        let taker = keeps.takers (reply_value s.requests.items r) (numbered_in (replies_of s.requests.items s.replies.items) (suc place) (reply_value s.requests.items r) pooled_reply) in
        placed s.clients.items q.stamp.connection taker.0 (ap (λ n. numbered s.clients.items n) (sym sender_is) ∙ taker.1)
