use Rattle.std.proofs.Common.{◌∙◌, ◌<◌, List, ℕ, ap, length, subst, sym}
use Rattle.kip_msgs.specs.Values.{heartbeat_reply}
use Rattle.kip_msgs.specs.Spelling.{SpellsReply}
use Rattle.world_sim.specs.Mail.{reply_value, replies_of}
use Rattle.world_sim.specs.Viewing.{RepliesAreSpelled}
use Rattle.world_sim.proofs.Numbered.{numbered_in}
use Rattle.world_sim.proofs.Reaching.{always}
use Rattle.world_sim.proofs.SceneActs.{unmapped}
use Rattle.world_sim.proofs.SceneLemmas.{at_number, indexed}
use Rattle.world_sim.proofs.Takers.{pooled_reply}
use Rattle.world_sim.proofs.world.World.reply.Goals as goal

pub returns-in_default : goal.returns-in_default
returns-in_default c =
    let s = c.self.inside.scene in
    rw (← c.self.view_is) (unmapped (reply_value s.requests.items) s.replies.items c.args.number _ (ap length c.as_slice.ensures.value) c.in_default.ensures)

pub returns : goal.returns
returns c =
    let s = c.self.inside.scene in
    let r = c.index.result.now in
    let there = indexed s.replies.items c.in-Some.place r (subst (λ k. c.in-Some.place < k) (ap length c.as_slice.ensures.value) c.in-Some.ensures.1) c.index.ensures in
    let pooled = at_number (replies_of s.requests.items s.replies.items) c.args.number c.in-Some.place c.in-Some.ensures.0 ∙ pooled_reply s c.in-Some.place r there in
    let one = reply_value s.requests.items r in
    let spelled = always RepliesAreSpelled c.replies_are_spelled.ensures _ c.self.invariant one (numbered_in (replies_of s.requests.items s.replies.items) c.args.number one pooled) in
    rw (← c.self.view_is)
    (record {
      reply = one;
      is_reply = pooled;
      same = c.body.ensures;
      header = spelled.0;
      said = spelled.1;
      spells = subst (λ (b : List ℕ). SpellsReply (heartbeat_reply spelled.0 spelled.1) b) (sym c.body.ensures) spelled.2;
    })
