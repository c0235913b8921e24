use Rattle.std.proofs.Common.{◌≡◌, ◌++◌, ℕ, List, to_z, of_z, rules, ap, subst, ◌∙◌}
use Rattle.std.specs.Int.{w32}
use Rattle.std.proofs.lemmas.Result.{on_ok_weaker}
use Rattle.kip_msgs.specs.Spelling.{SpellsReply, FitsReply, reply_body}
use Rattle.kip_msgs.specs.Views.{reply_value}
use Rattle.group_types.specs.Frames.{frame_of}
use Rattle.broker_requests.specs.Refusals.{refusal_to}
use Rattle.broker_requests.proofs.refusal.put_refusal.Goals as goal

pub returns-clause-ok : goal.returns-clause-ok
returns-clause-ok c =
    let body = c.deref.result.now in
    let id : to_z w32 (of_z w32 c.args.correlation_id) ≡ c.args.correlation_id = search rules in
    let same = c.refusal_to-reply.ensures.value ∙ ap refusal_to id in
    let items : body ≡ reply_body (refusal_to c.args.correlation_id) =
    c.deref.ensures.value ∙ (c.in_ok-put_reply.ensures.appends.items ∙ (ap (λ (l : List ℕ). l ++ reply_body (reply_value c.refusal_to-reply.result)) c.new-body.ensures.items ∙ ap reply_body same)) in
    let spells : SpellsReply (refusal_to c.args.correlation_id) body =
    record { fits = subst FitsReply same c.in_ok-put_reply.ensures.fits; bytes = items } in
    on_ok_weaker c.put_frame.result (λ w. (frame_of body, record { body = body; spells = spells; framed = w.0 }, w.1)) c.put_frame.ensures.ok
