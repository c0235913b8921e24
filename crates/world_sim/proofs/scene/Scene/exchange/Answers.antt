use Rattle.std.proofs.Common.{◌≡◌, ◌∙◌, ◌+◌, Ok, Err, length, sym, subst}
use Rattle.std.proofs.lemmas.List.{length-map}
use Rattle.std.proofs.lemmas.Result.{err_from_is_err_and}
use Rattle.world_sim.specs.Acts.{Deliver, Take}
use Rattle.world_sim.specs.Acting.{Acted}
use Rattle.world_sim.specs.Invariant.{Keeps}
use Rattle.world_sim.specs.Mail.{request_value, reply_value}
use Rattle.world_sim.specs.Scene.{scene_view}
use Rattle.world_sim.proofs.Reaching.{always}
use Rattle.world_sim.proofs.Turning.{begun_reached, exchanged, has_heard, heard_is_reached, not_delivered, not_taken, turn_goes}
use Rattle.world_sim.proofs.scene.Scene.exchange.Goals as goal

pub deliver-requires : goal.deliver-requires
deliver-requires c = always Keeps c.every_act_keeps_the_invariant.ensures _ (begun_reached _ _ c.requires)

pub take-requires : goal.take-requires
take-requires c =
    let sent = scene_view c.args.self.now in
    let heard = scene_view c.deliver.new.self in
    let n = c.args.place + 1 in
    let goes = turn_goes c.rounds_go_on.ensures.go c.requires.before n c.requires.underway in
    let number : c.len-request.result ≡ length sent.requests = c.len-request.ensures ∙ c.args.self.now.requests.ok.0 ∙ sym (length-map c.args.self.now.requests.items request_value) in
    let hears = has_heard c.requires.before n goes sent c.requires.sends c.in_ok-deliver.field-0 heard (subst (λ k. Acted sent (Deliver k) (Ok c.in_ok-deliver.field-0) heard) number c.in_ok-deliver.ensures) in
    always Keeps c.every_act_keeps_the_invariant.ensures _ (heard_is_reached sent n c.requires goes heard hears)

pub returns-in_err-deliver : goal.returns-in_err-deliver
returns-in_err-deliver c =
    let sent = scene_view c.args.self.now in
    let heard = scene_view c.deliver.new.self in
    let n = c.args.place + 1 in
    let goes = turn_goes c.rounds_go_on.ensures.go c.requires.before n c.requires.underway in
    let number : c.len-request.result ≡ length sent.requests = c.len-request.ensures ∙ c.args.self.now.requests.ok.0 ∙ sym (length-map c.args.self.now.requests.items request_value) in
    let p = err_from_is_err_and c.from_residual.result c.from_residual.ensures.1 in
    rw (p.1, p.2) (not_delivered c.requires.before n goes sent c.requires.sends c.in_err-deliver.field-0.0 heard (subst (λ k. Acted sent (Deliver k) (Err c.in_err-deliver.field-0.0) heard) number c.in_err-deliver.ensures))

pub returns-in_err-take : goal.returns-in_err-take
returns-in_err-take c =
    let sent = scene_view c.args.self.now in
    let heard = scene_view c.deliver.new.self in
    let n = c.args.place + 1 in
    let goes = turn_goes c.rounds_go_on.ensures.go c.requires.before n c.requires.underway in
    let number : c.len-request.result ≡ length sent.requests = c.len-request.ensures ∙ c.args.self.now.requests.ok.0 ∙ sym (length-map c.args.self.now.requests.items request_value) in
    let hears = has_heard c.requires.before n goes sent c.requires.sends c.in_ok-deliver.field-0 heard (subst (λ k. Acted sent (Deliver k) (Ok c.in_ok-deliver.field-0) heard) number c.in_ok-deliver.ensures) in
    let latest : c.len-reply.result ≡ length heard.replies = c.len-reply.ensures ∙ c.deliver.new.self.replies.ok.0 ∙ sym (length-map c.deliver.new.self.replies.items (reply_value c.deliver.new.self.requests.items)) in
    let new = scene_view c.take.new.self in
    let p = err_from_is_err_and c.from_residual-in_err-take.result c.from_residual-in_err-take.ensures.1 in
    rw (p.1, p.2) (not_taken c.requires.before n goes sent c.requires.sends heard hears c.in_err-take.field-0.0 new (subst (λ k. Acted heard (Take k) (Err c.in_err-take.field-0.0) new) latest c.in_err-take.ensures))

pub returns : goal.returns
returns c =
    let sent = scene_view c.args.self.now in
    let heard = scene_view c.deliver.new.self in
    let n = c.args.place + 1 in
    let goes = turn_goes c.rounds_go_on.ensures.go c.requires.before n c.requires.underway in
    let number : c.len-request.result ≡ length sent.requests = c.len-request.ensures ∙ c.args.self.now.requests.ok.0 ∙ sym (length-map c.args.self.now.requests.items request_value) in
    let hears = has_heard c.requires.before n goes sent c.requires.sends c.in_ok-deliver.field-0 heard (subst (λ k. Acted sent (Deliver k) (Ok c.in_ok-deliver.field-0) heard) number c.in_ok-deliver.ensures) in
    let latest : c.len-reply.result ≡ length heard.replies = c.len-reply.ensures ∙ c.deliver.new.self.replies.ok.0 ∙ sym (length-map c.deliver.new.self.replies.items (reply_value c.deliver.new.self.requests.items)) in
    let new = scene_view c.take.new.self in
    exchanged c.requires.before n goes sent c.requires.sends heard hears c.in_ok-take.field-0 new (subst (λ k. Acted heard (Take k) (Ok c.in_ok-take.field-0) new) latest c.in_ok-take.ensures)
