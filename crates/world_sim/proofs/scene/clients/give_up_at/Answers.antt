use Rattle.std.proofs.Common.{◌≡◌, ◌<◌, ◌∙◌, set, ap, sym, subst, if◌then◌else◌}
use Rattle.member_core.specs.Client.{state_of}
use Rattle.world_sim.proofs.SceneLemmas.{indexed, put_back}
use Rattle.member_core.specs.Asking.{after_giving_up}
use Rattle.world_sim.proofs.scene.clients.give_up_at.Goals as goal

pub returns-then-give_up : goal.returns-then-give_up
returns-then-give_up c =
    let me = c.index_mut-client.result.now in
    let new : c.give_up.new.self ≡ after_giving_up me = c.give_up.ensures.after ∙ ap (λ b. if b then after_giving_up me else me) (sym c.give_up.ensures.waited ∙ c.if-give_up.true) in (
      me,
      indexed c.args.clients.now.items c.args.place _ (subst (λ k. c.args.place < k) c.args.clients.now.ok.0 c.requires) c.index_mut-client.ensures.value,
      sym c.give_up.ensures.waited ∙ c.if-give_up.true,
      c.state.ensures ∙ ap state_of new,
      ap (λ x. set c.args.clients.now.items c.args.place x) new,
    )

pub returns-else-give_up : goal.returns-else-give_up
returns-else-give_up c =
    let me = c.index_mut-client.result.now in
    let new : c.give_up.new.self ≡ me = c.give_up.ensures.after ∙ ap (λ b. if b then after_giving_up me else me) (sym c.give_up.ensures.waited ∙ c.if-give_up.false) in (
      me,
      indexed c.args.clients.now.items c.args.place _ (subst (λ k. c.args.place < k) c.args.clients.now.ok.0 c.requires) c.index_mut-client.ensures.value,
      sym c.give_up.ensures.waited ∙ c.if-give_up.false,
      put_back c.args.clients.now.items c.args.place me _ c.index_mut-client.ensures.value new,
    )
