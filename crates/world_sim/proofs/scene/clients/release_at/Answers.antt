use Rattle.std.proofs.Common.{◌≡◌, ◌<◌, ◌∙◌, set, ap, sym, subst, if◌then◌else◌}
use Rattle.member_core.specs.Client.{state_of}
use Rattle.world_sim.proofs.SceneLemmas.{indexed, put_back}
use Rattle.member_core.specs.Releasing.{after_release}
use Rattle.world_sim.proofs.scene.clients.release_at.Goals as goal

pub returns-then-release : goal.returns-then-release
returns-then-release c =
    let me = c.index_mut-client.result.now in
    let new : c.release.new.self ≡ after_release me c.args.p.now = c.release.ensures.after ∙ ap (λ b. if b then after_release me c.args.p.now else me) (sym c.release.ensures.may ∙ c.if-release.true) in (
      me,
      indexed c.args.clients.now.items c.args.place _ (subst (λ k. c.args.place < k) c.args.clients.now.ok.0 c.requires) c.index_mut-client.ensures.value,
      sym c.release.ensures.may ∙ c.if-release.true,
      c.state.ensures ∙ ap state_of new,
      ap (λ x. set c.args.clients.now.items c.args.place x) new,
    )

pub returns-else-release : goal.returns-else-release
returns-else-release c =
    let me = c.index_mut-client.result.now in
    let new : c.release.new.self ≡ me = c.release.ensures.after ∙ ap (λ b. if b then after_release me c.args.p.now else me) (sym c.release.ensures.may ∙ c.if-release.false) in (
      me,
      indexed c.args.clients.now.items c.args.place _ (subst (λ k. c.args.place < k) c.args.clients.now.ok.0 c.requires) c.index_mut-client.ensures.value,
      sym c.release.ensures.may ∙ c.if-release.false,
      put_back c.args.clients.now.items c.args.place me _ c.index_mut-client.ensures.value new,
    )
