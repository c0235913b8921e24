use Rattle.std.proofs.Common.{◌≡◌, ◌<◌, subst}
use Rattle.member_core.specs.Client.{Client}
use Rattle.world_sim.proofs.SceneLemmas.{indexed, put_back}
use Rattle.std.proofs.Common.{false, refl}
use Rattle.std.proofs.lemmas.Result.{err_from_is_err_and}
use Rattle.member_core.specs.Taking.{Takes}
use Rattle.world_sim.proofs.Took.{untaken}
use Rattle.world_sim.proofs.scene.clients.take_at.Goals as goal

pub returns-then-taken : goal.returns-then-taken
returns-then-taken c =
    let me = c.index_mut-client.result.now in (
      me,
      c.take.new.self,
      indexed c.args.clients.now.items c.args.place _ (subst (λ k. c.args.place < k) c.args.clients.now.ok.0 c.requires) c.index_mut-client.ensures.value,
      subst (λ t. Takes me c.args.body.now t c.take.new.self) c.if-taken.true c.in_ok-taken.ensures,
      c.state.ensures,
      refl,
    )

pub returns-else-taken : goal.returns-else-taken
returns-else-taken c =
    let me = c.index_mut-client.result.now in
    let takes : Takes me c.args.body.now false c.take.new.self = subst (λ t. Takes me c.args.body.now t c.take.new.self) c.if-taken.false c.in_ok-taken.ensures in
    let same : c.take.new.self ≡ me = untaken me c.take.new.self c.args.body.now takes in (
      me,
      indexed c.args.clients.now.items c.args.place _ (subst (λ k. c.args.place < k) c.args.clients.now.ok.0 c.requires) c.index_mut-client.ensures.value,
      subst (λ (x : Client). Takes me c.args.body.now false x) same takes,
      put_back c.args.clients.now.items c.args.place me _ c.index_mut-client.ensures.value same,
    )

pub returns-in_err-taken : goal.returns-in_err-taken
returns-in_err-taken c =
    let me = c.index_mut-client.result.now in
    let p = err_from_is_err_and c.from_residual.result c.from_residual.ensures.1 in
    rw p.1 (put_back c.args.clients.now.items c.args.place me _ c.index_mut-client.ensures.value c.in_err-taken.ensures)
