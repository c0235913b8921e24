use Rattle.std.proofs.Common.{◌≡◌, ◌∙◌, ◌+◌, ◌<◌, List, map, set, ap, sym, subst, refl}
use Rattle.std.proofs.lemmas.Result.{err_from_is_err_and}
use Rattle.group_types.specs.Sets.{in_order}
use Rattle.group_types.specs.Partition.{Partitions}
use Rattle.member_core.specs.Client.{Client, to_release}
use Rattle.world_sim.specs.World.{World, numbered}
use Rattle.world_sim.specs.Acts.{Release, Run}
use Rattle.world_sim.specs.Places.{releasing_all}
use Rattle.world_sim.specs.Scene.{scene_view}
use Rattle.world_sim.proofs.Releasings.{releases_own}
use Rattle.world_sim.proofs.SceneLemmas.{at_number, changed_world, indexed, put_back}
use Rattle.world_sim.proofs.scene.Scene.release_all.Goals as goal

pub returns-in_err-own : goal.returns-in_err-own
returns-in_err-own c =
    let me = c.index_mut-client.result.now in
    let p = err_from_is_err_and c.from_residual.result c.from_residual.ensures.1 in
    rw p.1 (ap (λ (xs : List Client). record (scene_view c.args.self.now) { clients = xs }) (put_back c.args.self.now.clients.items c.args.place me me c.index_mut-client.ensures.value refl))

pub returns : goal.returns
returns c =
    let s = c.args.self.now in
    let n = c.args.place + 1 in
    let me = c.index_mut-client.result.now in
    let there : numbered s.clients.items n ≡ _ = at_number s.clients.items n c.args.place refl ∙ indexed s.clients.items c.args.place me (subst (λ k. c.args.place < k) s.clients.ok.0 c.requires) c.index_mut-client.ensures.value in
    let released = releases_own (scene_view s) n me there in
    let left : c.release_each.new.self ≡ releasing_all me (in_order me.own) = c.release_each.ensures ∙ ap (λ (o : Partitions). releasing_all me (in_order o)) (c.in_ok-own.ensures ∙ c.own.ensures) in
    let world = changed_world s n c.args.place (releasing_all me (in_order me.own)) (set s.clients.items c.args.place c.release_each.new.self) refl (ap (λ x. set s.clients.items c.args.place x) left) in
    (me, there, released.0, subst (λ (v : World). Run (scene_view s) (map (Release n) (in_order (to_release me))) released.0 v) (sym world) released.1)
