use Rattle.std.proofs.Common.{◌<◌, ◌∙◌, ap, subst}
use Rattle.world_sim.proofs.SceneLemmas.{indexed, put_back}
use Rattle.std.proofs.Common.{suc, ℕ, add-one, refl}
use Rattle.std.proofs.lemmas.Result.{err_from_is_err_and}
use Rattle.group_types.specs.declared.stamp.Stamp.{Stamp}
use Rattle.world_sim.proofs.scene.clients.ask_at.Goals as goal

pub returns : goal.returns
returns c =
    let me = c.index_mut-client.result.now in (
      me,
      c.ask.new.self,
      indexed c.args.clients.now.items c.args.place _ (subst (λ k. c.args.place < k) c.args.clients.now.ok.0 c.requires) c.index_mut-client.ensures.value,
      c.in_ok-frame.ensures.asks,
      refl,
      ap (λ (k : ℕ). let s : Stamp = record { connection = k; frame = c.from.result } in s) (add-one c.args.place)
          ∙ ap (λ (f : ℕ). let s : Stamp = record { connection = suc c.args.place; frame = f } in s) (c.from.ensures ∙ c.requests.ensures),
    )

pub returns-in_err-frame : goal.returns-in_err-frame
returns-in_err-frame c =
    let me = c.index_mut-client.result.now in
    let p = err_from_is_err_and c.from_residual.result c.from_residual.ensures.1 in
    rw (p.1, p.2) (
      me,
      indexed c.args.clients.now.items c.args.place _ (subst (λ k. c.args.place < k) c.args.clients.now.ok.0 c.requires) c.index_mut-client.ensures.value,
      c.in_err-frame.ensures.fault,
      put_back c.args.clients.now.items c.args.place me _ c.index_mut-client.ensures.value c.in_err-frame.ensures.unchanged,
    )
