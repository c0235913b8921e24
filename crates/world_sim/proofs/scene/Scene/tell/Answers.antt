use Rattle.std.proofs.Common.{◌∙◌, ◌+◌, ◌<◌, List, Err, length, ap, sym, subst, refl, arith}
use Rattle.std.proofs.lemmas.Option.{slice_get_within}
use Rattle.std.proofs.lemmas.Result.{err_from_is_err_and}
use Rattle.member_core.specs.Client.{Client}
use Rattle.world_sim.specs.World.{World, numbered}
use Rattle.world_sim.specs.Scene.{scene_view}
use Rattle.world_sim.specs.Settling.{IsToldBy}
use Rattle.member_core.specs.Asking.{after_giving_up}
use Rattle.world_sim.proofs.SceneLemmas.{at_number, changed_world}
use Rattle.world_sim.proofs.Turning.{gave, given_up, has_asked, not_asked, still_there, told, told_there, turn_goes}
use Rattle.world_sim.proofs.scene.Scene.tell.Goals as goal

pub exchange-requires : goal.exchange-requires
exchange-requires c =
    let w = scene_view c.args.self.now in
    let n = c.args.place + 1 in
    let goes = turn_goes c.rounds_go_on.ensures.go w n c.requires in
    record { before = w; underway = c.requires; sends = (has_asked w n goes c.in_ok-ask.field-0 (scene_view c.ask.new.self) c.in_ok-ask.ensures).sends }

pub returns-in_err-ask : goal.returns-in_err-ask
returns-in_err-ask c =
    let w = scene_view c.args.self.now in
    let n = c.args.place + 1 in
    let goes = turn_goes c.rounds_go_on.ensures.go w n c.requires in
    let p = err_from_is_err_and c.from_residual.result c.from_residual.ensures.1 in
    rw (p.1, p.2) (record { told = not_asked w n goes c.in_err-ask.field-0.0 (scene_view c.ask.new.self) c.in_err-ask.ensures; there = tt })

pub overflow_add-place : goal.overflow_add-place
overflow_add-place c =
    let w = scene_view c.args.self.now in
    let n = c.args.place + 1 in
    let goes = turn_goes c.rounds_go_on.ensures.go w n c.requires in
    let cs = c.args.self.now.clients in
    let below : c.args.place < length cs.items = slice_get_within cs.items c.args.place goes.client (sym (at_number cs.items n c.args.place refl) ∙ goes.is_client) in
    omega (arith, below, cs.ok.0, cs.ok.1, cs.small)

pub give_up_at-requires : goal.give_up_at-requires
give_up_at-requires c =
    let w = scene_view c.args.self.now in
    let n = c.args.place + 1 in
    let goes = turn_goes c.rounds_go_on.ensures.go w n c.requires in
    let sent = scene_view c.ask.new.self in
    let has = has_asked w n goes c.in_ok-ask.field-0 sent c.in_ok-ask.ensures in
    let last = scene_view c.exchange.new.self in
    let cs = c.exchange.new.self.clients in
    let same = still_there w n goes sent has.sends has.client has.is_client has.waits c.in-Err.fault last c.in-Err.ensures in
    let below : c.args.place < length cs.items =
    slice_get_within cs.items c.args.place has.client (sym (at_number cs.items n c.args.place refl) ∙ ap (λ (xs : List Client). numbered xs n) same ∙ has.is_client) in
    subst (λ k. c.args.place < k) (sym cs.ok.0) below

pub returns-in-Ok-clause-told : goal.returns-in-Ok-clause-told
returns-in-Ok-clause-told c =
    let w = scene_view c.args.self.now in
    let n = c.args.place + 1 in
    let goes = turn_goes c.rounds_go_on.ensures.go w n c.requires in
    let sent = scene_view c.ask.new.self in
    let has = has_asked w n goes c.in_ok-ask.field-0 sent c.in_ok-ask.ensures in
    let last = scene_view c.exchange.new.self in
    told w n goes sent has.sends last c.in-Ok.ensures

pub returns-in-Ok-clause-there : goal.returns-in-Ok-clause-there
returns-in-Ok-clause-there c =
    let w = scene_view c.args.self.now in
    let n = c.args.place + 1 in
    let goes = turn_goes c.rounds_go_on.ensures.go w n c.requires in
    let sent = scene_view c.ask.new.self in
    let has = has_asked w n goes c.in_ok-ask.field-0 sent c.in_ok-ask.ensures in
    let last = scene_view c.exchange.new.self in
    let cs = c.exchange.new.self.clients in
    let one = told_there w n goes last (told w n goes sent has.sends last c.in-Ok.ensures) in
    let below : c.args.place < length cs.items = slice_get_within cs.items c.args.place one.0 (sym (at_number cs.items n c.args.place refl) ∙ one.1) in
    subst (λ k. c.args.place < k) (sym cs.ok.0) below

pub returns-in-Err-clause-told : goal.returns-in-Err-clause-told
returns-in-Err-clause-told c =
    let w = scene_view c.args.self.now in
    let n = c.args.place + 1 in
    let goes = turn_goes c.rounds_go_on.ensures.go w n c.requires in
    let sent = scene_view c.ask.new.self in
    let has = has_asked w n goes c.in_ok-ask.field-0 sent c.in_ok-ask.ensures in
    let last = scene_view c.exchange.new.self in
    let s = c.exchange.new.self in
    let same = still_there w n goes sent has.sends has.client has.is_client has.waits c.in-Err.fault last c.in-Err.ensures in
    let there = sym (at_number s.clients.items n c.args.place refl) ∙ ap (λ (xs : List Client). numbered xs n) same ∙ has.is_client in
    let gone = gave s.clients.items c.args.place has.client there has.waits c.give_up_at.result c.give_up_at.new.clients.items c.give_up_at.ensures in
    let world = changed_world s n c.args.place (after_giving_up has.client) c.give_up_at.new.clients.items refl gone in
    subst (λ (x : World). IsToldBy w n (Err c.in-Err.fault) x) (sym world)
    (given_up w n goes sent has.sends has.client has.is_client has.waits c.in-Err.fault last c.in-Err.ensures)
