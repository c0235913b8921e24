use Rattle.std.proofs.Common.{◌<◌, ◌∙◌, ◌++◌, ◌∷◌, [], List, length, ap, sym, subst, refl}
use Rattle.world_sim.specs.Scene.{scene_view}
use Rattle.std.proofs.lemmas.Result.{err_from_is_err_and}
use Rattle.world_sim.specs.declared.mail.Request as mail
use Rattle.world_sim.specs.declared.fault.WorldFault.TheVariants as faults
use Rattle.world_sim.specs.Mail.{AreNamed, requests_of, replies_of}
use Rattle.world_sim.specs.Standing.{ask_value}
use Rattle.world_sim.proofs.Performs.{asks_not, may_not_ask, nobody_asks}
use Rattle.world_sim.proofs.SceneActs.{asked, asked_not, nobody}
use Rattle.world_sim.proofs.MailLemmas.{named_still}
use Rattle.world_sim.proofs.SceneLemmas.{numbered_index}
use Rattle.world_sim.proofs.scene.Scene.ask.Goals as goal

pub returns-in_default : goal.returns-in_default
returns-in_default c = (nobody_asks (scene_view c.args.self.now) c.args.number (nobody _ _ _ (ap length c.as_slice.ensures.value) c.in_default.ensures) (ask_value c.args.ask), refl)

pub returns-then-not-may_ask : goal.returns-then-not-may_ask
returns-then-not-may_ask c =
    let s = c.args.self.now in
    let me = c.index.result.now in
    let there = numbered_index s.clients.items c.args.number c.in-Some.place me c.in-Some.ensures.0 (subst (λ k. c.in-Some.place < k) (ap length c.as_slice.ensures.value) c.in-Some.ensures.1) c.index.ensures in
    (may_not_ask (scene_view s) c.args.number me there (ask_value c.args.ask) (sym c.may_ask.ensures ∙ c.if-not-may_ask.true), refl)

pub returns-in_err-reserve : goal.returns-in_err-reserve
returns-in_err-reserve c =
    let s = c.args.self.now in
    let me = c.index.result.now in
    let there = numbered_index s.clients.items c.args.number c.in-Some.place me c.in-Some.ensures.0 (subst (λ k. c.in-Some.place < k) (ap length c.as_slice.ensures.value) c.in-Some.ensures.1) c.index.ensures in
    let p = err_from_is_err_and c.from_residual.result c.from_residual.ensures.1 in
    rw (p.1, p.2) (
      asks_not (scene_view s) c.args.number me there (ask_value c.args.ask) faults.NoMemory (sym c.may_ask.ensures ∙ c.if-not-may_ask.false) tt,
      ap (λ (qs : List mail.Request). record (scene_view s) { requests = requests_of qs; replies = replies_of qs s.replies.items }) c.reserve.ensures.items,
    )

pub returns-in_err-request : goal.returns-in_err-request
returns-in_err-request c =
    let s = c.args.self.now in
    let me = c.index.result.now in
    let there = numbered_index s.clients.items c.args.number c.in-Some.place me c.in-Some.ensures.0 (subst (λ k. c.in-Some.place < k) (ap length c.as_slice.ensures.value) c.in-Some.ensures.1) c.index.ensures in
    let p = err_from_is_err_and c.from_residual-in_err-request.result c.from_residual-in_err-request.ensures.1 in
    rw (p.1, p.2)
    (asked_not s c.args.number c.in-Some.place c.in-Some.ensures.0 me (ask_value c.args.ask) _ c.ask_at.new.clients.items c.reserve.new.self.items there (sym c.may_ask.ensures ∙ c.if-not-may_ask.false) c.in_err-request.ensures
    c.reserve.ensures.items)

pub invariant_of-self-in-Break-branch-2 : goal.invariant_of-self-in-Break-branch-2
invariant_of-self-in-Break-branch-2 c =
    record { named = subst (λ qs. AreNamed qs c.args.self.now.replies.items) (sym c.reserve.ensures.items) c.args.self.now.named; small = c.args.self.now.small }

pub invariant_of-self-2 : goal.invariant_of-self-2
invariant_of-self-2 c =
    let more = c.push_reserved.ensures.items ∙ ap (λ xs. xs ++ c.in_ok-request.request ∷ []) c.reserve.ensures.items in
    record {
      named = subst (λ qs. AreNamed qs c.args.self.now.replies.items) (sym more) (named_still c.args.self.now.requests.items c.args.self.now.replies.items c.in_ok-request.request c.args.self.now.named);
      small = c.args.self.now.small;
    }

pub returns : goal.returns
returns c =
    let more = c.push_reserved.ensures.items ∙ ap (λ xs. xs ++ c.in_ok-request.request ∷ []) c.reserve.ensures.items in
    asked c.args.self.now c.args.number c.in-Some.place c.in-Some.ensures.0 (ask_value c.args.ask) c.in_ok-request.request c.ask_at.new.clients.items c.push_reserved.new.self.items c.len.result
    c.args.self.now.named c.in_ok-request.ensures more (c.len.ensures ∙ c.push_reserved.new.self.ok.0)
