use Rattle.std.proofs.Common.{◌≡◌, ◌||◌, ◌-◌, length, vec_capacity, Bool, ℕ, Option, sym, subst, ap, ◌∙◌, refl}
use Rattle.std.specs.FinMap as finite
use Rattle.std.specs.Option.{IfSome}
use Rattle.group_types.specs.Partition.{Partitions}
use Rattle.group_types.specs.Group.{Grants, Group}
use Rattle.group_types.specs.Request.{Heartbeat, is_full, reported}
use Rattle.group_types.specs.Renewal.{Renews}
use Rattle.group_types.specs.HeartbeatStep.{Reply, Replied, acceptance, assignment_of, is_news, sent_after}
use Rattle.group_core.specs.CodeOrder.{LateStages, heir_or}
use Rattle.kip_msgs.specs.Views.{heartbeat_request_value}
use Rattle.group_reconcile.specs.Holders.{pairs}
use Rattle.group_epochs.specs.Request.{heartbeat_of}
use Rattle.group_epochs.specs.Records.{KeepsMarks}
use Rattle.group_core.specs.GroupView.{group_of}
use Rattle.group_core.specs.Outcome.{IsCurrent, IsResponse, reply_of}
use Rattle.group_core.specs.Steady.{AreMarked}
use Rattle.group_core.specs.declared.state.State.{State}
use Rattle.group_core.specs.declared.draft.Draft.{Draft as Drafted}
use Rattle.group_core.specs.declared.change.Renewal.{Renewal}
use Rattle.group_core.specs.declared.plan.Plan.{Plan}
use Rattle.group_core.specs.Stages.{HasNothing, IsFit, IsOffered, IsPlan, carried, draft_in, group_then, heir_id, heir_in, moves, part_of, record_after, record_then, renewed_by, shown_then, stored_in, target_then}
use Rattle.group_core.proofs.TakenIn.{heir_has_nothing, heir_in_room, owned_of_view, takes_in}
use Rattle.group_core.proofs.HandOvers.{heir_is_absent, old_is_not_past, told}
use Rattle.group_core.proofs.Idle.{nothing_after}
use Rattle.group_core.proofs.Marking.{marked_then}
use Rattle.group_core.proofs.Results.{on_err}
use Rattle.group_core.proofs.Settling.{current_then, stages}
use Rattle.group_core.proofs.Sinces.{offered_since, stored_epoch, then_same_since, unchanged_holders}
use Rattle.group_core.proofs.settle.settle.Goals as goal

-- what was made and offered, and what is stored then
module _ (s : State) (d : Drafted) (now : ℕ) (r : Renewal) (q : Heartbeat) (plan : Plan) (go : Bool) (between : State)
    (planned : IsPlan s d r q (reported q) plan) (offer : IsOffered s d r (reported q) go between) where
  abbrev Owned : Option Partitions
  Owned = reported q

  fits : IsFit s d → IsFit between d
  fits fit = subst (λ (x : State). IsFit x d) (sym offer.state) (record { room = fit.room; instance = fit.instance })

  heirless : IsFit s d → IfSome (heir_id d) (HasNothing (target_then s r).owners (pairs s.grants)) → IfSome (heir_id d) (HasNothing (target_then between r).owners (pairs between.grants))
  heirless fit idle =
      let heir = heir_in_room s.records d.member.id d.member.record d.member.place fit.room in
      subst (λ (x : State). IfSome (heir_id d) (HasNothing (target_then x r).owners (pairs between.grants))) (sym offer.state)
      (subst (λ (h : Grants). IfSome (heir_id d) (HasNothing (target_then s r).owners h)) (sym offer.grants)
      (nothing_after s.records.records d.member.id (heir_id d) heir (target_then s r).owners (pairs s.grants) (moves s d r Owned) (part_of s d r) idle))

  -- the group in which it ends
  then_group : (g : Group) → g ≡ stored_in (carried between d now r) d.member.id (sent_after (record_after between d r go now) plan.sent) (heir_in between d)
      → g ≡ group_then s d now r Owned plan.sent
  then_group g stored =
      subst (λ (x : State). g ≡ stored_in (carried x d now r) d.member.id (sent_after (record_after x d r go now) plan.sent) (heir_in x d)) offer.state stored
      ∙ (λ i. stored_in (record (carried s d now r) { grants = offer.grants i }) d.member.id (sent_after (record_after s d r (offer.move i) now) plan.sent) (heir_in s d))

  -- the reply
  then_reply : (x : Reply) → x ≡ acceptance plan.id (record_after between d r go now) plan.assignment → x ≡ acceptance plan.id (record_then s d r Owned now) plan.assignment
  then_reply x replied =
      subst (λ (between : State). x ≡ acceptance plan.id (record_after between d r go now) plan.assignment) offer.state replied
      ∙ ap (λ b. acceptance plan.id (record_after s d r b now) plan.assignment) offer.move

pub prepare-requires-clause-owned : goal.prepare-requires-clause-owned
prepare-requires-clause-owned c =
    owned_of_view c.args.state.now c.args.draft c.args.now c.requires.renewal.0 c.args.renewal c.requires.renewal.1 c.requires.group.sound

pub carry_out-reply-requires-clause-fit : goal.carry_out-reply-requires-clause-fit
carry_out-reply-requires-clause-fit c =
    let q = heartbeat_of (heartbeat_request_value c.args.request.now) in
    fits c.args.state.now c.args.draft c.args.now c.args.renewal q c.in_ok-plan.plan c.in_ok-plan.moves c.prepare.new.state c.in_ok-plan.ensures.plan c.in_ok-plan.ensures.offer c.requires.fit

pub carry_out-reply-requires-clause-heir : goal.carry_out-reply-requires-clause-heir
carry_out-reply-requires-clause-heir c =
    let s = c.args.state.now in
    let d = c.args.draft in
    let r = c.args.renewal in
    let q = heartbeat_of (heartbeat_request_value c.args.request.now) in
    let idle = heir_has_nothing s d c.args.now c.requires.renewal.0 r c.requires.renewal.1 c.requires.group.sound (heir_in_room s.records d.member.id d.member.record d.member.place c.requires.fit.room) in
    heirless s d c.args.now r q c.in_ok-plan.plan c.in_ok-plan.moves c.prepare.new.state c.in_ok-plan.ensures.plan c.in_ok-plan.ensures.offer c.requires.fit idle

-- the group in which it ends
ended : (c : goal.After-carry_out-reply) → group_of c.carry_out-reply.new.state
    ≡ group_then c.args.state.now c.args.draft c.args.now c.args.renewal (reported (heartbeat_of (heartbeat_request_value c.args.request.now))) c.in_ok-plan.plan.sent
ended c =
    let q = heartbeat_of (heartbeat_request_value c.args.request.now) in
    then_group c.args.state.now c.args.draft c.args.now c.args.renewal q c.in_ok-plan.plan c.in_ok-plan.moves c.prepare.new.state c.in_ok-plan.ensures.plan c.in_ok-plan.ensures.offer
    (group_of c.carry_out-reply.new.state) c.carry_out-reply.ensures.group

-- and the reply
replied : (c : goal.After-carry_out-reply) → reply_of c.carry_out-reply.result
    ≡ acceptance c.in_ok-plan.plan.id (record_then c.args.state.now c.args.draft c.args.renewal (reported (heartbeat_of (heartbeat_request_value c.args.request.now))) c.args.now) c.in_ok-plan.plan.assignment
replied c =
    let q = heartbeat_of (heartbeat_request_value c.args.request.now) in
    then_reply c.args.state.now c.args.draft c.args.now c.args.renewal q c.in_ok-plan.plan c.in_ok-plan.moves c.prepare.new.state c.in_ok-plan.ensures.plan c.in_ok-plan.ensures.offer
    (reply_of c.carry_out-reply.result) c.carry_out-reply.ensures.reply

pub returns-clause-step : goal.returns-clause-step
returns-clause-step c = λ image found.
    let s = c.args.state.now in
    let d = c.args.draft in
    let r = c.args.renewal in
    let now = c.args.now in
    let q : Heartbeat = heartbeat_of (heartbeat_request_value c.args.request.now) in
    let plan = c.in_ok-plan.ensures.plan in
    let shown : Partitions = shown_then s d r (reported q) in
    let asked : Option Partitions = assignment_of (is_full q || is_news d.member.record.sent shown) shown in
    let Settles : Reply → Group → Type 0 = λ reply g. (changed : Group) → Renews changed (renewed_by s d now r) → LateStages changed (draft_in (group_of s) d now) q (Replied reply) g in
    let heir = heir_in_room s.records d.member.id d.member.record d.member.place c.requires.fit.room in
    let id = plan.id ∙ sym (told s.records.records d.member.id (finite.get s.records.records d.member.id) refl (heir_id d) heir) in
    let said : reply_of c.carry_out-reply.result ≡ acceptance (heir_or d.member.id (heir_in s d)) (record_then s d r (reported q) now) asked =
    replied c ∙ (λ i. acceptance (id i) (record_then s d r (reported q) now) (plan.assignment i)) in
    let sent = plan.sent ∙ plan.assignment in
    let grouped = ended c ∙ ap (group_then s d now r (reported q)) sent in
    let fresh = old_is_not_past (group_of s) c.requires.group.sound d.member.id (finite.get s.records.records d.member.id) refl (heir_id d) in
    takes_in s d now image r found q (Replied (reply_of c.carry_out-reply.result)) (group_of c.carry_out-reply.new.state)
    (subst (λ x. Settles x (group_of c.carry_out-reply.new.state)) (sym said)
    (subst (Settles (acceptance (heir_or d.member.id (heir_in s d)) (record_then s d r (reported q) now) asked)) (sym grouped) (stages s d now r q fresh)))

pub returns-clause-response : goal.returns-clause-response
returns-clause-response c = λ image found.
    let s = c.args.state.now in
    let d = c.args.draft in
    let plan = c.in_ok-plan.plan in
    let q : Heartbeat = heartbeat_of (heartbeat_request_value c.args.request.now) in
    let heir = heir_in_room s.records d.member.id d.member.record d.member.place c.requires.fit.room in
    let absent = heir_is_absent s.records.records d.member.id (finite.get s.records.records d.member.id) (heir_id d) heir in
    let now_current = subst (λ (g : Group). IsCurrent g image) (sym (ended c)) (current_then s d c.args.now c.args.renewal q absent image (reported q) plan.sent found.view) in
    subst (λ (x : Reply). IsResponse (Replied x) (group_of c.carry_out-reply.new.state) image (vec_capacity c.prepare.new.out - length c.prepare.new.out.items)) (sym (replied c))
    (record { few = c.in_ok-plan.ensures.plan.few; current = λ none above. now_current; room = c.in_ok-plan.ensures.room })

pub returns-clause-keeps : goal.returns-clause-keeps
returns-clause-keeps c =
    let s = c.args.state.now in
    let d = c.args.draft in
    let q = heartbeat_of (heartbeat_request_value c.args.request.now) in
    let heir = heir_in_room s.records d.member.id d.member.record d.member.place c.requires.fit.room in
    let new = c.carry_out-reply.new.state in
    let keeps = subst (λ (x : State). KeepsMarks x.records new.records d.member.id) c.in_ok-plan.ensures.offer.state c.carry_out-reply.ensures.marks in
    record {
      out = c.prepare.ensures.out;
      marks = subst (λ (g : Group). AreMarked g new.records.marks) (sym (ended c))
          (marked_then s c.requires.group.sound c.requires.group.marked d heir c.args.now c.requires.renewal.0 c.args.renewal c.requires.renewal.1 (reported q) c.in_ok-plan.plan.sent new.records.marks keeps);
      err = tt;
    }

pub returns-in_err-plan-clause-keeps : goal.returns-in_err-plan-clause-keeps
returns-in_err-plan-clause-keeps c =
    let same = c.in_err-plan.ensures.err in
    record {
      out = c.prepare.ensures.out;
      marks = subst (λ (x : State). AreMarked (group_of x) x.records.marks) (sym same) c.requires.group.marked;
      err = on_err c.from_residual.result _ (ap group_of same);
    }

pub returns-clause-holders : goal.returns-clause-holders
returns-clause-holders c =
    let s = c.args.state.now in
    let d = c.args.draft in
    let r = c.args.renewal in
    let offer = c.in_ok-plan.ensures.offer in
    let between = c.prepare.new.state in
    let since = offered_since s.grants between.grants d.member.id (target_then s r).epoch offer.since in
    let epoch = ap (λ (g : Group). g.target_epoch) (ended c) ∙ stored_epoch _ d.member.id _ (heir_in s d) in
    record { since = then_same_since s.grants between.grants c.carry_out-reply.new.state.grants _ _ since c.carry_out-reply.ensures.since epoch; err = tt }

pub returns-in_err-plan-clause-holders : goal.returns-in_err-plan-clause-holders
returns-in_err-plan-clause-holders c =
    unchanged_holders c.from_residual.result c.args.state.now c.prepare.new.state (ap (λ (x : State). x.grants) c.in_err-plan.ensures.err)
