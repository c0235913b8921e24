use Rattle.std.proofs.Common.{◌≡◌, map, Result, Ok, Err, IfOk, OnErr, ap, sym, subst, ◌∙◌}
use Rattle.std.specs.FinMap as finite
use Rattle.std.proofs.lemmas.Result.{IfOk-weaker}
use Rattle.kip_msgs.specs.Views.{heartbeat_request_value}
use Rattle.group_types.specs.Group.{new_group}
use Rattle.group_types.specs.Text.{Text}
use Rattle.group_types.specs.Topics.{Topics}
use Rattle.group_types.specs.HeartbeatStep.{Answer, Arrival, HeartbeatStep}
use Rattle.group_epochs.specs.Request.{arrival_of}
use Rattle.group_core.specs.Outcome.{answer_of}
use Rattle.coord_node.specs.declared.kept.Kept.{Kept}
use Rattle.coord_node.specs.Coordinator.{Coordinator}
use Rattle.coord_node.specs.Kept.{HasRightNumber}
use Rattle.coord_node.specs.Nodes.{coordinator_of, state_of}
use Rattle.coord_node.specs.NodeView.{Entries, IsAdmitted, fails, kept, full, groups_of, named_in}
use Rattle.coord_node.specs.Steps.{HeartbeatAt}
use Rattle.coord_node.proofs.AnswerLemmas.{at_admission}
use Rattle.coord_node.proofs.GroupLemmas.{OfEach, OfEach-push}
use Rattle.coord_node.proofs.ViewLemmas.{coordinator-is, groups-in}
use Rattle.coord_node.proofs.node.Node.outcome_of_new.Goals as goal

-- whatever came of it, what holds of each group still does
still_of_each : {T E : Type 0} (P : Kept → Type 0) (old entries : Entries) (name : Text) (k : Kept) (given : Answer) (answer_in : T → Answer) (r : Result T E)
    → OfEach P old → P k → IfOk r (λ o. IsAdmitted old name k given (answer_in o) entries) → OnErr r (entries ≡ old) → OfEach P entries
still_of_each P old entries name k given answer_in (Ok o) each here (kept success room more answers) err =
    subst (OfEach P) (sym more.entries) (OfEach-push P old more.key k each here)
still_of_each P old entries name k given answer_in (Ok o) each here (full success most same answers) err = subst (OfEach P) (sym same) each
still_of_each P old entries name k given answer_in (Ok o) each here (fails no_success same answers) err = subst (OfEach P) (sym same) each
still_of_each P old entries name k given answer_in (Err e) each here admitted err = subst (OfEach P) (sym err) each

pub invariant_of-self : goal.invariant_of-self
invariant_of-self c =
    record {
      kept = still_of_each (HasRightNumber c.self.inside.generation c.self.inside.image) c.self.inside.groups.entries c.admit.new.groups.entries c.args.request.now.group_id.now
          c.heartbeat.new.self (answer_of c.in-Ok.outcome) answer_of c.admit.result c.self.invariant.kept c.in-Ok.ensures.kept c.admit.ensures.admitted c.admit.ensures.err;
      few = c.admit.ensures.few c.self.invariant.few;
    }

pub admit-requires : goal.admit-requires
admit-requires c =
    ap (λ (x : Coordinator). finite.get x.groups c.args.request.now.group_id.now) (coordinator-is c.self.inside c.args.self.now c.self.view_is) ∙ c.requires.absent

pub returns-in-Ok-clause-step : goal.returns-in-Ok-clause-step
returns-in-Ok-clause-step c =
    let n = coordinator_of c.args.self.now in
    let is_n = coordinator-is c.self.inside c.args.self.now c.self.view_is in
    let v = heartbeat_request_value c.args.request.now in
    let h : Arrival = arrival_of v c.args.stamp c.args.now n.image in
    let given = answer_of c.in-Ok.outcome in
    let new = c.heartbeat.new.self in
    let entries = c.admit.new.groups.entries in
    let step : HeartbeatStep c.new-kept.result.group.state h given new.group.state =
    subst (λ (image : Topics). HeartbeatStep c.new-kept.result.group.state (arrival_of v c.args.stamp c.args.now image) given new.group.state) (ap (λ (x : Coordinator). x.image) is_n) c.in-Ok.ensures.step in
    let is : (record n { groups = groups_of entries }) ≡ (record { salt = c.self.inside.salt; groups = finite.from_entries (map state_of (map named_in entries)); image = c.self.inside.image }) =
    ap (λ (x : Coordinator). record x { groups = groups_of entries }) (sym is_n)
    ∙ (λ i. let x : Coordinator = record { salt = c.self.inside.salt; groups = sym (groups-in entries) i; image = c.self.inside.image } in x) in
    IfOk-weaker c.admit.result _ _
    (λ outcome admitted. subst (λ (x : Coordinator). HeartbeatAt (finite.get n.groups h.heartbeat.group) n h (answer_of outcome) x) is
    (at_admission n h c.requires.absent c.new-kept.result.group.state new given (answer_of outcome) c.self.inside.groups.entries entries
    (c.new-kept.ensures.group ∙ ap (λ (x : Coordinator). new_group x.salt) is_n) step
    (ap (λ (x : Coordinator). x.groups) is_n) admitted))
    c.admit.ensures.admitted
