use Rattle.std.proofs.Common.{◌≡◌, map, option_map, Some, ap, sym, subst, ◌∙◌, arith}
use Rattle.std.specs.FinMap as finite
use Rattle.std.proofs.lemmas.Result.{IfOk-weaker, on_err_weaker}
use Rattle.indexmap.specs.IndexMap.{set_value_at}
use Rattle.kip_msgs.specs.Views.{heartbeat_request_value}
use Rattle.group_types.specs.Topics.{Topics}
use Rattle.group_types.specs.HeartbeatStep.{Arrival, HeartbeatStep}
use Rattle.group_epochs.specs.Request.{arrival_of}
use Rattle.group_core.specs.Outcome.{answer_of}
use Rattle.group_epochs.proofs.Found.{set_value_at-itself}
use Rattle.coord_node.specs.declared.kept.Kept.{Kept}
use Rattle.coord_node.specs.Coordinator.{Coordinator, Groups}
use Rattle.coord_node.specs.Nodes.{NodeValue, coordinator_of, state_of}
use Rattle.coord_node.specs.Kept.{HasRightNumber, group_in}
use Rattle.coord_node.specs.NodeView.{Entries, named_in}
use Rattle.coord_node.specs.Steps.{with_group}
use Rattle.coord_node.proofs.AnswerLemmas.{at_present}
use Rattle.coord_node.proofs.GroupLemmas.{as_map-set, get-as_map, OfEach-at, OfEach-set, length-set_value_at, absent_entry}
use Rattle.coord_node.proofs.ViewLemmas.{coordinator-is, groups-in}
use Rattle.coord_node.proofs.node.Node.outcome_of.Goals as goal

pub heartbeat-requires-clause-kept : goal.heartbeat-requires-clause-kept
heartbeat-requires-clause-kept c =
    OfEach-at (HasRightNumber c.self.inside.generation c.self.inside.image) c.self.inside.groups.entries c.in-Some.place c.index_mut-kept.result.now c.self.invariant.kept c.index_mut-kept.ensures.value

pub invariant_of-self : goal.invariant_of-self
invariant_of-self c =
    record {
      kept = OfEach-set (HasRightNumber c.self.inside.generation c.self.inside.image) c.self.inside.groups.entries c.in-Some.place c.heartbeat.new.self c.self.invariant.kept c.heartbeat.ensures.kept;
      few = omega (arith, length-set_value_at c.self.inside.groups.entries c.in-Some.place c.heartbeat.new.self, c.self.invariant.few);
    }

pub outcome_of_new-requires-clause-absent : goal.outcome_of_new-requires-clause-absent
outcome_of_new-requires-clause-absent c =
    let name = c.args.request.now.group_id.now in
    ap (λ (n : Coordinator). finite.get n.groups name) (sym (coordinator-is c.self.inside c.args.self.now c.self.view_is))
    ∙ get-as_map group_in c.self.inside.groups.entries name
    ∙ ap (option_map group_in) (absent_entry c.self.inside.groups.entries name (sym c.in-None.ensures.index))

pub returns-in-Some-clause-step : goal.returns-in-Some-clause-step
returns-in-Some-clause-step c =
    let n = coordinator_of c.args.self.now in
    let is_n = coordinator-is c.self.inside c.args.self.now c.self.view_is in
    let entries = c.self.inside.groups.entries in
    let v = heartbeat_request_value c.args.request.now in
    let name = c.args.request.now.group_id.now in
    let h : Arrival = arrival_of v c.args.stamp c.args.now n.image in
    let old = c.index_mut-kept.result.now in
    let new = c.heartbeat.new.self in
    let there : finite.get n.groups name ≡ Some old.group.state =
    ap (λ (n : Coordinator). finite.get n.groups name) (sym is_n)
    ∙ get-as_map group_in entries name ∙ ap (option_map group_in) (sym c.in-Some.ensures.value ∙ c.index_mut-kept.ensures.value) in
    let after : Entries = set_value_at entries c.in-Some.place new in
    let is : (record { salt = c.self.inside.salt; groups = finite.from_entries (map state_of (map named_in after)); image = c.self.inside.image }) ≡ with_group n name new.group.state =
    ap (λ (m : Groups). let x : Coordinator = record { salt = c.self.inside.salt; groups = m; image = c.self.inside.image } in x)
    (groups-in after ∙ as_map-set group_in entries name c.in-Some.place new (sym c.in-Some.ensures.index))
    ∙ ap (λ (x : Coordinator). with_group x name new.group.state) is_n in
    IfOk-weaker c.heartbeat.result _ _
    (λ outcome step. at_present n h old.group.state new.group.state there (answer_of outcome) _
    (subst (λ (image : Topics). HeartbeatStep old.group.state (arrival_of v c.args.stamp c.args.now image) (answer_of outcome) new.group.state) (ap (λ (x : Coordinator). x.image) is_n) step) is)
    c.heartbeat.ensures.step

pub returns-in-Some-clause-err : goal.returns-in-Some-clause-err
returns-in-Some-clause-err c =
    let n = c.self.inside in
    on_err_weaker c.heartbeat.result
    (λ same. ap (λ (es : Entries). let x : NodeValue = record { salt = n.salt; image = n.image; groups = map named_in es } in x)
    (ap (λ (k : Kept). set_value_at n.groups.entries c.in-Some.place k) same
    ∙ set_value_at-itself n.groups.entries c.in-Some.place c.index_mut-kept.result.now c.index_mut-kept.ensures.value)
    ∙ c.self.view_is)
    c.heartbeat.ensures.err
