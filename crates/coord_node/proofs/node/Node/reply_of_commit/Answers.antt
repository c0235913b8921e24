use Rattle.std.proofs.Common.{◌≡◌, map, option_map, Some, ap, sym, subst, ◌∙◌, arith}
use Rattle.std.specs.FinMap as finite
use Rattle.std.proofs.lemmas.Result.{IfOk-weaker, on_err_weaker}
use Rattle.indexmap.specs.IndexMap.{set_value_at}
use Rattle.kip_msgs.specs.Views.{commit_request_value, commit_reply_value}
use Rattle.group_types.specs.Topics.{Topics}
use Rattle.group_epochs.specs.Request.{commit_of}
use Rattle.group_core.specs.Commits.{Commits}
use Rattle.group_epochs.proofs.Found.{set_value_at-itself}
use Rattle.coord_node.specs.declared.kept.Kept.{Kept}
use Rattle.coord_node.specs.Coordinator.{Coordinator, Groups}
use Rattle.coord_node.specs.Nodes.{NodeValue, coordinator_of, state_of}
use Rattle.coord_node.specs.Kept.{HasRightNumber, group_in}
use Rattle.coord_node.specs.NodeView.{Entries, named_in}
use Rattle.coord_node.specs.Steps.{with_group}
use Rattle.coord_node.proofs.CommitLemmas.{commits_at_absent, commits_at_present}
use Rattle.coord_node.proofs.GroupLemmas.{as_map-set, get-as_map, OfEach-at, OfEach-set, length-set_value_at, absent_entry}
use Rattle.coord_node.proofs.ViewLemmas.{coordinator-is, groups-in}
use Rattle.coord_node.proofs.node.Node.reply_of_commit.Goals as goal

pub invariant_of-self : goal.invariant_of-self
invariant_of-self c =
    let P = HasRightNumber c.self.inside.generation c.self.inside.image in
    let entries = c.self.inside.groups.entries in
    let before : P c.index_mut-group.result.now = OfEach-at P entries c.in-Some.place c.index_mut-group.result.now c.self.invariant.kept c.index_mut-group.ensures.value in
    record {
      kept = OfEach-set P entries c.in-Some.place c.commit.new.self c.self.invariant.kept (c.commit.ensures.kept c.self.inside.generation before);
      few = omega (arith, length-set_value_at entries c.in-Some.place c.commit.new.self, c.self.invariant.few);
    }

pub returns-in-Some-clause-step : goal.returns-in-Some-clause-step
returns-in-Some-clause-step c =
    let n = coordinator_of c.args.self.now in
    let is_n = coordinator-is c.self.inside c.args.self.now c.self.view_is in
    let entries = c.self.inside.groups.entries in
    let v = commit_request_value c.args.request.now in
    let name = c.args.request.now.group_id.now in
    let old = c.index_mut-group.result.now in
    let new = c.commit.new.self in
    let there : finite.get n.groups name ≡ Some old.group.state =
    ap (λ (n : Coordinator). finite.get n.groups name) (sym is_n)
    ∙ get-as_map group_in entries name ∙ ap (option_map group_in) (sym c.in-Some.ensures.value ∙ c.index_mut-group.ensures.value) in
    let after : Entries = set_value_at entries c.in-Some.place new in
    let is : (record { salt = c.self.inside.salt; groups = finite.from_entries (map state_of (map named_in after)); image = c.self.inside.image }) ≡ with_group n name new.group.state =
    ap (λ (m : Groups). let x : Coordinator = record { salt = c.self.inside.salt; groups = m; image = c.self.inside.image } in x)
    (groups-in after ∙ as_map-set group_in entries name c.in-Some.place new (sym c.in-Some.ensures.index))
    ∙ ap (λ (x : Coordinator). with_group x name new.group.state) is_n in
    IfOk-weaker c.commit.result _ _
    (λ reply commits. commits_at_present n _ v (commit_reply_value reply) old.group.state new.group.state there
    (subst (λ (image : Topics). Commits old.group.state (commit_of v) image (commit_reply_value reply) new.group.state) (ap (λ (x : Coordinator). x.image) is_n) commits) is)
    c.commit.ensures.step

pub returns-in-Some-clause-err : goal.returns-in-Some-clause-err
returns-in-Some-clause-err c =
    let n = c.self.inside in
    on_err_weaker c.commit.result
    (λ same. ap (λ (es : Entries). let x : NodeValue = record { salt = n.salt; image = n.image; groups = map named_in es } in x)
    (ap (λ (k : Kept). set_value_at n.groups.entries c.in-Some.place k) same
    ∙ set_value_at-itself n.groups.entries c.in-Some.place c.index_mut-group.result.now c.index_mut-group.ensures.value)
    ∙ c.self.view_is)
    c.commit.ensures.err

pub returns-in-None-clause-step : goal.returns-in-None-clause-step
returns-in-None-clause-step c =
    let n = coordinator_of c.args.self.now in
    let is_n = coordinator-is c.self.inside c.args.self.now c.self.view_is in
    let v = commit_request_value c.args.request.now in
    let name = c.args.request.now.group_id.now in
    let absent = ap (λ (n : Coordinator). finite.get n.groups name) (sym is_n)
    ∙ get-as_map group_in c.self.inside.groups.entries name
    ∙ ap (option_map group_in) (absent_entry c.self.inside.groups.entries name (sym c.in-None.ensures.index)) in
    IfOk-weaker c.reply_of_absent.result _ _ (λ reply is. commits_at_absent n v (commit_reply_value reply) absent is) c.reply_of_absent.ensures
