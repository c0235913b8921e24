use Rattle.std.proofs.Common.{◌≡◌, ◌≤◌, ◌||◌, ◌∙◌, ap, Bool, true, false, Option, sym, subst}
use Rattle.std.specs.Option.{IfSome}
use Rattle.std.proofs.lemmas.Result.{IfOk-weaker}
use Rattle.group_types.specs.Limits.{MOST_PARTITIONS}
use Rattle.group_types.specs.Sets.{common, size}
use Rattle.group_types.specs.Text.{Text}
use Rattle.group_types.specs.Topics.{Topics}
use Rattle.group_types.specs.Owners.{Spread, share_of}
use Rattle.group_types.specs.Partition.{Partitions}
use Rattle.group_types.specs.Group.{held}
use Rattle.group_types.specs.Request.{is_full}
use Rattle.group_types.specs.HeartbeatStep.{assignment_of, is_news}
use Rattle.kip_msgs.specs.Views.{heartbeat_request_value}
use Rattle.group_epochs.specs.Request.{heartbeat_of}
use Rattle.group_types.specs.Images.{AreImageTopics}
use Rattle.group_core.specs.Stages.{AreOfView, grants_then, target_then}
use Rattle.group_core.proofs.FewPartitions.{few_shown}
use Rattle.group_core.proofs.Results.{IfOk-both}
use Rattle.group_core.proofs.plan.assignment_of.Goals as goal

abbrev IsFew : Partitions → Type 0
IsFew set = size set ≤ MOST_PARTITIONS

few_told : (b : Bool) (set : Partitions) → IsFew set → IfSome (assignment_of b set) IsFew
few_told true set few = few
few_told false set few = tt

few_of : (view : Topics) (owners : Spread) (m : Text) (held : Partitions) → AreImageTopics view → AreOfView owners view
    → (shown : Partitions) → shown ≡ common held (share_of owners m) → (b : Bool) (told : Option Partitions) → told ≡ assignment_of b shown → IfSome told IsFew
few_of view owners m held image of shown is b told so =
    subst (λ o. IfSome o IsFew) (sym so) (few_told b shown (subst IsFew (sym is) (few_shown view owners m held image of)))

pub returns-clause-said : goal.returns-clause-said
returns-clause-said c =
    let d = c.args.draft.now in
    let q = heartbeat_of (heartbeat_request_value c.args.request.now) in
    let shown = c.in_ok-shown.shown in
    IfOk-both c.said_of.result _ _ _
    (λ said told kept. (
      told ∙ ap (λ b. assignment_of b shown) c.is_said-is_said.ensures
          ∙ ap (λ (x : Partitions). assignment_of (is_full q || is_news d.member.record.sent x) x) c.in_ok-shown.ensures,
      kept ∙ sym told,
    ))
    c.said_of.ensures.assignment c.said_of.ensures.sent

pub returns-clause-few : goal.returns-clause-few
returns-clause-few c =
    let s = c.args.state.now in
    let d = c.args.draft.now in
    let r = c.args.renewal.now in
    IfOk-weaker c.said_of.result _ _
    (λ said told. few_of r.view (target_then s r).owners d.member.id (held (grants_then s d r c.args.owned.now) d.member.id) c.topics.ensures.sound c.requires
    c.in_ok-shown.shown c.in_ok-shown.ensures c.is_said-is_said.result said.0 told)
    c.said_of.ensures.assignment
