use Rattle.std.proofs.Common.{subst}
use Rattle.kip_msgs.specs.Views.{heartbeat_request_value}
use Rattle.group_epochs.specs.Request.{heartbeat_of}
use Rattle.group_core.specs.Stages.{IsOffered, IsPlan}
use Rattle.group_core.proofs.settle.prepare.Goals as goal

pub returns-clause-plan : goal.returns-clause-plan
returns-clause-plan c =
    let q = heartbeat_of (heartbeat_request_value c.args.request.now) in
    subst (λ owned. IsPlan c.args.state.now c.args.draft.now c.args.renewal.now q owned c.in_ok-plan.plan) c.in_ok-owned.ensures c.in_ok-plan.ensures.plan

pub returns-clause-offer : goal.returns-clause-offer
returns-clause-offer c =
    subst (λ owned. IsOffered c.args.state.now c.args.draft.now c.args.renewal.now owned c.in_ok-moves.moves c.offered.new.state) c.in_ok-owned.ensures c.in_ok-moves.ensures.offer
