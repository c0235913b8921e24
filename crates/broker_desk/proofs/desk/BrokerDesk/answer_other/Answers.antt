use Rattle.std.proofs.Common.{refl, subst, ap, inl, inr}
use Rattle.coord_node.specs.Coordinator.{Replied}
use Rattle.broker_desk.specs.Answers.{IsAppended}
use Rattle.broker_desk.proofs.desk.BrokerDesk.answer_other.Goals as goal

pub returns-in-Replied-clause-gives : goal.returns-in-Replied-clause-gives
returns-in-Replied-clause-gives g c =
    let sent = subst (λ answer. IsAppended c.args.body.now answer c.args.out.now.items c.answer.new.out.items) c.in-Replied.is c.in_ok-answer.ensures.ok in (
      Replied sent.0,
      tt,
      inr (inr (inr (inr (record { other = c.requires; own = sent.1; same = refl })))),
      sent.2,
    )

pub returns-in-Held-clause-gives : goal.returns-in-Held-clause-gives
returns-in-Held-clause-gives g c =
    let sent = subst (λ answer. IsAppended c.args.body.now answer c.args.out.now.items c.answer.new.out.items) c.in-Held.is c.in_ok-answer.ensures.ok in
    let same = ap (λ desk. desk.coordinator) c.hold.ensures in (
      Replied sent.0,
      tt,
      inr (inr (inr (inr (record { other = c.requires; own = sent.1; same = same })))),
      sent.2,
    )
