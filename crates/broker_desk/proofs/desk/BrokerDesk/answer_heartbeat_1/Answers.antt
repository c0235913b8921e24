use Rattle.std.proofs.Common.{◌≡◌, ℤ, to_z, of_z, rules, refl, subst, inl, inr}
use Rattle.std.specs.Int.{w32}
use Rattle.coord_node.specs.Coordinator.{Replied}
use Rattle.broker_requests.specs.Refusals.{IsRefusalTo}
use Rattle.broker_requests.specs.Translations.{IsTranslatedAs}
use Rattle.broker_desk.proofs.desk.BrokerDesk.answer_heartbeat_1.Goals as goal

pub returns-in_ok-put_refusal-in-Refusal-clause-gives :
    goal.returns-in_ok-put_refusal-in-Refusal-clause-gives
returns-in_ok-put_refusal-in-Refusal-clause-gives g c =
    let refused = subst (IsTranslatedAs (g.O.TopicNames.names c.args.self.now.others) c.args.body.now) c.in-Refusal.is c.in_ok-written.ensures in
    let id : to_z w32 (of_z w32 c.in-Refusal.correlation_id) ≡ c.in-Refusal.correlation_id = search rules in
    let put = c.in_ok-put_refusal-in-Refusal.ensures.ok in (
      Replied put.0,
      tt,
      inr (inr (inl (record {
        heartbeat_1 = c.requires;
        correlation_id = c.in-Refusal.correlation_id;
        refused = refused;
        frame = put.0;
        is_refusal = subst (λ (z : ℤ). IsRefusalTo z put.0) id put.1;
        replied = refl;
        same = refl;
      }))),
      put.2,
    )
