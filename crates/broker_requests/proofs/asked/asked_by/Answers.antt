use Rattle.std.proofs.Common.{◌≡◌, to_z, of_z, rules, ◌∙◌}
use Rattle.std.specs.Int.{w16}
use Rattle.broker_messages.specs.declared.api.BrokerApi.TheVariants.{ConsumerGroupHeartbeat}
use Rattle.broker_requests.proofs.BodyLemmas.{no_heartbeat_1, no_other}
use Rattle.broker_requests.proofs.asked.asked_by.Goals as goal

pub returns-in-None : goal.returns-in-None
returns-in-None c =
    let key : to_z w16 (of_z w16 c.in-Ok.key) ≡ c.in-Ok.key = search rules in (
      no_heartbeat_1 c.args.body.now c.in-Ok.key c.in-Ok.rest.now c.in-Ok.ensures.only
          (λ e. let found = c.in-None.ensures.all ConsumerGroupHeartbeat (key ∙ e) in absurd cc),
      no_other c.args.body.now c.in-Ok.key c.in-Ok.rest.now c.in-Ok.ensures.only
          (λ api a b e. let found = c.in-None.ensures.all api (key ∙ e) in absurd cc),
    )
