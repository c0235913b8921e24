use Rattle.std.proofs.Common.{subst, IfOk, ◌∙◌}
use Rattle.std.proofs.lemmas.Result.{IfOk-weaker}
use Rattle.coord_shards.specs.Events.{event_of, Gives}
use Rattle.coord_shards.specs.Calls.{Shape, IsAnsweredInARun}
use Rattle.coord_shards.proofs.CallLemmas.{InARun-GoesOn}
use Rattle.coord_shards.proofs.shards.Shards.take_at.Goals as goal

pub returns-clause-answered : goal.returns-clause-answered
returns-clause-answered g c =
    let itself = c.is_itself.ensures.itself.0 c.if-not-is_itself.false in
    subst (λ (shape : Shape). IfOk c.take.result (λ outcome. Gives outcome c.args.out.now.items c.take.new.out.items
    (λ given. IsAnsweredInARun shape c.args.number (event_of c.args.event.now) given))) c.self.view_is
    (IfOk-weaker c.take.result _ _
    (λ outcome (given, says, goes). (given, says, InARun-GoesOn _ c.args.number _ _ given _ (itself.0, itself.1 ∙ c.len.ensures, itself.2) c.is_itself.ensures.replay goes))
    c.take.ensures.step)
