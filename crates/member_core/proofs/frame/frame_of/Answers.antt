use Rattle.std.proofs.Common.{inl, sym, ◌∙◌}
use Rattle.kip_msgs.specs.Views.{request_value}
use Rattle.member_core.proofs.Sizes.{many_refused}
use Rattle.member_core.proofs.frame.frame_of.Goals as goal

pub returns-then-not-are_few-clause-fault : goal.returns-then-not-are_few-clause-fault
returns-then-not-are_few-clause-fault c = inl (many_refused (request_value c.args.request.now) (sym c.are_few.ensures ∙ c.if-not-are_few.true))
