use Rattle.std.proofs.Common.{refl, inl}
use Rattle.link_futures.proofs.TurnLemmas.{WritesOn_nothing, turn_is, turn_stops, LeavesDesk_same, LeavesDesk_rests}
use Rattle.link_futures.proofs.line.Line.step.Goals as goal

pub returns-in-Err-clause-stream : goal.returns-in-Err-clause-stream
returns-in-Err-clause-stream g c = (
  c.args.desk.now,
  turn_stops _ _ _ _ _ _ g.met.W.AsyncWrite.writes_nothing c.args.self.now c.read.new.self c.read.new.self c.args.desk.now c.in-Err.ensures.reads c.read.ensures.once refl,
  LeavesDesk_same _ c.in-Err.end _,
)

pub returns-in_default-clause-stream : goal.returns-in_default-clause-stream
returns-in_default-clause-stream g c = (
  c.args.desk.now,
  turn_stops _ _ _ _ _ _ g.met.W.AsyncWrite.writes_nothing c.args.self.now c.read.new.self c.answer.new.self c.args.desk.now c.in-Ok.ensures.reads c.read.ensures.once c.in_default.ensures.err.0,
  c.in_default.ensures.err.1,
)

pub returns-then-gathers-clause-stream : goal.returns-then-gathers-clause-stream
returns-then-gathers-clause-stream g c = (
  c.answer.new.desk,
  turn_is _ _ _ _ _ _ c.args.self.now c.read.new.self c.answer.new.self c.answer.new.self _ _ c.in-Ok.ensures.reads c.read.ensures.once c.in-Ok-answer.ensures.ok
      (WritesOn_nothing _ g.met.W.AsyncWrite.writes_nothing c.answer.new.self) (inl refl),
  refl,
)

pub returns-in-Err-write-clause-stream : goal.returns-in-Err-write-clause-stream
returns-in-Err-write-clause-stream g c = (
  c.answer.new.desk,
  turn_is _ _ _ _ _ _ c.args.self.now c.read.new.self c.answer.new.self c.write.new.self _ _ c.in-Ok.ensures.reads c.read.ensures.once c.in-Ok-answer.ensures.ok c.write.ensures.writes c.write.ensures.once,
  LeavesDesk_same _ c.in-Err-write.end _,
)

pub returns-in-Some-clause-stream : goal.returns-in-Some-clause-stream
returns-in-Some-clause-stream g c = (
  c.answer.new.desk,
  turn_is _ _ _ _ _ _ c.args.self.now c.read.new.self c.answer.new.self c.write.new.self _ _ c.in-Ok.ensures.reads c.read.ensures.once c.in-Ok-answer.ensures.ok c.write.ensures.writes c.write.ensures.once,
  LeavesDesk_same _ c.in-Some.end _,
)

pub returns-in-None-clause-stream : goal.returns-in-None-clause-stream
returns-in-None-clause-stream g c = (
  c.answer.new.desk,
  turn_is _ _ _ _ _ _ c.args.self.now c.read.new.self c.answer.new.self c.write.new.self _ _ c.in-Ok.ensures.reads c.read.ensures.once c.in-Ok-answer.ensures.ok c.write.ensures.writes c.write.ensures.once,
  LeavesDesk_rests _ c.rest.result _ c.rest.ensures.pending,
)
