use Rattle.std.proofs.Common.{inl, inr, ⊎_elim, refl, arith}
use Rattle.futures.specs.Runs.{EndsIf}
use Rattle.link_futures.proofs.WorkerLemmas.{AreArmed-waits, AreArmed-goes_on, AreArmed-ends, AreArmed-all}
use Rattle.link_futures.proofs.GivesLemmas.{turned, turned_out, contains_set_left, gives_set, gives_removed}
use Rattle.link_futures.proofs.worker.Worker.take_turns.Goals as goal

pub loop-place-init : goal.loop-place-init
loop-place-init g c = (
  (λ k d inside at. c.requires k d inside (⊎_elim (λ had. inl had.0) inr at)),
  (λ fact held. held),
  refl,
  refl,
  refl,
  λ n gives. gives,
)

pub loop-place-preserved-in-Waits : goal.loop-place-preserved-in-Waits
loop-place-preserved-in-Waits g c =
    let kept = c.loop-place.invariant in
    let keeps = c.step.ensures.kept in
    let stream = c.step.ensures.stream in
    let place = c.loop-place.place in
    let lines = c.loop-place.self.lines.items in (
      AreArmed-waits g.R.AsyncRead.needs g.W.AsyncWrite.needs (g.D.Desk.wakes c.loop-place.self.desk) (g.D.Desk.wakes c.step.new.desk) c.step.ensures.same_sources c.loop-place.cx c.step.new.cx lines place c.loop-place.first c.loop-place.behind c.args.turns.end c.step.new.self keeps kept.0 (c.in-Waits.ensures.armed refl),
      (λ fact held. keeps fact (kept.1 fact held)),
      kept.2,
      kept.3,
      kept.4,
      λ n gives.
          kept.5 n
          (gives_set g.R.AsyncRead.reads g.R.AsyncRead.is_at_end g.R.ReadPart.faults g.W.AsyncWrite.writes g.W.WriteParts.faults g.W.WriteParts.stalls g.D.Desk.answers (EndsIf c.loop-place.self.is_closed (g.A.Stream.yields c.loop-place.self.arrivals)) lines place c.index_mut.result.now c.step.new.self c.loop-place.self.resting.lines c.loop-place.self.resting.count c.loop-place.self.ended n (omega arith) c.index_mut.ensures.value
          (turned g.R.AsyncRead.reads g.R.AsyncRead.is_at_end g.R.ReadPart.faults g.W.AsyncWrite.writes g.W.WriteParts.faults g.W.WriteParts.stalls g.D.Desk.answers g.met.R.AsyncRead.reads_in_order g.met.W.AsyncWrite.writes_in_order c.index_mut.result.now c.step.new.self c.loop-place.self.desk stream.0 stream.1.talks c.in-Waits.ensures.goes_on) gives),
    )

pub loop-place-preserved-in-GoesOn : goal.loop-place-preserved-in-GoesOn
loop-place-preserved-in-GoesOn g c =
    let kept = c.loop-place.invariant in
    let keeps = c.step.ensures.kept in
    let stream = c.step.ensures.stream in
    let place = c.loop-place.place in
    let lines = c.loop-place.self.lines.items in (
      rw c.min-first.ensures (AreArmed-goes_on g.R.AsyncRead.needs g.W.AsyncWrite.needs (g.D.Desk.wakes c.loop-place.self.desk) (g.D.Desk.wakes c.step.new.desk) c.step.ensures.same_sources c.loop-place.cx c.step.new.cx lines place c.loop-place.first c.loop-place.behind c.args.turns.end c.step.new.self keeps (omega arith) kept.0),
      (λ fact held. keeps fact (kept.1 fact held)),
      kept.2,
      kept.3,
      kept.4,
      λ n gives.
          kept.5 n
          (gives_set g.R.AsyncRead.reads g.R.AsyncRead.is_at_end g.R.ReadPart.faults g.W.AsyncWrite.writes g.W.WriteParts.faults g.W.WriteParts.stalls g.D.Desk.answers (EndsIf c.loop-place.self.is_closed (g.A.Stream.yields c.loop-place.self.arrivals)) lines place c.index_mut.result.now c.step.new.self c.loop-place.self.resting.lines c.loop-place.self.resting.count c.loop-place.self.ended n (omega arith) c.index_mut.ensures.value
          (turned g.R.AsyncRead.reads g.R.AsyncRead.is_at_end g.R.ReadPart.faults g.W.AsyncWrite.writes g.W.WriteParts.faults g.W.WriteParts.stalls g.D.Desk.answers g.met.R.AsyncRead.reads_in_order g.met.W.AsyncWrite.writes_in_order c.index_mut.result.now c.step.new.self c.loop-place.self.desk stream.0 stream.1.talks c.in-GoesOn.ensures.goes_on) gives),
    )

pub loop-place-preserved : goal.loop-place-preserved
loop-place-preserved g c =
    let kept = c.loop-place.invariant in
    let keeps = c.step.ensures.kept in
    let stream = c.step.ensures.stream in
    let place = c.loop-place.place in
    let lines = c.loop-place.self.lines.items in
    let left = c.drop_line.new.lines.items in
    let n = c.loop-place.self.lines.len in (
      AreArmed-ends g.R.AsyncRead.needs g.W.AsyncWrite.needs (g.D.Desk.wakes c.loop-place.self.desk) (g.D.Desk.wakes c.step.new.desk) c.step.ensures.same_sources c.loop-place.cx c.step.new.cx lines left n place c.loop-place.first c.loop-place.behind c.args.turns.end c.step.new.self keeps (omega arith) (omega arith) (omega arith) c.drop_line.ensures.others kept.0,
      (λ fact held. keeps fact (kept.1 fact held)),
      kept.2,
      kept.3,
      kept.4,
      λ given gives.
          kept.5 given
          (gives_removed g.R.AsyncRead.reads g.R.AsyncRead.is_at_end g.R.ReadPart.faults g.W.AsyncWrite.writes g.W.WriteParts.faults g.W.WriteParts.stalls g.D.Desk.answers (EndsIf c.loop-place.self.is_closed (g.A.Stream.yields c.loop-place.self.arrivals)) lines left place c.index_mut.result.now c.loop-place.self.resting.lines c.loop-place.self.resting.count c.loop-place.self.ended c.saturating_add-self.result given _ (omega arith) c.index_mut.ensures.value (omega arith)
          (λ other. contains_set_left lines left n place c.step.new.self other (omega arith) (omega arith) c.drop_line.ensures.last c.drop_line.ensures.others)
          (turned_out g.R.AsyncRead.reads g.R.AsyncRead.is_at_end g.R.ReadPart.faults g.W.AsyncWrite.writes g.W.WriteParts.faults g.W.WriteParts.stalls g.D.Desk.answers c.index_mut.result.now c.step.new.self c.loop-place.self.desk stream.0 _ stream.1.talks c.in-Ends.ensures.ends) c.saturating_add-self.ensures gives),
    )

pub returns-else-place-len-clause-armed : goal.returns-else-place-len-clause-armed
returns-else-place-len-clause-armed g c =
    let l = c.loop-place in
    AreArmed-all g.R.AsyncRead.needs g.W.AsyncWrite.needs (g.D.Desk.wakes l.self.desk) l.cx l.self.lines.items l.place l.first l.behind c.args.turns.end (inr (omega arith)) l.invariant.0

pub returns-after-loop-place-clause-armed : goal.returns-after-loop-place-clause-armed
returns-after-loop-place-clause-armed g c =
    let l = c.loop-place in
    AreArmed-all g.R.AsyncRead.needs g.W.AsyncWrite.needs (g.D.Desk.wakes l.self.desk) l.cx l.self.lines.items l.place l.first l.behind c.args.turns.end (inl (omega arith)) l.invariant.0
