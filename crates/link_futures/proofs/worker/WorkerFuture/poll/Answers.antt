use Rattle.std.proofs.Common.{◌≡◌, ℕ, ◌<◌, ◌≤◌, ◌⊎◌, ⊎_elim, true, [], inl, inr, arith, length, refl}
use Rattle.std.proofs.lemmas.Bool.{cases_lt}
use Rattle.std.proofs.lemmas.Grind.{common_steps}
use Rattle.std.proofs.lemmas.List.{nil_from_length}
use Rattle.futures.specs.Runs.{EndsIf}
use Rattle.link_futures.proofs.TurnLemmas.{Covers_kept}
use Rattle.link_futures.proofs.WorkerLemmas.{WorkerNeeds_covered}
use Rattle.link_futures.proofs.GivesLemmas.{gives_all}
use Rattle.link_futures.proofs.worker.WorkerFuture.poll.Goals.{else-self-via-then-self+then-is_empty-2+else-len-eq0, else-self-via-then-self+else-is_empty-2, else-self-via-else-self, then-had_come, else-had_come}
use Rattle.link_futures.proofs.worker.WorkerFuture.poll.Goals as goal

pub returns-clause-registered : goal.returns-clause-registered
returns-clause-registered g c =
    let kept = c.loop-round.invariant in
    let same = c.rest_all.ensures.none c.if-rest_all.false in
    let one_side : (k : ℕ) → (k < c.loop-round.going.start) ⊎ (c.loop-round.going.end ≤ k) =
    λ k. ⊎_elim inl (λ (h : c.loop-round.going.start ≤ k). inr (grind (arith, common_steps))) (cases_lt k c.loop-round.going.start) in
    let left : c.rest_all.new.self.is_closed ≡ true → (0 < length c.rest_all.new.self.lines.items) ⊎ (0 < c.rest_all.new.self.resting.count) =
    elim c.else-self.branch [
      | else-self-via-then-self+then-is_empty-2+else-len-eq0 w ↦ λ closed. inr (omega (arith, w.len-then-is_empty-2.ensures, w.if-len-eq0.false))
      | else-self-via-then-self+else-is_empty-2 w ↦ λ closed. inl (grind (arith, common_steps))
      | else-self-via-else-self w ↦ λ closed. cc
    ] in
    let some : c.loop-round.self.is_closed ≡ true → (0 < length c.loop-round.self.lines.items) ⊎ (0 < c.loop-round.self.resting.count) = rw same at left in
    rw same
    (WorkerNeeds_covered g.A.Stream.needs g.R.AsyncRead.needs g.W.AsyncWrite.needs (g.D.Desk.wakes c.loop-round.self.desk) c.loop-round.self.is_closed c.loop-round.self.lines.items c.loop-round.self.resting.lines c.loop-round.self.resting.count c.loop-round.self.arrivals c.loop-round.cx
    (kept.1 c.if-has_come.false) (λ k d inside. kept.3 c.if-has_come.false k d inside (one_side k)) (kept.2 c.if-has_come.false) some)

pub returns-then-len-eq0-clause-value : goal.returns-then-len-eq0-clause-value
returns-then-len-eq0-clause-value g c =
    let worker = c.rest_all.new.self in
    let zero : length worker.lines.items ≡ 0 = grind (arith, common_steps) in
    let none : worker.lines.items ≡ [] = nil_from_length worker.lines.items zero in
    let count : worker.resting.count ≡ 0 = omega (arith, c.len-then-is_empty-2.ensures, c.if-len-eq0.true) in
    rw c.ended_lines.ensures.value
    (c.loop-round.invariant.5 worker.ended ((c.rest_all.ensures.gives worker.ended (rw (c.if-self.true, none, count) (gives_all g.R.AsyncRead.reads g.R.AsyncRead.is_at_end g.R.ReadPart.faults g.W.AsyncWrite.writes g.W.WriteParts.faults g.W.WriteParts.stalls g.D.Desk.answers _ worker.ended (EndsIf true (g.A.Stream.yields worker.arrivals)) (refl, refl) (omega (arith, c.ended_lines.ensures.value, c.ended_lines.ensures.small)))))))

pub take_turns-going-requires : goal.take_turns-going-requires
take_turns-going-requires g c =
    elim c.if-had_come.branch [
      | then-had_come w ↦ rw w.turns-is (λ k d below at. absurd (⊎_elim (λ h. omega (arith, h)) (λ h. omega (arith, w.len.ensures, below, h)) at))
      | else-had_come w ↦ let same = c.look-has_come.ensures.none w.if-had_come.false in rw (w.turns-is, same.0, same.1) (c.loop-round.invariant.3 w.if-had_come.false)
    ]

pub loop-round-preserved : goal.loop-round-preserved
loop-round-preserved g c =
    let kept = c.loop-round.invariant in
    let look = c.look-has_come.ensures in
    let turns = c.take_turns-going.ensures in (
      rw (turns.arrivals.0, turns.arrivals.1) look.can,
      rw (turns.arrivals.0, turns.arrivals.1) (λ none going. Covers_kept _ _ _ (look.waits none going) turns.kept),
      rw turns.resting (λ none some. Covers_kept _ _ _ (look.rests none some) turns.kept),
      (λ none. turns.armed),
      (λ fact held. turns.kept fact (look.kept fact (kept.4 fact held))),
      λ n gives. kept.5 n (look.gives n (turns.gives n gives)),
    )

pub returns-then-rest_all-clause-same : goal.returns-then-rest_all-clause-same
returns-then-rest_all-clause-same g c =
    rw c.yield_now-then-rest_all.ensures.pending (λ n gives. (c.loop-round.invariant.5 n (c.rest_all.ensures.gives n gives)))

pub returns-clause-same : goal.returns-clause-same
returns-clause-same g c =
    λ n gives. (c.loop-round.invariant.5 n (c.rest_all.ensures.gives n gives))
