use Rattle.std.proofs.Common.{◌≡◌, ℕ, subst, ap, ◌∙◌}
use Rattle.coord_shards.specs.Events.{event_of}
use Rattle.coord_shards.specs.Home.{IsHome}
use Rattle.coord_shards.specs.Calls.{Shape}
use Rattle.coord_shards.proofs.CallLemmas.{IsTaken-rises}
use Rattle.coord_shards.proofs.shards.Shards.take.Goals as goal

pub take_at-taken-requires-clause-home : goal.take_at-taken-requires-clause-home
take_at-taken-requires-clause-home g c =
    subst (λ (n : ℕ). IsHome n (event_of c.args.event.now) c.home-number.result)
    (c.len.ensures ∙ ap (λ (s : Shape). s.shards) c.self.view_is) c.home-number.ensures.home

pub returns-else-is_err-clause-taken : goal.returns-else-is_err-clause-taken
returns-else-is_err-clause-taken g c =
    let event = event_of c.args.event.now in
    let shards : c.len.result ≡ c.args.self.now.shards = c.len.ensures ∙ ap (λ (s : Shape). s.shards) c.self.view_is in
    let home = subst (λ (n : ℕ). IsHome n event c.home-number.result) shards c.home-number.ensures.home in
    let noted = rw (ap (λ (s : Shape). s.cap) c.self.view_is) at c.in_ok-note.ensures.noted in
    IsTaken-rises c.args.self.now c.args.seat.now c.note.new.self c.take_at-taken.new.seat event c.home-number.result
    c.args.out.now.items c.take_at-taken.new.out.items c.take_at-taken.result noted home c.take_at-taken.ensures.answered c.take_at-taken.ensures.seat
