use Rattle.std.proofs.Common.{◌≡◌, ℕ, List, All, map, reverse, sym, ap, subst, ◌∙◌}
use Rattle.std.proofs.lemmas.List.Elements.{All-map, All-same}
use Rattle.coord_shards.specs.Calls.{Shape}
use Rattle.coord_shards.specs.Seat.{SeatState}
use Rattle.coord_shards.specs.Shard.{ShardState}
use Rattle.coord_shards.specs.Close.{Agrees}
use Rattle.coord_shards.proofs.CloseLemmas.{All-reverse}
use Rattle.coord_shards.proofs.shards.Shards.close.Goals as goal

pub returns-in-Ok-room_for-clause-agree : goal.returns-in-Ok-room_for-clause-agree
returns-in-Ok-room_for-clause-agree g c =
    let items = c.settle.result.items in
    let P : ShardState → Type 0 = λ shard. All (Agrees c.self.inside.settings.cap shard) c.deref-2.result.now in
    let same : items ≡ reverse (map (λ h. h.shard) c.deref.result.now) =
    c.settle.ensures.shards ∙ ap (λ hs. reverse (map (λ h. h.shard) hs)) (sym c.deref.ensures.value) in
    let all : All P items =
    All-same P _ _ same (All-reverse P _ (All-map P (λ h. h.shard) c.deref.result.now c.in-Ok-room_for.ensures.agree.1)) in
    subst (λ (n : ℕ). All (λ shard. All (Agrees n shard) c.args.seats.items) items) (ap (λ (s : Shape). s.cap) c.self.view_is)
    (subst (λ (seats : List SeatState). All (λ shard. All (Agrees c.self.inside.settings.cap shard) seats) items) c.deref-2.ensures.value all)
