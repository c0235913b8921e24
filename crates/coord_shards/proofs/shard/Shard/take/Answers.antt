use Rattle.std.proofs.Common.{◌≡◌, take, length, sym, subst, arith, ◌∙◌}
use Rattle.coord_node.specs.Nodes.{coordinator_of}
use Rattle.coord_shards.specs.declared.shard.JournalEntry.{JournalEntry}
use Rattle.coord_shards.specs.Events.{event_of, IsGiven, Gives}
use Rattle.coord_shards.specs.Home.{IsHome}
use Rattle.coord_shards.specs.Shard.{ShardState, one_more}
use Rattle.coord_shards.specs.Replay.{IsFull, IsShard, GoesOn, shard_view}
use Rattle.coord_shards.proofs.StepLemmas.{taken-is, room-is, take-kept_with}
use Rattle.coord_shards.proofs.shard.Shard.take.Goals as goal

abbrev entry_of : goal.After-self-1 → JournalEntry
entry_of c = record { seat = c.args.seat; event = event_of c.args.event.now }

-- what is of the shard once the event was acted on, and that this is a step
abbrev after : goal.After-self-1 → ShardState
after c = shard_view (record c.self.inside { node = c.act.new.node; journal = c.keep.new.journal; counts = one_more c.self.inside.counts c.args.seat })

-- the outcome and its bytes give an answer by which the shard goes on from a state
abbrev GoesOnFrom : goal.After-self-1 → ShardState → Type 0
GoesOnFrom c old = Gives c.in-Ok.outcome c.args.out.now.items c.act.new.out.items (λ given. GoesOn old (entry_of c) given (after c))

goes-on : (c : goal.After-self-1) → IsShard (after c) × GoesOnFrom c (shard_view c.self.inside)
goes-on c =
    let home : IsHome c.self.inside.shards (entry_of c).event c.self.inside.number =
    subst (λ (s : ShardState). IsHome s.shards (entry_of c).event s.number) (sym c.self.view_is) c.requires.home in
    let room = room-is _ _ (λ full.
    let is_full : IsFull c.args.self.now = subst IsFull c.self.view_is full in
    let yes = c.is_full.ensures.1 is_full in
    let no = c.if-is_full.false in
    cc) in
    taken-is (IsGiven c.in-Ok.outcome c.args.out.now.items c.act.new.out.items) (shard_view c.self.inside) (entry_of c) (coordinator_of c.act.new.node) c.keep.new.journal.items
    c.requires.seat home room c.in-Ok.ensures.acts c.in_ok-keep.ensures.kept c.self.invariant

pub invariant_of-self-in-Ok : goal.invariant_of-self-in-Ok
invariant_of-self-in-Ok c = (goes-on c).0

pub returns-in-Ok-clause-step : goal.returns-in-Ok-clause-step
returns-in-Ok-clause-step c =
    subst (GoesOnFrom c) c.self.view_is (goes-on c).1

pub invariant_of-self-in-Err : goal.invariant_of-self-in-Err
invariant_of-self-in-Err c =
    let old : ShardState = shard_view c.self.inside in
    let len : c.len-kept.result ≡ length old.kept = omega (arith, c.len-kept.ensures, c.self.inside.journal.ok.0) in
    let kept : c.truncate.new.self.items ≡ old.kept =
    c.truncate.ensures.items ∙ (λ i. take (len i) (c.in_ok-keep.ensures.kept i)) ∙ take-kept_with old.cap old.kept _ in
    subst IsShard (λ i. record old { present = coordinator_of (sym c.in-Err.ensures.err.0 i); kept = sym kept i }) c.self.invariant
