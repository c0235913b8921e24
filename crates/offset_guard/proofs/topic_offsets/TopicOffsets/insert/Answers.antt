use Rattle.std.proofs.Common.{rules, ◌≡◌, ap, cond, Some, ◌∙◌, to_z, of_z, w32}
use Rattle.std.specs.FinMap as finite
use Rattle.std.specs.Map.{lookup}
use Rattle.std.specs.Ordering.{int_eq}
use Rattle.offset_guard.proofs.Indexes.{by_index-insert}
use Rattle.offset_guard.proofs.topic_offsets.TopicOffsets.insert.Goals as goal

pub returns : goal.returns
returns c =
    let index : to_z w32 (of_z w32 c.args.index) ≡ c.args.index = search rules in
    by_index-insert c.self.inside.offsets.entries c.insert.new.self.entries c.args.index c.args.committed
    (λ k. c.in_ok-insert.ensures.updates.0 k ∙ ap (λ i. cond (int_eq i k) (Some c.args.committed) (lookup (int_eq k) c.self.inside.offsets.entries)) index)
    ∙ ap (λ t. finite.insert t.offsets c.args.index c.args.committed) c.self.view_is
