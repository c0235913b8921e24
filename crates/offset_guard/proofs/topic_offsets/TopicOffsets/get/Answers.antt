use Rattle.std.proofs.Common.{rules, ◌≡◌, sym, ap, ◌∙◌, to_z, of_z, w32}
use Rattle.std.specs.FinMap as finite
use Rattle.std.specs.Map.{lookup}
use Rattle.std.specs.Ordering.{int_eq}
use Rattle.offset_guard.proofs.Indexes.{get-by_index}
use Rattle.offset_guard.proofs.topic_offsets.TopicOffsets.get.Goals as goal

pub returns : goal.returns
returns c =
    let index : to_z w32 (of_z w32 c.args.index) ≡ c.args.index = search rules in
    c.get.ensures.value
    ∙ ap (λ i. lookup (int_eq i) c.self.inside.offsets.entries) index
    ∙ sym (get-by_index c.self.inside.offsets.entries c.args.index)
    ∙ ap (λ t. finite.get t.offsets c.args.index) c.self.view_is
