use Rattle.std.proofs.Common.{◌∙◌}
use Rattle.std.specs.FinMap as finite
use Rattle.std.specs.Option.{option_or}
use Rattle.offset_guard.proofs.Indexes.{get-appended}
use Rattle.offset_guard.proofs.topic_offsets.TopicOffsets.append.Goals as goal

pub returns : goal.returns
returns c i =
    get-appended c.self.inside.offsets.entries c.news.inside.offsets.entries c.append.new.self.entries c.len-len.ensures.unique c.in-Ok.ensures.inserts.0 i
    ∙ (λ j. option_or (finite.get (c.news.view_is j).offsets i) (finite.get (c.self.view_is j).offsets i))
