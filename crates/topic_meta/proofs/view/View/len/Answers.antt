use Rattle.std.proofs.Common.{length, sym, ap, ◌∙◌}
use Rattle.std.specs.FinMap as finite
use Rattle.std.proofs.Math.ListN.{length-map}
use Rattle.topic_meta.specs.Views.{named}
use Rattle.topic_meta.proofs.view.View.len.Goals as goal

pub returns : goal.returns
returns c = sym (length-map c.topics.result.now named) ∙ ap length c.topics.ensures.all ∙ sym (finite.len-entries c.args.self.now)
