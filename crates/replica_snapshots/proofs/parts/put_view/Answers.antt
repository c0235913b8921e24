use Rattle.std.proofs.Common.{length, sym, ap, ◌∙◌}
use Rattle.std.specs.FinMap as finite
use Rattle.std.proofs.lemmas.List.{length-map}
use Rattle.topic_meta.specs.Views.{named}
use Rattle.replica_snapshots.specs.Spelling.{topic_fields, FitsTopic}
use Rattle.replica_snapshots.proofs.Puts.{array_put}
use Rattle.replica_snapshots.proofs.parts.put_view.Goals as goal

pub returns : goal.returns
returns c =
    let all = c.topics-topics.ensures.all in
    array_put FitsTopic FitsTopic topic_fields (finite.entries c.args.view.now) c.put_each_topic.result
    (sym (length-map c.topics-topics.result.now named) ∙ ap length all) c.in_ok-put_size.ensures (rw all at c.put_each_topic.ensures)
