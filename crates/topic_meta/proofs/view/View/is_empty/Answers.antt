use Rattle.topic_meta.proofs.Shown.{is_empty-says}
use Rattle.topic_meta.proofs.view.View.is_empty.Goals as goal

pub returns : goal.returns
returns c = is_empty-says c.args.self.now c.len.result c.len.ensures
