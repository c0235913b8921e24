use Rattle.std.proofs.Common.{ap, ◌∙◌}
use Rattle.group_types.specs.Owners.{share_of}
use Rattle.group_types.proofs.SpreadLemmas.{share-is}
use Rattle.group_target.proofs.target.Target.of.Goals as goal

-- src/target.rt:70:5
pub returns-clause-partitions : goal.returns-clause-partitions
returns-clause-partitions c =
    c.new.ensures.partitions
    ∙ share-is (λ set. set.now) c.self.inside.spread c.args.member.now c.share_of.result c.share_of.ensures
    ∙ ap (λ t. share_of t.owners c.args.member.now) c.self.view_is
