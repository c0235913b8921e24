use Rattle.std.proofs.Common.{Some, None, ap, ◌∙◌}
use Rattle.group_types.specs.Partition.{Partitions}
use Rattle.group_types.specs.Owners.{share_of}
use Rattle.group_types.proofs.SpreadLemmas.{share-is}
use Rattle.group_target.proofs.target.Target.of_near.Goals as goal

pub returns-in-Some-clause-partitions : goal.returns-in-Some-clause-partitions
returns-in-Some-clause-partitions c =
    c.new.ensures.partitions
    ∙ share-is (λ (set : Partitions). set) c.self.inside.spread c.args.member.now (Some c.in-Some.set.now) c.in-Some.ensures
    ∙ ap (λ t. share_of t.owners c.args.member.now) c.self.view_is

pub returns-in-None-clause-partitions : goal.returns-in-None-clause-partitions
returns-in-None-clause-partitions c =
    c.new-in-None.ensures.partitions
    ∙ share-is (λ (set : Partitions). set) c.self.inside.spread c.args.member.now None c.in-None.ensures
    ∙ ap (λ t. share_of t.owners c.args.member.now) c.self.view_is
