use Rattle.std.proofs.Common.{◌≡◌, List, [], map, sym, ap, ◌∙◌}
use Rattle.group_types.specs.declared.partition.Partition.{Partition}
use Rattle.group_types.specs.Partition.{Partitions, partition_cmp}
use Rattle.group_types.specs.Owners.{share_of}
use Rattle.group_types.specs.Sets.{in_order}
use Rattle.group_types.proofs.SetLemmas.{entries-nothing}
use Rattle.replica_snapshots.specs.Spelling.{partition_fields, FitsPartition}
use Rattle.replica_snapshots.proofs.Puts.{array_of_none}
use Rattle.replica_snapshots.proofs.member.put_share.Goals as goal

pub returns-in-None : goal.returns-in-None
returns-in-None c =
    let share = share_of c.args.target.now.owners c.args.id.now in
    let none : in_order share ≡ [] =
    ap (λ (set : Partitions). in_order set) (sym (c.in-None.ensures ∙ c.of_near-wanted.ensures.partitions))
    ∙ ap (λ (entries : List (Partition × Unit {0})). map (λ e. e.0) entries) (entries-nothing partition_cmp) in
    array_of_none FitsPartition FitsPartition partition_fields (in_order share) c.put_size.result none c.put_size.ensures
