use Rattle.std.proofs.Common.{◌≡◌, ◌==◌, length, ap, ◌∙◌}
use Rattle.group_types.specs.Partition.{partition_cmp}
use Rattle.group_types.specs.Sets.{of_list, size}
use Rattle.range_assign.specs.Shares.{partitions_in, shares_in}
use Rattle.range_assign.proofs.PartsApart.{counted_apart}
use Rattle.range_assign.proofs.spread.sets_are_apart.Goals as goal

pub returns : goal.returns
returns c =
    let all = partitions_in (shares_in c.args.shares.now) in
    let in_set : c.len-2.result ≡ size (of_list {R = partition_cmp} all) =
    c.len-2.ensures ∙ ap size (c.of_vec.ensures ∙ ap of_list c.in_ok-all.ensures) in
    let in_list : length c.as_slice-count.result.now ≡ length all = ap length (c.as_slice-count.ensures.value ∙ c.in_ok-all.ensures) in
    counted_apart (shares_in c.args.shares.now) _ (λ i. in_set i == in_list i)
