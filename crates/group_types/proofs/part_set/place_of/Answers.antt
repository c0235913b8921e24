use Rattle.std.proofs.Common.{◌≡◌, true, ap, sym, ◌∙◌, length}
use Rattle.std.specs.Ordering.{is_lt}
use Rattle.group_types.specs.Partition.{partition_cmp}
use Rattle.group_types.proofs.Orders.{Less-is_lt, partition_cmp_total, partition_cmp-IsAntisymmetric}
use Rattle.group_types.proofs.RisingLists.{absent-gap, err-search, gap-end, ok-search, there-search}
use Rattle.group_types.proofs.part_set.place_of.Goals as goal

pub returns-in-Some-clause-gap : goal.returns-in-Some-clause-gap
returns-in-Some-clause-gap c =
    let less : is_lt (partition_cmp c.in-Some.last.now c.args.p.now) ≡ true = ap is_lt (sym c.cmp.ensures) ∙ sym c.is_lt.ensures ∙ c.if-is_lt.true in
    gap-end partition_cmp_total c.args.p.now c.in-Some.last.now c.args.parts.now c.requires (sym c.in-Some.ensures.value) (Less-is_lt _ less)

pub returns-in-Some-clause-there : goal.returns-in-Some-clause-there
returns-in-Some-clause-there c =
    sym (absent-gap partition_cmp_total c.args.p.now c.args.parts.now (length c.args.parts.now) (returns-in-Some-clause-gap c))

pub returns-in_default-clause-there : goal.returns-in_default-clause-there
returns-in_default-clause-there c =
    there-search partition_cmp_total partition_cmp-IsAntisymmetric c.args.p.now c.args.parts.now c.binary_search.result c.requires c.binary_search.ensures.bound c.binary_search.ensures.position

pub returns-in_default-clause-found : goal.returns-in_default-clause-found
returns-in_default-clause-found c =
    ok-search partition_cmp_total partition_cmp-IsAntisymmetric c.args.p.now c.args.parts.now c.binary_search.result c.binary_search.ensures.bound c.binary_search.ensures.position

pub returns-in_default-clause-gap : goal.returns-in_default-clause-gap
returns-in_default-clause-gap c =
    err-search partition_cmp_total partition_cmp-IsAntisymmetric c.args.p.now c.args.parts.now c.binary_search.result c.requires c.binary_search.ensures.position
