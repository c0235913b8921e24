use Rattle.std.proofs.lemmas.Bool.Decides.{same_from_decides}
use Rattle.std.proofs.lemmas.Slice.Eq.{slice_eq-Decides}
use Rattle.group_types.specs.Sets.{are_same}
use Rattle.group_types.proofs.Orders.{partition_cmp_total, partition_cmp-IsAntisymmetric, partition_eq-Decides}
use Rattle.group_types.proofs.ListSets.{same_lists}
use Rattle.group_types.proofs.SetLemmas.{are_same-Decides}
use Rattle.group_types.proofs.part_set.PartSet.equals.Goals as goal

pub returns-clause-same : goal.returns-clause-same
returns-clause-same c =
    let mine = c.self.inside.parts.items in
    let theirs = c.other.inside.parts.items in
    rw (← c.self.view_is, ← c.other.view_is)
    (same_lists partition_cmp_total mine theirs c.self.invariant c.other.invariant c.eq.result (slice_eq-Decides partition_eq-Decides mine theirs c.eq.result c.eq.ensures))

pub returns-clause-value : goal.returns-clause-value
returns-clause-value c =
    same_from_decides c.eq.result (are_same c.args.self.now c.args.other.now) (returns-clause-same c)
    (are_same-Decides partition_cmp_total partition_cmp-IsAntisymmetric c.args.self.now c.args.other.now)
