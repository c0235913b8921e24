use Rattle.std.proofs.Common.{sym, ap, ◌∙◌}
use Rattle.std.specs.List.{list_all}
use Rattle.group_types.specs.Sets.{in_order}
use Rattle.group_types.specs.Partition.{Partitions}
use Rattle.group_reconcile.specs.Holders.{is_from_zero}
use Rattle.group_reconcile.proofs.FromZero.{nothing_from_zero}
use Rattle.group_reconcile.proofs.member_target.are_from_zero.Goals as goal

pub returns-in-None : goal.returns-in-None
returns-in-None c = sym nothing_from_zero ∙ ap (λ (set : Partitions). list_all (λ p. is_from_zero p.index) (in_order set)) c.in-None.ensures
