use Rattle.std.proofs.Common.{◌≡◌, List, [], map, subst, sym, ap, unwrap_or, ◌∙◌}
use Rattle.group_types.specs.declared.partition.Partition.{Partition}
use Rattle.group_types.specs.Partition.{Partitions, partition_cmp}
use Rattle.std.specs.Option.{option_copied}
use Rattle.group_types.specs.Sets.{in_order, nothing}
use Rattle.group_types.specs.Group.{held}
use Rattle.group_types.proofs.SetLemmas.{entries-nothing}
use Rattle.group_reconcile.specs.Holders.{pairs}
use Rattle.replica_snapshots.specs.Parts.{grant_of, grants_of}
use Rattle.replica_snapshots.specs.Puttable.{CanPutGrant}
use Rattle.replica_snapshots.specs.Spelling.{grant_fields, FitsGrant}
use Rattle.replica_snapshots.proofs.Puts.{array_of_none}
use Rattle.replica_snapshots.proofs.member.put_grants.Goals as goal

pub returns-in-None : goal.returns-in-None
returns-in-None c =
    let holders = c.args.grants.now in
    let nothing_held : nothing ≡ held (pairs holders) c.args.id.now =
    subst (λ found. unwrap_or (option_copied found) nothing ≡ held (pairs holders) c.args.id.now) c.in-None.is c.held_near-next.ensures in
    let none : grants_of holders c.args.id.now ≡ [] =
    ap (λ (set : Partitions). map (grant_of holders) (in_order set)) (sym nothing_held)
    ∙ ap (λ (entries : List (Partition × Unit {0})). map (grant_of holders) (map (λ e. e.0) entries)) (entries-nothing partition_cmp) in
    array_of_none CanPutGrant FitsGrant grant_fields (grants_of holders c.args.id.now) c.put_size.result none c.put_size.ensures
