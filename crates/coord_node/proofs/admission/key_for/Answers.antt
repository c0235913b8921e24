use Rattle.std.proofs.Common.{arith}
use Rattle.coord_node.specs.declared.kept.Kept.{Kept}
use Rattle.coord_node.proofs.GroupLemmas.{len-as_map}
use Rattle.coord_node.proofs.admission.key_for.Goals as goal

pub returns-then-len-ge-MOST_GROUPS-clause-full : goal.returns-then-len-ge-MOST_GROUPS-clause-full
returns-then-len-ge-MOST_GROUPS-clause-full c = λ is.
    omega (arith, len-as_map (λ (k : Kept). k.group.state) c.args.groups.now.entries c.len.ensures.unique, c.len.ensures.len, c.if-len-ge-MOST_GROUPS.true)

pub returns-in-Ok-clause-room : goal.returns-in-Ok-clause-room
returns-in-Ok-clause-room c =
    let count = len-as_map (λ (k : Kept). k.group.state) c.args.groups.now.entries c.len.ensures.unique in (
      omega (arith, count, c.len.ensures.len, c.if-len-ge-MOST_GROUPS.false),
      omega (arith, c.len.ensures.len, c.if-len-ge-MOST_GROUPS.false),
    )
