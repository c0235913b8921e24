use Rattle.std.proofs.Common.{◌≡◌, ◌≤◌, ◌*◌, take}
use Rattle.std.specs.List.{sum_by}
use Rattle.group_types.specs.Limits.{MOST_MEMBERS}
use Rattle.coord_node.proofs.TickLemmas.{AreTicked, lost}
use Rattle.coord_node.proofs.tick.tick_all.Given as goal

abbrev pub invariant-loop-place : goal.invariant-loop-place
invariant-loop-place l =
    AreTicked l.now l.place l.initial.groups.entries l.groups.entries
    × (l.removed ≡ sum_by (lost l.now) (take l.place l.initial.groups.entries))
    × (l.removed ≤ l.place * MOST_MEMBERS)
