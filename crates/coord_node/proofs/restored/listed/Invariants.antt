use Rattle.std.proofs.Common.{◌≡◌, map, take}
use Rattle.coord_node.specs.Restored.{listed_named}
use Rattle.coord_node.specs.NodeView.{named_in}
use Rattle.coord_node.proofs.restored.listed.Given as goal

-- the groups before the place are listed
abbrev pub invariant-loop-place : goal.invariant-loop-place
invariant-loop-place l = map listed_named l.list.items ≡ map named_in (take l.place l.groups.entries)
