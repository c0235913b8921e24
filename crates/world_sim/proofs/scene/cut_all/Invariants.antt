use Rattle.std.proofs.Common.{◌≡◌, ◌++◌, map, take, drop}
use Rattle.coord_node.specs.Nodes.{coordinator_of}
use Rattle.world_sim.specs.World.{cut}
use Rattle.world_sim.proofs.scene.cut_all.Given as goal

abbrev pub invariant-loop-commit : goal.invariant-loop-commit
invariant-loop-commit l = l.commit-items ≡ map (cut (coordinator_of l.node)) (take l.commit-index l.fn.commits.items) ++ drop l.commit-index l.fn.commits.items
