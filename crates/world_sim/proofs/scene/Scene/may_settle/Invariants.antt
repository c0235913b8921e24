use Rattle.std.proofs.Common.{◌≡◌, ℕ, ◌<◌, slice_get, Some}
use Rattle.coord_node.specs.Nodes.{coordinator_of}
use Rattle.member_core.specs.Client.{Client}
use Rattle.world_sim.specs.Fitting.{IsFit}
use Rattle.world_sim.proofs.scene.Scene.may_settle.Given as goal

abbrev pub invariant-loop-place : goal.invariant-loop-place
invariant-loop-place l = (k : ℕ) (c : Client) → k < l.place → slice_get l.self.clients.items k ≡ Some c → IsFit (coordinator_of l.self.node) l.self.clients.items c
