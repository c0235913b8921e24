-- Joins under ids that aren't remembered.
use Rattle.std.proofs.Common.{◌≡◌, not, List, ℕ, Option, Some, None, refl}
use Rattle.group_types.specs.Group.{Group}
use Rattle.coord_node.specs.Coordinator.{is_remembered_at}
use Rattle.world_sim.specs.Acts.{is_unremembered}

pub not_remembered : (o : Option Group) (id : List ℕ) → not (is_remembered_at o id) ≡ is_unremembered o id
not_remembered None id = refl
not_remembered (Some g) id = refl
