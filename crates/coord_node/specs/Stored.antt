-- How a coordinator's state and a node's are stored: as the nested pairs of their fields.
use Rattle.std.specs.Prelude.{ℕ, List, refl}
use Rattle.std.specs.Coded.{Coded, code_by, coded×, coded_list, coded_ℕ}
use Rattle.std.specs.FinMap as finite
use Rattle.group_types.specs.Topics.{Topics}
use Rattle.topic_meta.specs.Stored.{topics_code}
use Rattle.group_reconcile.specs.Holders.{holders_code}
use Rattle.group_core.specs.Group.{group_code}
use Rattle.coord_node.specs.Coordinator.{Coordinator, Groups}
use Rattle.coord_node.specs.Nodes.{Named, NodeValue}

abbrev pub coordinator_code : Coded Coordinator
coordinator_code =
    code_by (ℕ × (Groups × Topics)) (coded× coded_ℕ (coded× (finite.code (coded_list coded_ℕ) group_code) topics_code))
    (λ c. (c.salt, (c.groups, c.image))) (λ p. record { salt = p.0; groups = p.1.0; image = p.1.1 }) (λ _. refl)

abbrev pub node_code : Coded NodeValue
node_code =
    code_by (ℕ × (Topics × List Named)) (coded× coded_ℕ (coded× topics_code (coded_list (coded× (coded_list coded_ℕ) (coded× group_code holders_code)))))
    (λ n. (n.salt, (n.image, n.groups))) (λ p. record { salt = p.0; image = p.1.0; groups = p.1.1 }) (λ _. refl)
