-- How a replica is stored: as the nested pairs of its fields.
use Rattle.std.specs.Prelude.{ℕ, Option, refl}
use Rattle.std.specs.Coded.{Coded, code_by, coded×, coded_option, coded_ℕ}
use Rattle.coord_node.specs.Nodes.{NodeValue}
use Rattle.coord_node.specs.Stored.{node_code}
use Rattle.coord_replica.specs.declared.leading.Leading.{Leading}
use Rattle.coord_replica.specs.Replicas.{ReplicaValue}

abbrev pub leading_code : Coded Leading
leading_code =
    code_by (ℕ × ℕ) (coded× coded_ℕ coded_ℕ) (λ l. (l.clock, l.moment)) (λ p. record { clock = p.0; moment = p.1 }) (λ _. refl)

abbrev pub replica_code : Coded ReplicaValue
replica_code =
    code_by (NodeValue × (ℕ × (ℕ × (ℕ × (Option Leading × ℕ)))))
    (coded× node_code (coded× coded_ℕ (coded× coded_ℕ (coded× coded_ℕ (coded× (coded_option leading_code) coded_ℕ)))))
    (λ r. (r.node, (r.applied, (r.leadership, (r.moment, (r.leading, r.proposed))))))
    (λ (node, (applied, (leadership, (moment, (leading, proposed))))).
    record { node = node; applied = applied; leadership = leadership; moment = moment; leading = leading; proposed = proposed }) (λ _. refl)
