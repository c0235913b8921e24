-- How a world is stored: each record as the nested pairs of its fields.
use Rattle.std.specs.Prelude.{ℕ, List, refl}
use Rattle.std.specs.Coded.{Coded, code_by, coded×, coded_ℕ, coded_list}
use Rattle.std.specs.FinSet as set
use Rattle.group_types.specs.declared.stamp.Stamp.{Stamp}
use Rattle.group_types.specs.Text.{Text}
use Rattle.group_types.specs.Partition.{Partitions, partition_code}
use Rattle.coord_node.specs.Coordinator.{Coordinator}
use Rattle.coord_node.specs.Stored.{coordinator_code}
use Rattle.member_core.specs.Client.{Client}
use Rattle.member_core.specs.ClientCode.{client_code}
use Rattle.world_sim.specs.World.{Request, Reply, Commit, World}

abbrev bytes_code : Coded (List ℕ)
bytes_code = coded_list coded_ℕ

abbrev stamp_code : Coded Stamp
stamp_code = code_by (ℕ × ℕ) (coded× coded_ℕ coded_ℕ) (λ s. (s.connection, s.frame)) (λ p. record { connection = p.0; frame = p.1 }) (λ _. refl)

abbrev request_code : Coded Request
request_code =
    code_by (ℕ × (Stamp × List ℕ)) (coded× coded_ℕ (coded× stamp_code bytes_code))
    (λ q. (q.sender, (q.stamp, q.body))) (λ p. record { sender = p.0; stamp = p.1.0; body = p.1.1 }) (λ _. refl)

abbrev reply_code : Coded Reply
reply_code =
    code_by (Request × List ℕ) (coded× request_code bytes_code) (λ r. (r.request, r.body)) (λ p. record { request = p.0; body = p.1 }) (λ _. refl)

abbrev partitions_code : Coded Partitions
partitions_code = set.code partition_code

abbrev CommitFields : Type 0
CommitFields = List ℕ × (Text × (Text × (ℕ × (Partitions × Partitions))))

abbrev pub commit_code : Coded Commit
commit_code =
    code_by CommitFields (coded× bytes_code (coded× bytes_code (coded× bytes_code (coded× coded_ℕ (coded× partitions_code partitions_code)))))
    (λ k. (k.body, (k.group, (k.id, (k.epoch, (k.own, k.since))))))
    (λ p. record { body = p.0; group = p.1.0; id = p.1.1.0; epoch = p.1.1.1.0; own = p.1.1.1.1.0; since = p.1.1.1.1.1 }) (λ _. refl)

abbrev WorldFields : Type 0
WorldFields = Coordinator × (ℕ × (List Client × (List Request × (List Reply × List Commit))))

abbrev pub world_code : Coded World
world_code =
    code_by WorldFields
    (coded× coordinator_code (coded× coded_ℕ (coded× (coded_list client_code) (coded× (coded_list request_code) (coded× (coded_list reply_code) (coded_list commit_code))))))
    (λ w. (w.coordinator, (w.clock, (w.clients, (w.requests, (w.replies, w.commits))))))
    (λ p. record { coordinator = p.0; clock = p.1.0; clients = p.1.1.0; requests = p.1.1.1.0; replies = p.1.1.1.1.0; commits = p.1.1.1.1.1 }) (λ _. refl)
