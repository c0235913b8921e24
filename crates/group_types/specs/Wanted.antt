-- KIP-848, "Target Assignment": what a target wants of a member.
use Rattle.std.specs.Prelude.{ℕ, refl}
use Rattle.std.specs.Coded.{Coded, code_by, coded×, coded_ℕ}
use Rattle.std.specs.FinSet as set
use Rattle.group_types.specs.Partition.{Partitions, partition_code}

-- a member's partitions in a target, and the target's epoch
pub record TargetPart : Type 0 where
  pub partitions : Partitions
  pub epoch : ℕ

-- a part of a target is stored as the pair of its fields
abbrev pub target_part_code : Coded TargetPart
target_part_code =
    code_by (Partitions × ℕ) (coded× (set.code partition_code) coded_ℕ) (λ t. (t.partitions, t.epoch)) (λ p. record { partitions = p.0; epoch = p.1 }) (λ _. refl)
