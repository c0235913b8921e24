-- The order of partitions, and sets of them.
use Rattle.std.specs.Prelude.{◌≡◌, ℕ, ℤ, List, refl}
use Rattle.std.specs.List.Sorted.{IsPartitionPoint}
use Rattle.std.specs.declared.cmp.Ordering.{Ordering}
use Rattle.std.specs.declared.cmp.Ordering.TheVariants.{Less, Greater}
use Rattle.std.specs.Ordering.{nat_cmp, int_cmp, ordering_then}
use Rattle.std.specs.Cmp.Lexicographic.{slice_cmp}
use Rattle.std.specs.Coded.{Coded, code_by, coded×, coded_list, coded_ℕ, coded_ℤ}
use Rattle.group_types.specs.declared.partition.Partition.{Partition}
use Rattle.group_types.specs.Sets.{FinSet}

-- by the sixteen bytes of the topic's id, then by the index
abbrev pub partition_cmp : Partition → Partition → Ordering
partition_cmp p q = ordering_then (slice_cmp nat_cmp p.topic q.topic) (int_cmp p.index q.index)

abbrev pub Partitions : Type 0
Partitions = FinSet partition_cmp

-- a partition is stored as the pair of its fields
abbrev pub partition_code : Coded Partition
partition_code =
    code_by (List ℕ × ℤ) (coded× (coded_list coded_ℕ) coded_ℤ) (λ p. (p.topic, p.index)) (λ c. record { topic = c.0; index = c.1 }) (λ _. refl)

-- the place of the partition in a list that rises and hasn't got it: what is before it is less, and the rest is greater
abbrev pub IsGap : Partition → List Partition → ℕ → Type 0
IsGap p ps at = IsPartitionPoint (λ q. partition_cmp q p ≡ Less) (λ q. partition_cmp q p ≡ Greater) ps at
