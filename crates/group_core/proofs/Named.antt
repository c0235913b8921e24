-- Whether a list of entries names a partition.
use Rattle.std.proofs.Common.{◌≡◌, ℕ, suc, ◌==◌, length, false, not, ◌||◌, List, [], ◌∷◌, ◌++◌, map, refl, sym, ap, ◌∙◌}
use Rattle.std.proofs.Math.ListN.{length-map}
use lib.Dec.{eqb-suc-zero}
use Rattle.std.specs.List.{flat_map, list_any}
use Rattle.group_types.specs.declared.partition.Partition.{Partition}
use Rattle.group_types.specs.Request.{is_empty}
use Rattle.kip_msgs.specs.declared.heartbeat.TopicPartitions.{TopicPartitions}
use Rattle.kip_msgs.specs.Topics.{topic_partitions_value, topic_partitions_values}
use Rattle.group_epochs.specs.Request.{partitions_of}

no_zero : (n : ℕ) → (suc n == 0) ≡ false
no_zero n = eqb-suc-zero n

is_empty-append : {A : Type 0} (xs ys : List A) → not (is_empty (xs ++ ys)) ≡ (not (is_empty xs) || not (is_empty ys))
is_empty-append [] ys = refl
is_empty-append (x ∷ xs) ys = ap not (no_zero _) ∙ ap (λ b. not b || not (is_empty ys)) (sym (no_zero (length xs)))

is_empty-map : {A B : Type 0} (f : A → B) (xs : List A) → is_empty (map f xs) ≡ is_empty xs
is_empty-map f xs = ap (λ n. n == 0) (length-map xs f)

pub list_any-has_index : (entries : List TopicPartitions) → list_any (λ entry. not (is_empty entry.partitions)) entries ≡ not (is_empty (flat_map partitions_of (topic_partitions_values entries)))
list_any-has_index [] = refl
list_any-has_index (e ∷ es) =
    (λ i. not (sym (is_empty-map {B = Partition} (λ n. record { topic = e.topic_id; index = n }) e.partitions) i) || list_any-has_index es i)
    ∙ sym (is_empty-append (partitions_of (topic_partitions_value e)) _)
