-- What the writes of a list of topics make of its listing.
use Rattle.std.proofs.Common.{◌≡◌, ℕ, zero, suc, ◌+◌, ℤ, Bool, true, false, List, [], ◌∷◌, ◌++◌, length, slice_index_or, slice_set, refl, sym, ap, ◌∙◌, arith, if◌then◌else◌}
use Rattle.std.specs.Str.{bytes_eq}
use Rattle.kip_msgs.specs.declared.heartbeat.TopicPartitions.{TopicPartitions}
use Rattle.kip_msgs.specs.Topics.{topic_partitions_value, topic_partitions_values}
use Rattle.kip_msgs.specs.Listing.{alone}
use Rattle.kip_msgs.specs.Growth.{behind, with_index}

-- a last entry of the topic takes the index
pub behind-in_place : (ts : List TopicPartitions) (i : ℕ) (last : TopicPartitions) (topic : List ℕ) (index : ℤ) (new : List ℤ)
    → i + 1 ≡ length ts → last ≡ slice_index_or ts i last → true ≡ bytes_eq last.topic_id topic → new ≡ last.partitions ++ index ∷ []
    → topic_partitions_values (slice_set ts i (record last { partitions = new })) ≡ behind (topic_partitions_values ts) topic index
behind-in_place [] i last topic index new at is eq grows = absurd (omega arith)
behind-in_place (t ∷ []) zero last topic index new at is eq grows =
    let taken : topic_partitions_value (record last { partitions = new }) ≡ with_index (topic_partitions_value last) index =
    ap (λ (x : List ℤ). topic_partitions_value (record last { partitions = x })) grows in
    ap (λ (x : _). x ∷ []) taken
    ∙ ap (λ (b : Bool). if b then with_index (topic_partitions_value last) index ∷ [] else topic_partitions_value last ∷ alone topic index ∷ []) eq
    ∙ ap (λ (x : TopicPartitions). behind (topic_partitions_value x ∷ []) topic index) is
behind-in_place (t ∷ []) (suc i) last topic index new at is eq grows = absurd (omega arith)
behind-in_place (t ∷ u ∷ us) zero last topic index new at is eq grows = absurd (omega arith)
behind-in_place (t ∷ u ∷ us) (suc i) last topic index new at is eq grows =
    ap (λ rest. topic_partitions_value t ∷ rest) (behind-in_place (u ∷ us) i last topic index new (omega arith) is eq grows)

-- behind a last entry of another topic the partition is an entry of its own
pub behind-beside : (ts : List TopicPartitions) (i : ℕ) (last : TopicPartitions) (topic : List ℕ) (index : ℤ)
    → i + 1 ≡ length ts → last ≡ slice_index_or ts i last → false ≡ bytes_eq last.topic_id topic
    → behind (topic_partitions_values ts) topic index ≡ topic_partitions_values ts ++ alone topic index ∷ []
behind-beside [] i last topic index at is eq = absurd (omega arith)
behind-beside (t ∷ []) zero last topic index at is eq =
    sym (ap (λ (x : TopicPartitions). behind (topic_partitions_value x ∷ []) topic index) is)
    ∙ ap (λ (b : Bool). if b then with_index (topic_partitions_value last) index ∷ [] else topic_partitions_value last ∷ alone topic index ∷ []) (sym eq)
    ∙ ap (λ (x : TopicPartitions). topic_partitions_value x ∷ alone topic index ∷ []) is
behind-beside (t ∷ []) (suc i) last topic index at is eq = absurd (omega arith)
behind-beside (t ∷ u ∷ us) zero last topic index at is eq = absurd (omega arith)
behind-beside (t ∷ u ∷ us) (suc i) last topic index at is eq =
    ap (λ rest. topic_partitions_value t ∷ rest) (behind-beside (u ∷ us) i last topic index (omega arith) is eq)

pub topic_partitions_values-push : (ts : List TopicPartitions) (t : TopicPartitions) → topic_partitions_values (ts ++ t ∷ []) ≡ topic_partitions_values ts ++ topic_partitions_value t ∷ []
topic_partitions_values-push [] t = refl
topic_partitions_values-push (u ∷ us) t = ap (λ rest. topic_partitions_value u ∷ rest) (topic_partitions_values-push us t)

-- to write what stands there changes nothing
pub slice_set-itself : {X : Type 0} (xs : List X) (i : ℕ) (x : X) → x ≡ slice_index_or xs i x → slice_set xs i x ≡ xs
slice_set-itself [] i x is = refl
slice_set-itself (y ∷ ys) zero x is = ap (λ z. z ∷ ys) is
slice_set-itself (y ∷ ys) (suc i) x is = ap (λ rest. y ∷ rest) (slice_set-itself ys i x is)
