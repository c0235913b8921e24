-- Whether all that a list of entries names is granted.
use Rattle.std.proofs.Common.{◌≡◌, ℤ, Bool, true, false, ◌&&◌, List, [], ◌∷◌, ◌++◌, map, refl, sym, ap, ◌∙◌}
use Rattle.std.specs.List.{flat_map, list_all}
use Rattle.group_types.specs.Text.{Text}
use Rattle.group_types.specs.Sets.{has}
use Rattle.group_types.specs.Group.{Grants, held}
use Rattle.group_types.proofs.GrantLemmas.{has-held}
use Rattle.kip_msgs.specs.declared.heartbeat.TopicPartitions.{TopicPartitions}
use Rattle.kip_msgs.specs.Topics.{topic_partitions_value, topic_partitions_values}
use Rattle.group_epochs.specs.Request.{partitions_of}

and_group : (a b c : Bool) → (a && (b && c)) ≡ ((a && b) && c)
and_group true b c = refl
and_group false b c = refl

all-append : {X : Type 0} (test : X → Bool) (xs ys : List X) → list_all test (xs ++ ys) ≡ (list_all test xs && list_all test ys)
all-append test [] ys = refl
all-append test (x ∷ xs) ys = ap (λ b. test x && b) (all-append test xs ys) ∙ and_group (test x) _ _

module _ (grants : Grants) (m : Text) where
  of_topic : (topic : List _) (indexes : List ℤ) → list_all (λ i. has (held grants m) (record { topic = topic; index = i })) indexes
      ≡ list_all (λ p. has grants (m, p)) (map (λ i. record { topic = topic; index = i }) indexes)
  of_topic topic [] = refl
  of_topic topic (i ∷ is) = λ j. has-held grants m (record { topic = topic; index = i }) j && of_topic topic is j

  pub all_granted : (entries : List TopicPartitions)
      → list_all (λ e. list_all (λ i. has (held grants m) (record { topic = e.topic_id; index = i })) e.partitions) entries
      ≡ list_all (λ p. has grants (m, p)) (flat_map partitions_of (topic_partitions_values entries))
  all_granted [] = refl
  all_granted (e ∷ es) =
      (λ j. of_topic e.topic_id e.partitions j && all_granted es j)
      ∙ sym (all-append (λ p. has grants (m, p)) (partitions_of (topic_partitions_value e)) (flat_map partitions_of (topic_partitions_values es)))
