use Rattle.std.proofs.Common.{rules, ◌≡◌, ◌-◌, ◌<◌, true≢false, List, [], ◌∷◌, ◌++◌, ℤ, sym, ap, ◌∙◌, refl, arith, to_z, of_z, w32, vec_len}
use Rattle.std.specs.Global.{Vec}
use Rattle.std.proofs.lemmas.List.{nil_from_length}
use Rattle.kip_msgs.specs.declared.heartbeat.TopicPartitions.{TopicPartitions}
use Rattle.kip_msgs.specs.Values.{TopicPartitionsValue}
use Rattle.kip_msgs.specs.Topics.{topic_partitions_value, topic_partitions_values}
use Rattle.kip_msgs.specs.Listing.{alone}
use Rattle.kip_msgs.specs.Growth.{behind}
use Rattle.kip_msgs.proofs.GrowthLemmas.{behind-in_place, behind-beside, topic_partitions_values-push, slice_set-itself}
use Rattle.kip_msgs.proofs.listing.list_partition.Goals as goal
use Rattle.kip_msgs.proofs.listing.list_partition.Goals.{in-Some+else-eq, in_default}

pub returns-then-eq : goal.returns-then-eq
returns-then-eq c =
    let v = c.args.topics.now in
    let some : 0 < vec_len v = c.in-Some.ensures.variant.0 refl in
    let index : to_z w32 (of_z w32 c.args.index) ≡ c.args.index = search rules in
    behind-in_place v.items (vec_len v - 1) c.in-Some.last.now c.args.topic_id.now c.args.index c.push.new.self
    (omega (arith, v.ok.0)) c.in-Some.ensures.value c.if-eq.ensures
    (c.in_ok-push.ensures.items ∙ ap (λ (i : ℤ). c.in-Some.last.now.partitions ++ i ∷ []) index)

pub returns : goal.returns
returns c =
    let v = c.args.topics.now in
    let topic = c.args.topic_id.now in
    let index = c.args.index in
    let same : to_z w32 (of_z w32 index) ≡ index = search rules in
    let pushed : (before : List TopicPartitions) → c.match-last_mut.topics.items ≡ before → topic_partitions_values c.push-2.new.self.items ≡ topic_partitions_values before ++ alone topic index ∷ [] =
    λ before is.
    ap topic_partitions_values c.in_ok-push-2.ensures.items
    ∙ topic_partitions_values-push c.match-last_mut.topics.items c.in_ok-entry.entry
    ∙ ap (λ (es : List TopicPartitions). topic_partitions_values es ++ topic_partitions_value c.in_ok-entry.entry ∷ []) is
    ∙ ap (λ (t : TopicPartitionsValue). topic_partitions_values before ++ t ∷ []) (c.in_ok-entry.ensures ∙ ap (alone topic) same) in
    elim c.match-last_mut.branch [
      | in-Some+else-eq w ↦
          let some : 0 < vec_len v = w.in-Some.ensures.variant.0 refl in
          pushed v.items (ap (λ (x : Vec TopicPartitions). x.items) w.topics-is ∙ slice_set-itself v.items (vec_len v - 1) w.in-Some.last.now w.in-Some.ensures.value)
          ∙ sym (behind-beside v.items (vec_len v - 1) w.in-Some.last.now topic index (omega (arith, v.ok.0)) w.in-Some.ensures.value w.if-eq.ensures)
      | in_default w ↦
          let none : 0 < vec_len v → ⊥ = λ h. true≢false (sym (w.in_default.ensures.variant.1 h)) in
          let empty : v.items ≡ [] = nil_from_length v.items (omega (arith, v.ok.0)) in
          pushed [] (ap (λ (x : Vec TopicPartitions). x.items) w.topics-is ∙ empty)
          ∙ ap (λ (es : List TopicPartitions). behind (topic_partitions_values es) topic index) (sym empty)
    ]
